-- Each call goes down, a level or within it; and what is kept from turn to turn.
use Rattle.std.proofs.Common.{◌≡◌, ◌+◌, ◌-◌, ◌*◌, length}
use Rattle.erl_ast.specs.Terminal.{terminals}
use Rattle.erl_ast.specs.declared.role.Role.TheVariants.{Test}
use Rattle.erl_expressions.specs.declared.delimiter.Delimiter.TheVariants.{Comma, Semicolon}
use Rattle.erl_expressions.specs.Reading.{read, row, one_clause, clauses_to_end, alternatives, separated, and_then, climbed, rest_of_row, rest_of_trees, rest_of_guards, rest_of_clauses}
use Rattle.erl_ast.specs.Grammar.{operations}
use Rattle.erl_expressions.specs.Refusing.{Leaves}
use Rattle.erl_expressions.proofs.reader.+reading.Given as goal

abbrev pub decreases-brackets::bracketed : goal.decreases-brackets::bracketed
decreases-brackets::bracketed l = 16 * l.levels + 6

abbrev pub decreases-brackets::listed : goal.decreases-brackets::listed
decreases-brackets::listed l = 16 * l.levels + 6

abbrev pub decreases-brackets::parenthesized : goal.decreases-brackets::parenthesized
decreases-brackets::parenthesized l = 16 * l.levels + 6

abbrev pub decreases-brackets::parts : goal.decreases-brackets::parts
decreases-brackets::parts l = 16 * l.levels + 5

abbrev pub decreases-brackets::row : goal.decreases-brackets::row
decreases-brackets::row l = 16 * l.levels + 3

abbrev pub decreases-brackets::row_of_more : goal.decreases-brackets::row_of_more
decreases-brackets::row_of_more l = 16 * l.levels + 2

abbrev pub decreases-brackets::row_of_many : goal.decreases-brackets::row_of_many
decreases-brackets::row_of_many l = 16 * l.levels + 1

abbrev pub decreases-brackets::tailed : goal.decreases-brackets::tailed
decreases-brackets::tailed l = 16 * l.levels + 5

abbrev pub decreases-clauses::alternatives : goal.decreases-clauses::alternatives
decreases-clauses::alternatives l = 16 * l.levels + 4

abbrev pub decreases-clauses::arm : goal.decreases-clauses::arm
decreases-clauses::arm l = 16 * l.levels + 6

abbrev pub decreases-clauses::cased : goal.decreases-clauses::cased
decreases-clauses::cased l = 16 * l.levels + 9

abbrev pub decreases-clauses::clauses_to_end : goal.decreases-clauses::clauses_to_end
decreases-clauses::clauses_to_end l = 16 * l.levels + 8

abbrev pub decreases-clauses::guarded : goal.decreases-clauses::guarded
decreases-clauses::guarded l = 16 * l.levels + 5

abbrev pub decreases-clauses::one_clause : goal.decreases-clauses::one_clause
decreases-clauses::one_clause l = 16 * l.levels + 7

abbrev pub decreases-operands::begun : goal.decreases-operands::begun
decreases-operands::begun l = 16 * l.levels + 12

abbrev pub decreases-operands::begun_by_mark : goal.decreases-operands::begun_by_mark
decreases-operands::begun_by_mark l = 16 * l.levels + 10

abbrev pub decreases-operands::begun_by_word : goal.decreases-operands::begun_by_word
decreases-operands::begun_by_word l = 16 * l.levels + 10

abbrev pub decreases-operands::called : goal.decreases-operands::called
decreases-operands::called l = 16 * l.levels + 8

abbrev pub decreases-operands::construct : goal.decreases-operands::construct
decreases-operands::construct l = 16 * l.levels + 11

abbrev pub decreases-operands::own_called : goal.decreases-operands::own_called
decreases-operands::own_called l = 16 * l.levels + 8

abbrev pub decreases-operands::prefixed : goal.decreases-operands::prefixed
decreases-operands::prefixed l = 16 * l.levels + 8

abbrev pub decreases-operands::remote : goal.decreases-operands::remote
decreases-operands::remote l = 16 * l.levels + 7

abbrev pub decreases-operands::climbed : goal.decreases-operands::climbed
decreases-operands::climbed l = 16 * l.levels - 2

abbrev pub decreases-operands::joined : goal.decreases-operands::joined
decreases-operands::joined l = 16 * l.levels - 3

abbrev pub decreases-operands::matched : goal.decreases-operands::matched
decreases-operands::matched l = 16 * l.levels - 2

abbrev pub decreases-read : goal.decreases-read
decreases-read l = 16 * l.levels

abbrev pub invariant-brackets::row_of_many-loop-turn : goal.invariant-brackets::row_of_many-loop-turn
invariant-brackets::row_of_many-loop-turn l =
    (rest_of_trees l.others (read l.levels l.role l.most) l.fn.before (terminals l.fn.tokens) ≡
    and_then (separated Comma (l.others - l._turn) (read l.levels l.role l.most) (terminals l.left)) (rest_of_row l.items)) ×
    Leaves l.fn.tokens l.left

abbrev pub invariant-clauses::clauses_to_end-loop-turn : goal.invariant-clauses::clauses_to_end-loop-turn
invariant-clauses::clauses_to_end-loop-turn l =
    (clauses_to_end (read l.levels) (terminals l.tokens) ≡
    and_then (separated Semicolon (length l.tokens - l._turn) (one_clause (read l.levels)) (terminals l.left))
    (rest_of_clauses l.clauses)) × Leaves l.tokens l.left

abbrev pub invariant-clauses::alternatives-loop-turn : goal.invariant-clauses::alternatives-loop-turn
invariant-clauses::alternatives-loop-turn l =
    (alternatives (read l.levels) (terminals l.tokens) ≡
    and_then (separated Semicolon (length l.tokens - l._turn) (row (read l.levels Test operations)) (terminals l.left))
    (rest_of_guards l.guards)) × Leaves l.tokens l.left

abbrev pub invariant-operands::climbed-loop-turn : goal.invariant-operands::climbed-loop-turn
invariant-operands::climbed-loop-turn l =
    (climbed l.levels (read (l.levels - 1)) l.role l.most l.levels l.fn.first (terminals l.fn.tokens) ≡
    climbed (l.levels - l._turn) (read (l.levels - 1)) l.role l.most l.levels l.left (terminals l.rest)) × Leaves l.fn.tokens l.rest
