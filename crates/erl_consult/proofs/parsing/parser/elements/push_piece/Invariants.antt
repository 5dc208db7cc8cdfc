-- The characters so far stand behind the terms that were there.
use Rattle.std.proofs.Common.{◌≡◌}
use Rattle.erl_term.specs.Rows.{append_trees, integers}
use Rattle.erl_term.specs.Term.{trees}
use Rattle.erl_consult.proofs.parsing.parser.elements.push_piece.Given as goal

abbrev pub invariant-loop-c : goal.invariant-loop-c
invariant-loop-c l =
    trees l.items.items ≡ append_trees (trees l.fn.items.items) (integers l.yielded)
