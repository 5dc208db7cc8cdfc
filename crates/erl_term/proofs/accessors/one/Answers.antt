-- The first term is the only one where no others are left.
use Rattle.std.proofs.Common.{sym, eq-eqb}
use Rattle.std.proofs.lemmas.Bool.{both_ways}
use Rattle.erl_term.specs.Term.{tree, trees}
use Rattle.erl_term.proofs.Accessing.{one_of-first}
use Rattle.erl_term.proofs.accessors.one.Goals as goal

pub returns-else-is_empty : goal.returns-else-is_empty
returns-else-is_empty c =
    (one_of-first (trees c.args.row.now) (tree c.in_ok-a.a.now) c.in_ok-a.rest.now c.in_ok-a.ensures).1 (λ empty. both_ways _ (sym c.if-is_empty.ensures) (eq-eqb _ 0 empty))
