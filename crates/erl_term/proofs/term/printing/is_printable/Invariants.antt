-- All terms are printable where those that are left are.
use Rattle.std.proofs.Common.{◌≡◌, drop, is_some}
use Rattle.erl_term.specs.Term.{trees}
use Rattle.erl_term.specs.Text.{printable}
use Rattle.erl_term.proofs.term.printing.is_printable.Given as goal

abbrev pub invariant-loop-term : goal.invariant-loop-term
invariant-loop-term l =
    is_some (printable (trees (drop l.term-index l.terms))) ≡ is_some (printable (trees l.terms))
