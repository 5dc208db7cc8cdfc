-- The terms so far are the characters so far.
use Rattle.std.proofs.Common.{◌≡◌}
use Rattle.erl_term.specs.Rows.{integers}
use Rattle.erl_term.specs.Term.{trees}
use Rattle.erl_term.proofs.conversions.RefStrToTerm.to_term.Given as goal

abbrev pub invariant-loop-c : goal.invariant-loop-c
invariant-loop-c l = trees l.terms.items ≡ integers l.yielded
