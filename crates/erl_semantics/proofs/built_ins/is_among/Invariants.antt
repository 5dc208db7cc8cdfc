use Rattle.std.proofs.Common.{◌≡◌, drop}
use Rattle.erl_term.specs.Term.{tree, trees}
use Rattle.erl_semantics.specs.BuiltIns.{has_member}
use Rattle.erl_semantics.proofs.built_ins.is_among.Given as goal

abbrev pub invariant-loop-term : goal.invariant-loop-term
invariant-loop-term l = has_member (tree l.x) (trees (drop l.term-index l.terms)) ≡ has_member (tree l.x) (trees l.terms)
