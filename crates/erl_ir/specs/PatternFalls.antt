-- The patterns of a row lie less deep than the row: so a recursion down a pattern ends.
use Rattle.std.specs.Prelude.{◌≤◌, List, [], ◌∷◌}
use Rattle.std.proofs.Common.{arith}
use denote.Param.Weighed.{most}
use Rattle.erl_ir.specs.declared.pattern.Pattern.{Pattern}
use Rattle.erl_ir.specs.declared.pattern.Pattern.TheVariants.{Literal, Variable, Anything, Tuple, List as ListOf, Cons, Alias}
use Rattle.erl_ir.specs.declared.pattern.Patterns.TheDeep.{deep-Pattern}
use Rattle.erl_ir.specs.Pattern.{pat_depth, pats_depth}
use Rattle.erl_ir.specs.PatternForms.{pat, pats}

pub deep-Pattern_le-depth : (p : Pattern) → deep-Pattern p ≤ pat_depth (pat p)
deep-Pattern_le-depth (Literal t) = omega arith
deep-Pattern_le-depth (Variable index) = omega arith
deep-Pattern_le-depth Anything = omega arith
deep-Pattern_le-depth (Tuple ps) = omega arith
deep-Pattern_le-depth (ListOf ps) = omega arith
deep-Pattern_le-depth (Cons ps) = omega arith
deep-Pattern_le-depth (Alias ps) = omega arith

pub most_le-pats_depth : (ps : List Pattern) → most (λ p. deep-Pattern p) ps ≤ pats_depth (pats ps)
most_le-pats_depth [] = omega arith
most_le-pats_depth (p ∷ ps) = omega (arith, most_le-pats_depth ps, deep-Pattern_le-depth p)
