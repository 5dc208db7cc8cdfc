-- The elements of a row lie less deep than the row: so a recursion down a term ends.
use Rattle.std.specs.Prelude.{◌≤◌, List, [], ◌∷◌}
use Rattle.std.proofs.Common.{arith}
use denote.Param.Weighed.{most}
use Rattle.erl_term.specs.declared.term.Term.{Term}
use Rattle.erl_term.specs.declared.term.Term.TheVariants.{Int, Atom, Pid, Tuple, List as ListOf}
use Rattle.erl_term.specs.declared.term.Terms.TheDeep.{deep-Term}
use Rattle.erl_term.specs.declared.term.Stored.{Stored}
use Rattle.erl_term.specs.declared.term.Stored.TheVariants.{Two, Three, Many}
use Rattle.erl_term.specs.declared.term.Terms.TheDeep.{deep-Stored}
use Rattle.erl_term.specs.Stored.{listed}
use Rattle.erl_term.specs.Tree.{depth, greatest_depth}
use Rattle.erl_term.specs.Term.{tree, trees}

pub deep-Term_le-depth : (t : Term) → deep-Term t ≤ depth (tree t)
deep-Term_le-depth (Int n) = omega arith
deep-Term_le-depth (Atom a) = omega arith
deep-Term_le-depth (Pid n) = omega arith
deep-Term_le-depth (Tuple ts) = omega arith
deep-Term_le-depth (ListOf ts) = omega arith

pub most_le-greatest_depth : (ts : List Term) → most (λ t. deep-Term t) ts ≤ greatest_depth (trees ts)
most_le-greatest_depth [] = omega arith
most_le-greatest_depth (t ∷ ts) = omega (arith, most_le-greatest_depth ts, deep-Term_le-depth t)

pub deep_le-greatest_depth : (items : Stored) → deep-Stored items ≤ greatest_depth (trees (listed items))
deep_le-greatest_depth (Two ts) = omega (arith, most_le-greatest_depth ts)
deep_le-greatest_depth (Three ts) = omega (arith, most_le-greatest_depth ts)
deep_le-greatest_depth (Many ts) = omega (arith, most_le-greatest_depth ts.items)
