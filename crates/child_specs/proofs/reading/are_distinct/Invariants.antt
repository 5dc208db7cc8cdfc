-- The Ids of the children from here on are those that were put in, and no two of them are the same.
use Rattle.std.proofs.Common.{◌≡◌, true, drop, Bor}
use Rattle.std.specs.BTreeSet.{contains}
use Rattle.std.specs.List.{list_any}
use Rattle.std.specs.Ordering.{on}
use Rattle.erl_term.specs.declared.term.Term.{Term}
use Rattle.erl_term.specs.Order.{tree_cmp}
use Rattle.erl_term.specs.Term.{tree}
use Rattle.child_specs.specs.Reading.{are_distinct, same_id}
use Rattle.child_specs.proofs.reading.are_distinct.Given as goal

abbrev pub invariant-loop-index : goal.invariant-loop-index
invariant-loop-index l = record {
  known : (t : Bor Term) → contains (λ x y. on tree tree_cmp x.now y.now) l.ids t ≡ list_any (same_id t.now) (drop l.index l.children);
  distinct : are_distinct (drop l.index l.children) ≡ true;
}
