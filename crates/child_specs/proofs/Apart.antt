-- Whether no two children have one Id, as it is read and as it is said.
use Rattle.std.proofs.Common.{◌≡◌, Bool, true, false, List, [], ◌∷◌, refl, sym, ap, ◌∙◌, not}
use Rattle.std.specs.Prelude.{◌||◌}
use Rattle.std.specs.Bool.{Decides}
use Rattle.std.specs.Cmp.{Equal-is, tied_itself}
use Rattle.std.specs.List.{AllByRecursion, IsDistinct, list_any}
use Rattle.std.specs.Ordering.{eq_by_cmp}
use Rattle.std.proofs.lemmas.Bool.{and_parts, or_parts}
use Rattle.std.proofs.lemmas.Map.Made.{AllPairs-from_IsDistinct, IsDistinct-from_AllPairs}
use Rattle.erl_term.specs.Order.{tree_cmp}
use Rattle.erl_term.specs.OrderLaws.{tree_cmp-same, tree_cmp-total}
use Rattle.erl_term.specs.Term.{tree}
use Rattle.erl_term.specs.Tree.{Tree}
use Rattle.erl_term.specs.declared.term.Term.{Term}
use Rattle.release_words.proofs.Parts.{both_true}
use Rattle.child_specs.specs.declared.child.ChildSpec.{ChildSpec}
use Rattle.child_specs.specs.Forms.{AreDistinct, ids}
use Rattle.child_specs.specs.Reading.{are_distinct, same_id}

-- an Id before another, told by the order
same : Tree → Tree → Bool
same t u = eq_by_cmp tree_cmp u t

same_Decides : (t u : Tree) → Decides (same t u) (t ≡ u)
unfolding same
same_Decides t u =
    let tied = Equal-is (tree_cmp u t) in
    (λ yes. sym (tree_cmp-same u t (tied.0 yes)), λ e. tied.1 (ap (tree_cmp u) e ∙ tied_itself tree_cmp-total u))

differ : (t : Term) (cs : List ChildSpec) → list_any (same_id t) cs ≡ false → AllByRecursion (λ u. same (tree t) u ≡ false) (ids cs)
unfolding same
differ t [] none = tt
differ t (c ∷ cs) none =
    let both = or_parts (same_id t c) (list_any (same_id t) cs) none in
    (both.0, differ t cs both.1)

none_same : (t : Term) (cs : List ChildSpec) → AllByRecursion (λ u. same (tree t) u ≡ false) (ids cs) → list_any (same_id t) cs ≡ false
unfolding same
none_same t [] all = refl
none_same t (c ∷ cs) all = ap (λ b. b || list_any (same_id t) cs) all.0 ∙ none_same t cs all.1

not_true : (b : Bool) → not b ≡ true → b ≡ false
not_true true holds = sym holds
not_true false holds = refl

by_ids : (cs : List ChildSpec) → are_distinct cs ≡ true → IsDistinct same (ids cs)
unfolding IsDistinct
by_ids [] holds = tt
by_ids (c ∷ cs) holds =
    let both = and_parts (not (list_any (same_id c.id) cs)) (are_distinct cs) holds in
    (differ c.id cs (not_true _ both.0), by_ids cs both.1)

from_ids : (cs : List ChildSpec) → IsDistinct same (ids cs) → are_distinct cs ≡ true
unfolding IsDistinct
from_ids [] distinct = refl
from_ids (c ∷ cs) distinct =
    both_true (not (list_any (same_id c.id) cs)) (are_distinct cs) (ap not (none_same c.id cs distinct.0)) (from_ids cs distinct.1)

pub distinct_is : (cs : List ChildSpec) → are_distinct cs ≡ true → AreDistinct cs
distinct_is cs holds = AllPairs-from_IsDistinct same_Decides (ids cs) (by_ids cs holds)

pub distinct_back : (cs : List ChildSpec) → AreDistinct cs → are_distinct cs ≡ true
distinct_back cs distinct = from_ids cs (IsDistinct-from_AllPairs same_Decides (ids cs) distinct)
