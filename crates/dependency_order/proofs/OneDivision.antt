-- Groups and their orders are the only ones.
use Rattle.std.proofs.Common.{◌≡◌, ℕ, Bool, List, [], ◌∷◌, map, sym, ap, ◌∙◌, refl, subst}
use Rattle.dependency_order.specs.declared.group.Group.{Group}
use Rattle.dependency_order.specs.Groups.{AreGroups, leaders, members}
use Rattle.dependency_order.specs.Orders.{AreOrdered, AreOrderedGroups, IsOrderOf, IsOrdered, for_dependants, for_dependencies}
use Rattle.dependency_order.proofs.Chains.{firsts-same}
use Rattle.dependency_order.proofs.Takings.{orders-same}

order_one : (waits : ℕ → ℕ → Bool) (group ps qs : List ℕ) → IsOrderOf waits group ps → IsOrderOf waits group qs → ps ≡ qs
order_one waits group ps qs one other =
    orders-same waits ps qs (λ p. one.same p ∙ sym (other.same p)) one.in_order other.in_order

both_same : (o p : Group) → o.dependencies_first ≡ p.dependencies_first → o.dependants_first ≡ p.dependants_first → o ≡ p
both_same o p one other =
    ap (λ l. record { dependencies_first = l; dependants_first = o.dependants_first }) one ∙ ap (λ s. record { dependencies_first = p.dependencies_first; dependants_first = s }) other

ordered_one : (names : ℕ → ℕ → Bool) (group : List ℕ) (o p : Group) → IsOrdered names group o → IsOrdered names group p → o ≡ p
ordered_one names group o p one other =
    both_same o p (order_one (for_dependencies names) group o.dependencies_first p.dependencies_first one.dependencies other.dependencies)
    (order_one (for_dependants names) group o.dependants_first p.dependants_first one.dependants other.dependants)

ordered-same : (names : ℕ → ℕ → Bool) (groups : List (List ℕ)) (os ps : List Group) → AreOrdered names groups os → AreOrdered names groups ps → os ≡ ps
ordered-same names [] [] [] one other = refl
ordered-same names [] [] (p ∷ ps) one other = absurd other
ordered-same names [] (o ∷ os) ps one other = absurd one
ordered-same names (g ∷ gs) [] ps one other = absurd one
ordered-same names (g ∷ gs) (o ∷ os) [] one other = absurd other
ordered-same names (g ∷ gs) (o ∷ os) (p ∷ ps) one other =
    ap (λ x. x ∷ os) (ordered_one names g o p one.0 other.0) ∙ ap (λ xs. p ∷ xs) (ordered-same names gs os ps one.1 other.1)

groups_one : (names : ℕ → ℕ → Bool) (count : ℕ) (gs hs : List (List ℕ)) → AreGroups names count gs → AreGroups names count hs → gs ≡ hs
groups_one names count gs hs one other =
    one.is ∙ ap (λ firsts. map (members firsts) (leaders firsts)) (firsts-same names count one.firsts other.firsts one.are other.are) ∙ sym other.is

pub division_one : (names : ℕ → ℕ → Bool) (count : ℕ) (os ps : List Group) → AreOrderedGroups names count os → AreOrderedGroups names count ps → os ≡ ps
division_one names count os ps one other =
    let same : other.groups ≡ one.groups = groups_one names count other.groups one.groups other.are one.are in
    let Are : List (List ℕ) → Type 0 = λ gs. AreOrdered names gs ps in
    ordered-same names one.groups os ps one.are_ordered (subst Are same other.are_ordered)
