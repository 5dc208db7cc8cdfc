use Rattle.std.proofs.Common.{◌≡◌, ◌<◌, ℕ, Bool, true, false, List, length, map, All, arith, sym, ap, ◌∙◌, subst}
use Rattle.std.proofs.lemmas.List.Elements.{All-from_get_or}
use Rattle.dependency_order.specs.Dealt.{part_of}
use Rattle.dependency_order.specs.Forests.{IsForest}
use Rattle.dependency_order.specs.Groups.{leaders}
use Rattle.dependency_order.specs.Left.{AreBothWays, waits_by}
use Rattle.dependency_order.specs.Lists.{AreBelow, AreEntered, is_named, is_on, upto}
use Rattle.dependency_order.specs.Orders.{IsOrderOf}
use Rattle.dependency_order.proofs.Entering.{entered_below}
use Rattle.dependency_order.proofs.Grouping.{grouped, order-below}
use Rattle.dependency_order.proofs.Linking.{both_ways}
use Rattle.dependency_order.proofs.dividing.groups.Goals as goal

below_own : (has : ℕ → ℕ → Bool) (count n : ℕ) (lists : List (List ℕ)) → AreEntered has count count lists → count ≡ n → AreBelow n lists
below_own has count n lists are e = let B : ℕ → Type 0 = λ m. AreBelow m lists in subst B e (entered_below has count count lists are)

pub firsts-requires-clause-on_known : goal.firsts-requires-clause-on_known
firsts-requires-clause-on_known c =
    let are = c.in_ok-standing.ensures.of_modules in
    below_own (is_on c.args.vertices.now) (length c.args.vertices.now) _ c.in_ok-standing.standing.vertices are (sym are.many)

pub firsts-requires-clause-namers_known : goal.firsts-requires-clause-namers_known
firsts-requires-clause-namers_known c =
    let are = c.in_ok-naming.ensures.of_modules in
    below_own (is_named c.args.vertices.now) (length c.args.vertices.now) _ c.in_ok-naming.naming.vertices are (sym c.in_ok-standing.ensures.of_modules.many)

both_at : (has : ℕ → ℕ → Bool) (count n : ℕ) (modules vertices : List (List ℕ)) → AreBothWays count modules vertices → count ≡ n → AreBothWays n modules vertices
both_at has count n modules vertices are e = let B : ℕ → Type 0 = λ m. AreBothWays m modules vertices in subst B e are

pub in_order-requires-clause-asks : goal.in_order-requires-clause-asks
in_order-requires-clause-asks c =
    let n = length c.args.vertices.now in
    let is = c.in_ok-naming.ensures in
    both_at (is_named c.args.vertices.now) n _ c.in_ok-naming.naming.modules c.in_ok-naming.naming.vertices (both_ways (is_named c.args.vertices.now) n c.in_ok-naming.naming.modules c.in_ok-naming.naming.vertices is) (sym is.of_vertices.many)

pub in_order-requires-clause-gives : goal.in_order-requires-clause-gives
in_order-requires-clause-gives c =
    let n = length c.args.vertices.now in
    let is = c.in_ok-standing.ensures in
    both_at (is_on c.args.vertices.now) n _ c.in_ok-standing.standing.modules c.in_ok-standing.standing.vertices (both_ways (is_on c.args.vertices.now) n c.in_ok-standing.standing.modules c.in_ok-standing.standing.vertices is) (sym c.in_ok-naming.ensures.of_vertices.many)

pub in_order-requires-2-clause-asks : goal.in_order-requires-2-clause-asks
in_order-requires-2-clause-asks c =
    let n = length c.args.vertices.now in
    let is = c.in_ok-standing.ensures in
    both_at (is_on c.args.vertices.now) n _ c.in_ok-standing.standing.modules c.in_ok-standing.standing.vertices (both_ways (is_on c.args.vertices.now) n c.in_ok-standing.standing.modules c.in_ok-standing.standing.vertices is) (sym is.of_vertices.many)

pub in_order-requires-2-clause-gives : goal.in_order-requires-2-clause-gives
in_order-requires-2-clause-gives c =
    let n = length c.args.vertices.now in
    let is = c.in_ok-naming.ensures in
    both_at (is_named c.args.vertices.now) n _ c.in_ok-naming.naming.modules c.in_ok-naming.naming.vertices (both_ways (is_named c.args.vertices.now) n c.in_ok-naming.naming.modules c.in_ok-naming.naming.vertices is) (sym c.in_ok-standing.ensures.of_vertices.many)

forest_below : (ps qs : List ℕ) → IsForest qs → ps ≡ qs → All (λ p. p < length ps) ps
forest_below ps qs forest same =
    let A : List ℕ → Type 0 = λ rs. All (λ p. p < length rs) rs in
    subst A (sym same) (All-from_get_or (λ p. p < length qs) qs 0 (λ i below. let e = forest i below in omega (arith, e, below)))

small : (waits : ℕ → ℕ → Bool) (n m : ℕ) (order xs : List ℕ) → IsOrderOf waits (upto n) order → xs ≡ order → n ≡ m → All (λ p. p < m) xs
small waits n m order xs is same end =
    let N : ℕ → Type 0 = λ b. All (λ p. p < b) xs in
    let X : List ℕ → Type 0 = λ ys. All (λ p. p < n) ys in
    subst N end (subst X (sym same) (order-below waits n order is))

pub divided-requires-clause-firsts : goal.divided-requires-clause-firsts
divided-requires-clause-firsts c = forest_below c.deref.result.now c.in_ok-firsts.firsts.items c.in_ok-firsts.ensures.trees.forest c.deref.ensures.value

pub divided-requires-clause-dependencies : goal.divided-requires-clause-dependencies
divided-requires-clause-dependencies c =
    let end = c.in_ok-naming.ensures.of_vertices.many ∙ sym (ap length c.deref.ensures.value ∙ c.in_ok-firsts.ensures.trees.many ∙ c.in_ok-standing.ensures.of_modules.many) in
    small (waits_by c.in_ok-naming.naming.modules c.in_ok-standing.standing.modules true) (length c.in_ok-naming.naming.modules) (length c.deref.result.now) c.in_ok-dependencies_first.dependencies_first.items c.deref-2.result.now
    c.in_ok-dependencies_first.ensures c.deref-2.ensures.value end

pub divided-requires-clause-dependants : goal.divided-requires-clause-dependants
divided-requires-clause-dependants c =
    let end = c.in_ok-standing.ensures.of_vertices.many ∙ sym (ap length c.deref.ensures.value ∙ c.in_ok-firsts.ensures.trees.many ∙ c.in_ok-standing.ensures.of_modules.many) in
    small (waits_by c.in_ok-standing.standing.modules c.in_ok-naming.naming.modules false) (length c.in_ok-standing.standing.modules) (length c.deref.result.now) c.in_ok-dependants_first.dependants_first.items c.deref-3.result.now
    c.in_ok-dependants_first.ensures c.deref-3.ensures.value end

parts_at : (ps one another : List ℕ) (qs three four : List ℕ) → ps ≡ qs → one ≡ three → another ≡ four → map (part_of ps one another) (leaders ps) ≡ map (part_of qs three four) (leaders qs)
parts_at ps one another qs three four e f g =
    ap (λ rs. map (part_of rs one another) (leaders rs)) e ∙ ap (λ rs. map (part_of qs rs another) (leaders qs)) f ∙ ap (λ rs. map (part_of qs three rs) (leaders qs)) g

pub returns : goal.returns
returns c =
    let ps = c.in_ok-firsts.firsts.items in
    let one = c.in_ok-dependencies_first.dependencies_first.items in
    let another = c.in_ok-dependants_first.dependants_first.items in
    let is = c.in_ok-divided.ensures ∙ parts_at c.deref.result.now c.deref-2.result.now c.deref-3.result.now ps one another c.deref.ensures.value c.deref-2.ensures.value c.deref-3.ensures.value in
    grouped c.args.vertices.now c.in_ok-naming.naming.modules c.in_ok-naming.naming.vertices c.in_ok-standing.standing.modules c.in_ok-standing.standing.vertices c.requires
    c.in_ok-naming.ensures c.in_ok-standing.ensures ps c.in_ok-firsts.ensures one another _ c.in_ok-dependencies_first.ensures c.in_ok-dependants_first.ensures is
