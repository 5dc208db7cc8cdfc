use Rattle.std.proofs.Common.{ℕ, ◌≡◌, ◌<◌, ◌+◌, List, length, arith, ap, ◌∙◌, subst}
use Rattle.std.proofs.lemmas.List.FromFn.{get_or-range_with_len, length-range_with_len}
use Rattle.dependency_order.specs.Forests.{AreFlatTrees, AreTrees, IsFlatter, IsTie, parent}
use Rattle.dependency_order.specs.Lists.{row, upto}
use Rattle.dependency_order.proofs.Forests.{flat_trees, more_trees, no_trees}
use Rattle.dependency_order.proofs.Rows.{changed}
use Rattle.dependency_order.proofs.firsts.firsts.Goals as goal

alone_each : (count : ℕ) (ps : List ℕ) → ps ≡ upto count → (p : ℕ) → p < length ps → parent ps p ≡ p
alone_each count ps is p below =
    let many : length ps ≡ count = ap length is ∙ length-range_with_len 0 count in
    let e = get_or-range_with_len 0 count p 0 (omega (arith, below, many)) in
    let zero : 0 + p ≡ p = omega arith in
    ap (λ qs. parent qs p) is ∙ e ∙ zero

pub loop-m-init : goal.loop-m-init
loop-m-init c =
    let count = c.len.result in
    let is = c.in_ok-parents.ensures in
    let many : length c.in_ok-parents.parents.items ≡ length c.args.on.now = ap length is ∙ length-range_with_len 0 count ∙ c.len.ensures in
    no_trees c.args.on.now c.args.namers.now (length c.args.on.now) c.in_ok-parents.parents.items many (alone_each count c.in_ok-parents.parents.items is)

trees_on : (some others : List (List ℕ)) (count m : ℕ) (ps qs new as' bs : List ℕ) → qs ≡ ps → as' ≡ row some m → bs ≡ row others m → AreTrees some others count m ps → IsTie qs new as' bs → AreTrees some others count (m + 1) new
trees_on some others count m ps qs new as' bs same one other trees tie =
    let T : List ℕ → Type 0 = λ rs. IsTie rs new as' bs in
    let S : List ℕ → Type 0 = λ rs. IsTie ps new rs bs in
    let O : List ℕ → Type 0 = λ rs. IsTie ps new (row some m) rs in
    more_trees some others count m ps new trees (subst O other (subst S one (subst T same tie)))

pub loop-m-preserved : goal.loop-m-preserved
loop-m-preserved c =
    let T : List ℕ → Type 0 = λ rs. AreTrees c.args.on.now c.args.namers.now (length c.args.on.now) (c.loop-m.m + 1) rs in
    let ps = c.loop-m.parents.items in
    let e = changed c.loop-m.parents.len ps c.deref_mut.result.now c.tie.new.parents c.deref_mut.ensures.value c.tie.ensures.many c.loop-m.parents.ok.0 in
    subst T e
    (trees_on c.args.on.now c.args.namers.now (length c.args.on.now) c.loop-m.m ps c.deref_mut.result.now c.tie.new.parents c.at.result.now c.at-in-loop-m.result.now
    c.deref_mut.ensures.value c.at.ensures c.at-in-loop-m.ensures c.loop-m.invariant c.tie.ensures)

flat_of : (some others : List (List ℕ)) (m : ℕ) (ps qs new : List ℕ) → m ≡ length some → qs ≡ ps → AreTrees some others (length some) m ps → IsFlatter qs new →
    ((p : ℕ) → p < length new → parent new (parent new p) ≡ parent new p) → AreFlatTrees some others new
flat_of some others m ps qs new all same trees flatter flat =
    let T : ℕ → Type 0 = λ k. AreTrees some others (length some) k ps in
    let F : List ℕ → Type 0 = λ rs. IsFlatter rs new in
    record { trees = flat_trees some others (length some) (length some) ps new (subst T all trees) (subst F same flatter); flat = flat }

pub returns : goal.returns
returns c =
    let T : List ℕ → Type 0 = λ rs. AreFlatTrees c.args.on.now c.args.namers.now rs in
    let ps = c.loop-m.parents.items in
    let b = c.deref_mut-2.ensures in
    let end = c.len-m-end.ensures in
    let all : c.loop-m.m ≡ length c.args.on.now = omega (arith, end) in
    let e = changed c.loop-m.parents.len ps c.deref_mut-2.result.now c.flatten.new.parents b.value c.flatten.ensures.flatter.many c.loop-m.parents.ok.0 in
    subst T e (flat_of c.args.on.now c.args.namers.now c.loop-m.m ps c.deref_mut-2.result.now c.flatten.new.parents all b.value c.loop-m.invariant c.flatten.ensures.flatter c.flatten.ensures.flat)
