use Rattle.std.proofs.Common.{◌≡◌, ◌<◌, ℕ, List, Bool, length, get_or, arith, sym, ap, ◌∙◌, subst, All, false, true}
use Rattle.dependency_order.specs.Lists.{row}
use Rattle.dependency_order.proofs.Staying.{moved_on, next_here, next_moved, not_clear, not_excepted, passing_at}
use Rattle.dependency_order.proofs.Upto.{all-from_stands}
use Rattle.std.proofs.lemmas.List.{get_or_default}
use Rattle.std.specs.Vec.{with_item}
use Rattle.dependency_order.proofs.order.next_free.Goals as goal

pub passing-to-requires-clause-known : goal.passing-to-requires-clause-known
passing-to-requires-clause-known c =
    let many = c.loop-vertex.invariant.known.many_held in
    let Small : List ℕ → ℕ → Type 0 = λ xs n. All (λ k. k < n) xs in
    let end : length c.args.asks.now ≡ length c.deref.result.now = sym many ∙ ap length (sym c.deref.ensures.value) in
    subst (λ (n : ℕ). Small c.at-asked.result.now n) end
    (subst (λ (xs : List ℕ). Small xs (length c.args.asks.now)) (sym c.at-asked.ensures)
    (all-from_stands (length c.args.asks.now) (row c.args.asks.now c.in-Some.vertex) (λ k there. c.requires.asked k c.in-Some.vertex there)))

was_left : (left : List Bool) (x : ℕ) (b : Bool) → x < length left → b ≡ get_or left x b → b ≡ true → get_or left x false ≡ true
was_left left x b below is so = get_or_default left x false b below ∙ sym is ∙ so

pub returns-then-to-asked-clause-next : goal.returns-then-to-asked-clause-next
returns-then-to-asked-clause-next c =
    let asks = c.args.asks.now in
    let gives = c.args.gives.now in
    let s = c.loop-vertex.left in
    let x = c.in-Some.vertex in
    let to = c.passing-to.result in
    let known = c.loop-vertex.invariant.known in
    let small = known.small x c.in-Some.ensures.member in
    let many = known.many_left in
    let passed = known.many_passed in
    let is = was_left s.left.items x c.index.result.now (omega (arith, small, many)) c.index.ensures c.if-index.true in
    let passing =
    passing_at s asks gives c.deref.result.now c.at-asked.result.now c.at.result.now x c.index-from.result.now to c.deref.ensures.value c.at-asked.ensures c.at.ensures c.index-from.ensures
    (omega (arith, small, passed)) c.passing-to.ensures in
    let all : to ≡ length (row asks x) = c.if-to-asked.true ∙ ap length c.at-asked.ensures in
    let next = next_here asks gives (length asks) s x to c.pop_first.new.self known is passing c.in-Some.ensures.updates c.requires.asked all c.in-Some.ensures.least in (
      next_moved asks gives s.itself c.args.left.now.itself s.left.items c.args.left.now.left.items x c.loop-vertex.invariant.itself c.loop-vertex.invariant.same next,
      moved_on asks gives (length asks) s x to c.pop_first.new.self known is passing c.in-Some.ensures.updates,
    )

pub loop-vertex-preserved-else-to-asked : goal.loop-vertex-preserved-else-to-asked
loop-vertex-preserved-else-to-asked c =
    let asks = c.args.asks.now in
    let gives = c.args.gives.now in
    let s = c.loop-vertex.left in
    let x = c.in-Some.vertex in
    let to = c.passing-to.result in
    let known = c.loop-vertex.invariant.known in
    let small = known.small x c.in-Some.ensures.member in
    let many = known.many_left in
    let passed = known.many_passed in
    let is = was_left s.left.items x c.index.result.now (omega (arith, small, many)) c.index.ensures c.if-index.true in
    let passing =
    passing_at s asks gives c.deref.result.now c.at-asked.result.now c.at.result.now x c.index-from.result.now to c.deref.ensures.value c.at-asked.ensures c.at.ensures c.index-from.ensures
    (omega (arith, small, passed)) c.passing-to.ensures in
    let short : to ≡ length (row asks x) → ⊥ = λ e. c.if-to-asked.false (e ∙ sym (ap length c.at-asked.ensures)) in
    let never = not_clear asks gives (length asks) s x to c.pop_first.new.self known is passing c.in-Some.ensures.updates c.requires.asked short in
    record {
      known = not_excepted asks gives (length asks) x (record s { passed = with_item s.passed x to; free = c.pop_first.new.self })
          (moved_on asks gives (length asks) s x to c.pop_first.new.self known is passing c.in-Some.ensures.updates) (λ left' clear. never clear);
      same = c.loop-vertex.invariant.same;
      itself = c.loop-vertex.invariant.itself;
    }
