use Rattle.std.proofs.Common.{◌≡◌, ◌<◌, ℕ, List, length, get_or, arith, sym, ap, ◌∙◌, subst, All}
use Rattle.std.specs.Vec.{with_items}
use Rattle.dependency_order.specs.Left.{AreOffered}
use Rattle.dependency_order.specs.Lists.{row}
use Rattle.dependency_order.specs.Orders.{times}
use Rattle.dependency_order.proofs.Leaving.{enough_held, given_below, taken}
use Rattle.dependency_order.proofs.Rows.{changed}
use Rattle.dependency_order.proofs.order.take.Goals as goal

small : (xs ys : List ℕ) (n m : ℕ) → xs ≡ ys → n ≡ m → All (λ k. k < n) ys → All (λ k. k < m) xs
small xs ys n m same end all =
    let N : ℕ → Type 0 = λ b. All (λ k. k < b) xs in
    let X : List ℕ → Type 0 = λ zs. All (λ k. k < n) zs in
    subst N end (subst X (sym same) all)

pub give_up-requires-clause-known : goal.give_up-requires-clause-known
give_up-requires-clause-known c =
    let many = c.requires.known.many_held in
    small c.at-given.result.now (row c.args.gives.now.modules c.args.vertex) (length c.args.asks.now.modules) (length c.deref_mut.result.now) c.at-given.ensures
    (sym many ∙ ap length (sym c.deref_mut.ensures.value)) (given_below (length c.args.asks.now.modules) c.args.gives.now.modules c.args.gives.now.vertices c.args.vertex c.requires.gives)

pub give_up-requires-clause-enough : goal.give_up-requires-clause-enough
give_up-requires-clause-enough c = λ k.
    let e = enough_held c.args.asks.now.modules c.args.gives.now.modules c.args.gives.now.vertices (length c.args.asks.now.modules) c.args.left.now c.args.vertex c.requires.gives c.requires.known c.requires.left k in
    let same = ap (times k) c.at-given.ensures in
    let held = ap (λ l. get_or l k 0) c.deref_mut.ensures.value in
    omega (arith, e, same, held)

pub offer_askers-requires-clause-held : goal.offer_askers-requires-clause-held
offer_askers-requires-clause-held c =
    let held = c.args.left.now.held in
    let m = c.deref_mut.ensures.value in
    let e = changed held.len held.items c.deref_mut.result.now c.give_up.new.held m c.give_up.auto.held held.ok.0 in
    let same : length c.deref.result.now ≡ length held.items = ap length (c.deref.ensures.value ∙ sym e) ∙ c.give_up.auto.held ∙ ap length m in
    small c.at-given.result.now (row c.args.gives.now.modules c.args.vertex) (length c.args.asks.now.modules) (length c.deref.result.now) c.at-given.ensures
    (sym (same ∙ c.requires.known.many_held)) (given_below (length c.args.asks.now.modules) c.args.gives.now.modules c.args.gives.now.vertices c.args.vertex c.requires.gives)

pub offer_askers-requires-clause-askers : goal.offer_askers-requires-clause-askers
offer_askers-requires-clause-askers c =
    small c.at-given.result.now (row c.args.gives.now.modules c.args.vertex) (length c.args.asks.now.modules) (length c.args.asks.now.vertices) c.at-given.ensures
    (sym c.requires.asks.many_vertices) (given_below (length c.args.asks.now.modules) c.args.gives.now.modules c.args.gives.now.vertices c.args.vertex c.requires.gives)

pub returns-clause-known : goal.returns-clause-known
returns-clause-known c =
    let s = c.args.left.now in
    let held = s.held in
    let m = c.deref_mut.ensures.value in
    let new = c.give_up.new.held in
    let given = row c.args.gives.now.modules c.args.vertex in
    let free = c.offer_askers.new.free in
    let askers = c.args.asks.now.vertices in
    let e : new ≡ (with_items held new).items = changed held.len held.items c.deref_mut.result.now new m c.give_up.auto.held held.ok.0 in
    let H : List ℕ → Type 0 = λ hs. AreOffered s.free free hs c.at-given.result.now askers in
    let G : List ℕ → Type 0 = λ gs. AreOffered s.free free (with_items held new).items gs askers in
    taken c.args.asks.now.modules askers c.args.gives.now.modules c.args.gives.now.vertices (length c.args.asks.now.modules) s c.args.vertex (with_items held new) free
    c.requires.asks c.requires.gives c.requires.known c.requires.left (ap length (sym e) ∙ c.give_up.auto.held ∙ ap length m)
    (λ k.
    let now = ap (λ l. get_or l k 0) e in
    let off = c.give_up.ensures k in
    let same = ap (times k) c.at-given.ensures in
    let old = ap (λ l. get_or l k 0) m in
    omega (arith, now, off, same, old))
    (subst G c.at-given.ensures (subst H c.deref.ensures.value c.in_ok-offer_askers.ensures))
