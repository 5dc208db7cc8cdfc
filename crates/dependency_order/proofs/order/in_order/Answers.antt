use Rattle.std.proofs.Common.{◌++◌, ◌∷◌, [], ℕ, Bool, true, false, List, length, set, replicate, arith, refl, sym, ap, ◌∙◌, subst}
use Rattle.dependency_order.specs.Left.{AreBothWays, IsBegun, Knows, waits_by}
use Rattle.dependency_order.specs.Orders.{how_many}
use Rattle.dependency_order.proofs.Beginning.{all_begun, none_begun, one_more_begun}
use Rattle.dependency_order.proofs.Counting.{fewer}
use Rattle.dependency_order.proofs.Leaving.{module-below}
use Rattle.dependency_order.proofs.Staying.{next_moved}
use Rattle.dependency_order.proofs.order.in_order.Goals as goal

pub loop-vertex-init : goal.loop-vertex-init
loop-vertex-init c =
    let asks = c.args.asks.now.modules in
    let gives = c.args.gives.now.modules in
    let givers = c.args.gives.now.vertices in
    let many = c.requires.gives.many_vertices in
    let K : ℕ → Type 0 = λ n. Knows asks gives n n c.in_ok-left.left in
    let B : ℕ → Type 0 = λ n. AreBothWays n gives givers in
    let waits = waits_by asks gives c.args.itself in
    let O : List ℕ → Type 0 = λ ps. IsBegun waits (length asks) c.in_ok-left.left.left.items ps in
    record {
      known = subst K many (c.in_ok-left.ensures.known asks gives (subst B (sym many) c.requires.gives));
      itself = c.in_ok-left.ensures.itself;
      begun = subst O (sym c.in_ok-order.ensures.items) (none_begun waits (length asks) c.in_ok-left.left.left.items (c.in_ok-left.ensures.left ∙ ap (λ n. replicate n true) many));
    }

pub next-requires-clause-asked : goal.next-requires-clause-asked
next-requires-clause-asked c = λ k p there.
    (module-below (length c.args.asks.now.modules) c.args.asks.now.modules c.args.asks.now.vertices k p c.requires.asks there).0

pub loop-vertex-smaller : goal.loop-vertex-smaller
loop-vertex-smaller c =
    let left = c.loop-vertex.left.left.items in
    let x = c.in-Some.vertex in
    let less = fewer left x c.in-Some.ensures.next.0.left' in
    let same = ap (how_many (λ (b : Bool). b)) (c.in_ok-take.ensures.left ∙ ap (λ l. set l x false) c.in-Some.ensures.left) in
    omega (arith, less, same)

pub loop-vertex-preserved : goal.loop-vertex-preserved
loop-vertex-preserved c =
    let asks = c.args.asks.now.modules in
    let gives = c.args.gives.now.modules in
    let s = c.loop-vertex.left in
    let x = c.in-Some.vertex in
    let waits = waits_by asks gives c.args.itself in
    let next = next_moved asks gives s.itself c.args.itself s.left.items s.left.items x c.loop-vertex.invariant.itself refl c.in-Some.ensures.next.0 in
    let L : List Bool → Type 0 = λ l. IsBegun waits (length asks) l (c.loop-vertex.order.items ++ x ∷ []) in
    let O : List ℕ → Type 0 = λ ps. IsBegun waits (length asks) c.take.new.left.left.items ps in
    let left' = c.in_ok-take.ensures.left ∙ ap (λ l. set l x false) c.in-Some.ensures.left in
    record {
      known = c.in_ok-take.ensures.known;
      itself = c.in_ok-take.ensures.itself ∙ c.in-Some.ensures.itself ∙ c.loop-vertex.invariant.itself;
      begun = subst O (sym c.in_ok-push.ensures.items) (subst L (sym left') (one_more_begun waits (length asks) s.left.items c.loop-vertex.order.items x c.loop-vertex.invariant.begun next));
    }

pub returns : goal.returns
returns c =
    let asks = c.args.asks.now.modules in
    let waits = waits_by asks c.args.gives.now.modules c.args.itself in
    all_begun waits (length asks) c.loop-vertex.left.left.items c.loop-vertex.order.items c.loop-vertex.invariant.begun c.in_default.ensures.next
