-- An unmarked node is passed, to the right or up.
use Rattle.std.proofs.Common.{◌≡◌, ◌+◌, ◌/◌, ℕ, suc, subst, arith}
use Rattle.ready_set.proofs.Climbing.{IsClimbing, begins, goes_right, goes_up}
use Rattle.ready_set.proofs.tree.climb.Goals as goal

pub loop-node-init : goal.loop-node-init
loop-node-init c = begins c.args.marks.now c.args.leaf c.requires.tree c.requires.inner c.requires.within

pub loop-node-preserved-then-node-eq0 : goal.loop-node-preserved-then-node-eq0
loop-node-preserved-then-node-eq0 c =
    let l = c.loop-node in
    goes_right c.args.marks.now c.args.leaf l.node l.end l.levels c.requires.tree l.invariant c.loop-node-test.true c.if-marks-node.false

pub loop-node-preserved : goal.loop-node-preserved
loop-node-preserved c =
    let l = c.loop-node in
    let up = goes_up c.args.marks.now c.args.leaf l.node l.end l.levels c.requires.tree l.invariant c.loop-node-test.true c.if-marks-node.false c.if-node-eq0.false in
    let one : suc l.levels ≡ l.levels + 1 = omega arith in
    let C : ℕ → Type 0 = λ levels. IsClimbing c.args.marks.now c.args.leaf (l.node / 2 + 1) (l.end / 2) levels in
    subst C one up
