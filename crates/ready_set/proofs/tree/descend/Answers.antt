-- The way goes down to the left where a mark is there, and else to the right.
use Rattle.std.proofs.Common.{◌≡◌, ◌*◌, ◌-◌, ℕ, suc, subst, arith}
use Rattle.ready_set.proofs.Descending.{IsDescending, both_within, goes_left, goes_past}
use Rattle.ready_set.proofs.tree.descend.Goals as goal

pub bounds-marks-node : goal.bounds-marks-node
bounds-marks-node c =
    let l = c.loop-levels in
    let root = c.args.root in
    let both = both_within c.args.marks.now c.args.from root.levels root.node l.levels l.node c.requires.first l.invariant (omega arith) in
    omega arith

pub loop-levels-preserved-then-not-marks-node : goal.loop-levels-preserved-then-not-marks-node
loop-levels-preserved-then-not-marks-node c =
    let l = c.loop-levels in
    let root = c.args.root in
    let one : l.levels ≡ suc (l.levels - 1) = omega arith in
    let D : ℕ → Type 0 = λ levels. IsDescending c.args.marks.now root.levels root.node levels l.node in
    goes_past c.args.marks.now c.args.from root.levels root.node (l.levels - 1) l.node (l.node * 2) c.requires.tree c.requires.first (subst D one l.invariant) (omega arith) c.if-not-marks-node.true

pub loop-levels-preserved : goal.loop-levels-preserved
loop-levels-preserved c =
    let l = c.loop-levels in
    let root = c.args.root in
    let one : l.levels ≡ suc (l.levels - 1) = omega arith in
    let D : ℕ → Type 0 = λ levels. IsDescending c.args.marks.now root.levels root.node levels l.node in
    goes_left c.args.marks.now root.levels root.node (l.levels - 1) l.node (l.node * 2) (subst D one l.invariant) (omega arith) c.if-not-marks-node.false
