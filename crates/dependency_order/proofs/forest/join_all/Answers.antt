use Rattle.std.proofs.Common.{◌<◌, List, ℕ, length, take, get_or, subst, sym, arith}
use Rattle.std.proofs.lemmas.List.{take_more}
use Rattle.dependency_order.specs.Forests.{AreJoining}
use Rattle.dependency_order.proofs.Forests.{none_joining, one_more_joining}
use Rattle.dependency_order.proofs.forest.join_all.Goals as goal

pub loop-vertex-init : goal.loop-vertex-init
loop-vertex-init c = none_joining c.args.parents.now c.args.with c.requires.forest

pub loop-vertex-preserved : goal.loop-vertex-preserved
loop-vertex-preserved c =
    let xs = c.args.vertices.now in
    let i = c.loop-vertex.vertex-index in
    let below : i < length xs = omega arith in
    let P : List ℕ → Type 0 = λ ys. AreJoining c.args.parents.now c.join.new.parents ys c.args.with in
    subst P (sym (take_more xs i 0 below))
    (one_more_joining c.args.parents.now c.loop-vertex.parents c.join.new.parents (take i xs) (get_or xs i 0) c.args.with c.loop-vertex.invariant c.join.ensures)
