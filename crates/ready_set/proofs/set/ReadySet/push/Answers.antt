-- One leaf is written behind the others, and so is one flag.
use Rattle.std.proofs.Common.{◌≡◌, ◌+◌, ◌++◌, ◌∷◌, [], ◌∙◌, arith, ap, length, List, Bool}
use Rattle.std.proofs.lemmas.List.{with_items_is}
use Rattle.ready_set.specs.Marks.{flags_of, is_leaf_marked}
use Rattle.ready_set.proofs.Kept.{pushed_flags}
use Rattle.ready_set.proofs.set.ReadySet.push.Goals as goal

pub returns-clause-ok : goal.returns-clause-ok
returns-clause-ok c =
    let s = c.self.inside in
    let wide = c.make_room.new.marks in
    let new = c.put.new.marks in
    let same = c.deref_mut.ensures.value in
    let long : length new ≡ length wide.items = c.put.auto.marks ∙ ap length same in
    ap (λ (ms : List Bool). flags_of ms (s.capacity + 1)) (with_items_is wide new (c.put.auto.marks ∙ c.deref_mut.ensures.len))
    ∙ pushed_flags s.marks.items new s.capacity c.args.marked c.self.invariant.room (omega (arith, c.in_ok-make_room.ensures.room, long)) c.put.ensures.here
    (λ k other. c.put.ensures.others k other ∙ ap (λ (ms : List Bool). is_leaf_marked ms k) same ∙ c.in_ok-make_room.ensures.leaves k)
    ∙ ap (λ (fs : List Bool). fs ++ c.args.marked ∷ []) c.self.view_is
