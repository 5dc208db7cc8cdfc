-- The groups, in the order of their loads.
use Rattle.std.proofs.Common.{◌++◌, ap, ◌∙◌}
use Rattle.std.specs.List.{flat_map}
use Rattle.dependency_order.specs.declared.group.Group.{Group}
use Rattle.relup_make.specs.Arranging.{order_of_loads}
use Rattle.relup_make.specs.Parts.{loading_order}
use Rattle.relup_make.specs.Scripts.{at, loaded_by, placed}
use Rattle.relup_make.specs.Ways.{way_of}
use Rattle.std.proofs.Common.{map}
use Rattle.relup_make.proofs.Scripted.{groups_load}
use Rattle.relup_make.proofs.Turns.{ended}
use Rattle.relup_make.proofs.scripting.append_loaded_in.Goals as goal

pub returns : goal.returns
returns c =
    let job = c.args.arrangement.now.job.now in
    let loads = loaded_by (way_of c.args.way.now) job.app in
    let direction = c.args.way.now.direction in
    ended (λ (g : Group). flat_map loads (at job.instructions (order_of_loads direction g))) c.as_slice-groups.result.now c.loop-group.group-index c.args.loaded.now.items c.loop-group.loaded.items c.loop-group-test.false c.loop-group.invariant
    ∙ ap (λ loaded. c.args.loaded.now.items ++ loaded) (groups_load loads direction job.instructions c.as_slice-groups.result.now ∙ ap (λ groups. flat_map (λ g. flat_map loads (loading_order direction g)) (map (placed job.instructions) groups)) c.as_slice-groups.ensures)
