-- The groups, in order.
use Rattle.std.proofs.Common.{◌++◌, map, sym, ap, ◌∙◌}
use Rattle.std.specs.List.{flat_map}
use Rattle.std.proofs.lemmas.List.Folds.{flat_map-map}
use Rattle.dependency_order.specs.declared.group.Group.{Group}
use Rattle.relup_make.specs.Parts.{parts_of}
use Rattle.relup_make.specs.Scripts.{placed}
use Rattle.relup_make.specs.Ways.{way_of}
use Rattle.relup_make.proofs.Turns.{ended}
use Rattle.relup_make.proofs.scripting.append_parts_of.Goals as goal

pub returns : goal.returns
returns c =
    let job = c.args.arrangement.now.job.now in
    let parts = parts_of c.args.way.now.direction (way_of c.args.way.now) in
    ended (λ (g : Group). parts (placed job.instructions g)) c.as_slice-groups.result.now c.loop-group.group-index c.args.script.now.items c.loop-group.script.items c.loop-group-test.false c.loop-group.invariant
    ∙ ap (λ script. c.args.script.now.items ++ script) (sym (flat_map-map parts (placed job.instructions) c.as_slice-groups.result.now) ∙ ap (λ groups. flat_map parts (map (placed job.instructions) groups)) c.as_slice-groups.ensures)
