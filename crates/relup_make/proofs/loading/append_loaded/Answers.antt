-- The instructions at the indices.
use Rattle.std.proofs.Common.{◌++◌, [], ap, ◌∙◌}
use Rattle.std.specs.List.{slice_get}
use Rattle.std.specs.Option.{option_map_or}
use Rattle.relup_make.specs.Scripts.{loaded_by}
use Rattle.relup_make.specs.Ways.{way_of}
use Rattle.relup_make.proofs.Picked.{picked_all}
use Rattle.relup_make.proofs.Turns.{ended}
use Rattle.relup_make.proofs.loading.append_loaded.Goals as goal

pub returns : goal.returns
returns c =
    let loads = loaded_by (way_of c.args.way.now) c.args.app.now in
    let is = c.args.instructions.now in
    ended (λ index. option_map_or loads (slice_get is index) []) c.args.order.now c.loop-index.index-index c.args.loaded.now.items c.loop-index.loaded.items c.loop-index-test.false c.loop-index.invariant
    ∙ ap (λ loaded. c.args.loaded.now.items ++ loaded) (picked_all loads is c.args.order.now)
