-- The instructions at the indices.
use Rattle.std.proofs.Common.{◌++◌, [], ap, ◌∙◌}
use Rattle.std.specs.List.{slice_get}
use Rattle.std.specs.Option.{option_map_or}
use Rattle.relup_make.specs.Parts.{work_of}
use Rattle.relup_make.specs.Ways.{way_of}
use Rattle.relup_make.proofs.Picked.{picked_all}
use Rattle.relup_make.proofs.Turns.{ended}
use Rattle.relup_make.proofs.working.append_works.Goals as goal

pub returns : goal.returns
returns c =
    let work = work_of (way_of c.args.way.now) in
    let is = c.args.instructions.now in
    ended (λ index. option_map_or work (slice_get is index) []) c.args.order.now c.loop-index.index-index c.args.parts.now.items c.loop-index.parts.items c.loop-index-test.false c.loop-index.invariant
    ∙ ap (λ parts. c.args.parts.now.items ++ parts) (picked_all work is c.args.order.now)
