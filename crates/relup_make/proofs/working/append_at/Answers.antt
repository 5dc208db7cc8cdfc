-- Nothing stands there.
use Rattle.std.proofs.Common.{[], refl}
use Rattle.std.specs.Option.{option_map_or}
use Rattle.relup_make.specs.Parts.{work_of}
use Rattle.relup_make.specs.Ways.{way_of}
use Rattle.relup_make.proofs.Picked.{nothing_at}
use Rattle.relup_make.proofs.working.append_at.Goals as goal

pub returns-in-None : goal.returns-in-None
returns-in-None c =
    nothing_at (λ o. option_map_or (work_of (way_of c.args.way.now)) o []) c.args.instructions.now c.args.index c.args.parts.now.items refl c.in-None.ensures.lookup
