-- Nothing stands there.
use Rattle.std.proofs.Common.{[], refl}
use Rattle.std.specs.Option.{option_map_or}
use Rattle.relup_make.specs.Scripts.{loaded_by}
use Rattle.relup_make.specs.Ways.{way_of}
use Rattle.relup_make.proofs.Picked.{nothing_at}
use Rattle.relup_make.proofs.loading.append_at.Goals as goal

pub returns-in-None : goal.returns-in-None
returns-in-None c =
    nothing_at (λ o. option_map_or (loaded_by (way_of c.args.way.now) c.args.app.now) o []) c.args.instructions.now c.args.index c.args.loaded.now.items refl c.in-None.ensures.lookup
