-- Nothing stands there.
use Rattle.std.proofs.Common.{refl}
use Rattle.std.specs.Prelude.{option_and_then}
use Rattle.std.specs.Option.{option_to_list}
use Rattle.relup_make.specs.Chosen.{change_for}
use Rattle.relup_make.proofs.Picked.{nothing_at}
use Rattle.relup_make.proofs.changing.append_at.Goals as goal

pub returns-in-None : goal.returns-in-None
returns-in-None c =
    nothing_at (λ o. option_to_list (option_and_then (change_for c.args.kind) o)) c.args.instructions.now c.args.index c.args.found.now.items refl c.in-None.ensures.lookup
