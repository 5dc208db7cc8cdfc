-- It is noted if there is one.
use Rattle.std.proofs.Common.{◌≡◌, ℕ}
use Rattle.rehearsals.proofs.Pids.{on_none, on_some}
use Rattle.rehearsals.specs.declared.observing.Observation.{Observation}
use Rattle.rehearsals.specs.declared.observing.Observation.TheVariants.{Restless}
use Rattle.rehearsals.proofs.observing.note_restless.Goals as goal

pub returns-in-Some : goal.returns-in-Some
returns-in-Some c =
    let R : ℕ → Observation → Type 0 = λ pid o. o ≡ Restless pid in
    on_some _ R c.args.restless c.in-Some.pid _ _ c.in-Some.is c.note.ensures

pub returns-in-None : goal.returns-in-None
returns-in-None c =
    let R : ℕ → Observation → Type 0 = λ pid o. o ≡ Restless pid in
    on_none R c.args.restless _ c.in-None.is
