-- There is such a name, or none.
use Rattle.std.proofs.Common.{ℕ, List}
use Rattle.rehearsals.proofs.Pids.{on_none, on_some}
use Rattle.rehearsals.specs.Observing.{IsNewName}
use Rattle.rehearsals.specs.declared.observing.Observation.{Observation}
use Rattle.rehearsals.proofs.serving.note_unheard_of.Goals as goal

pub returns-in-Some : goal.returns-in-Some
returns-in-Some c =
    let R : List ℕ → Observation → Type 0 = IsNewName c.args.when c.args.first.now in
    on_some _ R c.args.happening.now.unheard c.in-Some.name _ _ c.in-Some.is c.note_unheard_name.ensures

pub returns-in-None : goal.returns-in-None
returns-in-None c =
    let R : List ℕ → Observation → Type 0 = IsNewName c.args.when c.args.first.now in
    on_none R c.args.happening.now.unheard _ c.in-None.is
