-- There is an exit, or none.
use Rattle.rehearsals.proofs.Pids.{on_none, on_some}
use Rattle.rehearsals.specs.declared.happening.Exit.{Exit}
use Rattle.rehearsals.specs.declared.observing.Observation.{Observation}
use Rattle.rehearsals.specs.declared.observing.Observation.TheVariants.{Ends}
use Rattle.std.proofs.Common.{◌≡◌}
use Rattle.rehearsals.proofs.serving.note_exit_of.Goals as goal

pub returns-in-Some : goal.returns-in-Some
returns-in-Some c =
    let R : Exit → Observation → Type 0 = λ e o. o ≡ Ends c.args.when e in
    on_some _ R c.args.happening.now.exit c.in-Some.exit _ _ c.in-Some.is c.note_exit.ensures

pub returns-in-None : goal.returns-in-None
returns-in-None c =
    let R : Exit → Observation → Type 0 = λ e o. o ≡ Ends c.args.when e in
    on_none R c.args.happening.now.exit _ c.in-None.is
