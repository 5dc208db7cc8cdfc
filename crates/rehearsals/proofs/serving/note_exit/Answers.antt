-- The copy is noted.
use Rattle.std.proofs.Common.{◌≡◌, OnOk, subst}
use Rattle.upgrade_review.specs.Gathering.{Adds}
use Rattle.rehearsals.specs.declared.happening.Exit.{Exit}
use Rattle.rehearsals.specs.declared.observing.Observation.TheVariants.{Ends}
use Rattle.rehearsals.proofs.serving.note_exit.Goals as goal

pub returns : goal.returns
returns c =
    subst (λ (e : Exit). OnOk c.note.result (Adds (λ o. o ≡ Ends c.args.when e) c.args.found.now.items c.note.new.found.items))
    c.in_ok-exit.ensures c.note.ensures
