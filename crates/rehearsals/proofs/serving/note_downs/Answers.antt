-- A call got an exit reason, or none did.
use Rattle.std.proofs.Common.{◌∙◌, sym}
use Rattle.std.proofs.lemmas.Bool.{false≢true}
use Rattle.upgrade_review.proofs.Adding.{adds_nothing}
use Rattle.rehearsals.proofs.Pids.{noted_if}
use Rattle.rehearsals.specs.Observing.{IsCallDown}
use Rattle.rehearsals.specs.declared.observing.Observation.TheVariants.{CallsDown}
use Rattle.rehearsals.proofs.serving.note_downs.Goals as goal

pub returns-then-has_call_down : goal.returns-then-has_call_down
returns-then-has_call_down c =
    noted_if c.note.result (IsCallDown c.args.when c.args.happened.now) _ (CallsDown c.args.when) _ _
    (c.has_call_down.ensures.0 c.if-has_call_down.true) (λ o w. w.1) (λ o same down. (down, same)) c.note.ensures

pub returns : goal.returns
returns c =
    adds_nothing (IsCallDown c.args.when c.args.happened.now) _
    (λ o w. false≢true (sym c.if-has_call_down.false ∙ c.has_call_down.ensures.1 w.0))
