-- No process had it first, or none has it now.
use Rattle.std.proofs.Common.{◌∙◌, sym}
use Rattle.std.proofs.lemmas.Bool.{false≢true}
use Rattle.upgrade_review.proofs.Adding.{adds_nothing}
use Rattle.rehearsals.proofs.Pids.{noted_if}
use Rattle.rehearsals.specs.Observing.{IsNewName}
use Rattle.rehearsals.specs.declared.observing.Observation.TheVariants.{Unheard}
use Rattle.rehearsals.proofs.serving.note_unheard_name.Goals as goal

pub returns-then-is_unheard : goal.returns-then-is_unheard
returns-then-is_unheard c =
    adds_nothing (IsNewName c.args.when c.args.first.now c.args.name.now) _
    (λ o w. w.0 (c.is_unheard.ensures.0 c.if-is_unheard.true))

pub returns : goal.returns
returns c =
    let is = c.in_ok-name.ensures in
    noted_if c.note.result (IsNewName c.args.when c.args.first.now c.args.name.now) _ (Unheard c.args.when c.in_ok-name.name) _ _
    (λ unheard. false≢true (sym c.if-is_unheard.false ∙ c.is_unheard.ensures.1 unheard))
    (λ o w. w.1 ∙ sym (λ i. Unheard c.args.when (is i))) (λ o same new. (new, same ∙ (λ i. Unheard c.args.when (is i)))) c.note.ensures
