-- It is there already, or it is appended.
use Rattle.std.proofs.Common.{◌≡◌, ◌∙◌, Contains, sym, subst}
use Rattle.std.proofs.lemmas.Bool.{false≢true}
use Rattle.upgrade_review.proofs.Adding.{adds_new}
use Rattle.upgrade_review.specs.Gathering.{Adds}
use Rattle.upgrade_review.proofs.gathering.note.Goals as goal

pub returns : goal.returns
returns g c =
    subst (λ items. Adds (λ f. f ≡ c.args.finding) c.args.found.now.items items) (sym c.in_ok-push.ensures.items)
    (adds_new c.args.finding c.args.found.now.items (λ there. false≢true (sym c.if-is_among.false ∙ c.is_among.ensures.1
    (subst (λ items. Contains items c.args.finding) (sym c.as_slice.ensures.value) there))))
