-- The result is noted.
use Rattle.std.proofs.Common.{List, OnOk, subst, sym}
use Rattle.node_questions.specs.declared.comparing.Difference.{Difference}
use Rattle.upgrade_review.proofs.Adding.{adds_nothing}
use Rattle.upgrade_review.specs.Gathering.{Adds}
use Rattle.rehearsals.proofs.Pids.{on_boot}
use Rattle.rehearsals.specs.Observing.{IsDifference, IsOnBoot}
use Rattle.rehearsals.specs.declared.way.Boot.{Boot}
use Rattle.rehearsals.specs.declared.way.Boot.TheVariants.{Fails, Boots, Compared}
use Rattle.rehearsals.proofs.observing.note_boot.Goals as goal

pub returns-in-Fails : goal.returns-in-Fails
returns-in-Fails c = on_boot _ (Fails _ _) c.args.boot.now _ _ c.in-Fails.is c.note.ensures

pub returns-in-Boots : goal.returns-in-Boots
returns-in-Boots c =
    let found = c.args.found.now.items in
    subst (λ (b : Boot). Adds (IsOnBoot b) found found) (sym c.in-Boots.is) (adds_nothing (IsOnBoot Boots) found (λ o w. w))

pub returns-in-Compared : goal.returns-in-Compared
returns-in-Compared c =
    let old = c.args.found.now.items in
    let new = c.note_differences.new.found.items in
    on_boot c.note_differences.result (Compared c.in-Compared.differences) c.args.boot.now old new c.in-Compared.is
    (subst (λ (ds : List Difference). OnOk c.note_differences.result (Adds (IsDifference ds) old new)) c.as_slice.ensures.value
    c.note_differences.ensures)
