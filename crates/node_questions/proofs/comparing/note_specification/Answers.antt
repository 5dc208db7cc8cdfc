-- Whether the child is there.
use Rattle.std.proofs.Common.{OnOk, Option, subst}
use Rattle.app_table.specs.declared.child.Child.{Child}
use Rattle.upgrade_review.specs.Gathering.{Adds}
use Rattle.node_questions.proofs.Noted.{by_none, by_option}
use Rattle.node_questions.specs.Parts.{HasOtherSpecification}
use Rattle.node_questions.specs.declared.comparing.Difference.{Difference}
use Rattle.node_questions.proofs.comparing.note_specification.Goals as goal

pub returns-in-Some : goal.returns-in-Some
returns-in-Some c =
    let P : Option Child → Difference → Type 0 = HasOtherSpecification c.args.app.now c.args.child.now in
    let r = c.note_other_specification.result in
    let old = c.args.found.now.items in
    let new = c.note_other_specification.new.found.items in
    subst (λ (o : Option Child). OnOk r (Adds (P o) old new)) c.child_of.ensures
    (by_option r P c.child_of.result _ old new c.in-Some.is c.note_other_specification.ensures)

pub returns-in-None : goal.returns-in-None
returns-in-None c =
    let P : Option Child → Difference → Type 0 = HasOtherSpecification c.args.app.now c.args.child.now in
    let old = c.args.found.now.items in
    subst (λ (o : Option Child). Adds (P o) old old) c.child_of.ensures
    (by_none P c.child_of.result old c.in-None.is (λ d w. w))
