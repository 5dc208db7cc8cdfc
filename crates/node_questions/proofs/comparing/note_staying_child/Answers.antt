-- It is noted if there is none.
use Rattle.std.proofs.Common.{◌≡◌, None, OnOk, is_some, subst}
use Rattle.app_table.specs.Applications.{child_of}
use Rattle.upgrade_review.specs.Gathering.{Adds}
use Rattle.node_questions.proofs.Noted.{none_found, of_two, some_found}
use Rattle.node_questions.proofs.Turns.{noted_where, nothing_noted}
use Rattle.node_questions.specs.declared.comparing.Difference.{Difference}
use Rattle.node_questions.specs.declared.comparing.Difference.TheVariants.{ChildStays}
use Rattle.node_questions.proofs.comparing.note_staying_child.Goals as goal

pub returns-then-is_some : goal.returns-then-is_some
returns-then-is_some c =
    let id = c.args.child.now.spec.id in
    nothing_noted (child_of c.args.app.now id c.args.booted.now ≡ None) (λ d. d ≡ ChildStays c.args.app.now id) _
    (some_found c.child_of.result _ c.is_some.result c.child_of.ensures c.is_some.ensures c.if-is_some.true)

pub returns : goal.returns
returns c =
    let app = c.args.app.now in
    let id = c.args.child.now.spec.id in
    let old = c.args.found.now.items in
    let new = c.note.new.found.items in
    let none : child_of app id c.args.booted.now ≡ None =
    none_found c.child_of.result _ c.is_some.result c.child_of.ensures c.is_some.ensures c.if-is_some.false in
    let is : ChildStays c.in_ok-application.application c.in_ok-id.id ≡ ChildStays app id =
    of_two ChildStays _ _ _ _ c.in_ok-application.ensures c.in_ok-id.ensures in
    noted_where c.note.result (child_of app id c.args.booted.now ≡ None) (ChildStays app id) old new none
    (subst (λ (one : Difference). OnOk c.note.result (Adds (λ d. d ≡ one) old new)) is c.note.ensures)
