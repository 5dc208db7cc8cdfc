-- One kind after the other.
use Rattle.std.proofs.Common.{◌⊎◌, List, sym, subst}
use Rattle.upgrade_review.proofs.Adding.{adds_both, from_nothing, none_twice}
use Rattle.otp_review.specs.OnOtp.{DiffersByName, DiffersByPoint, DiffersOnOtp, FailsOnOtp}
use Rattle.upgrade_review.specs.Findings.{AreDifferent}
use Rattle.upgrade_review.specs.Gathering.{Adds}
use Rattle.upgrade_review.specs.declared.finding.Finding.{Finding}
use Rattle.otp_review.proofs.looking.look_at_otp.Goals as goal

pub returns-clause-found : goal.returns-clause-found
returns-clause-found c =
    let way = c.args.way in
    let left = c.args.left.now in
    let script = c.args.script.now in
    let none = c.new-found.result.items in
    let points = c.note_points.new.found.items in
    let names = c.note_names.new.found.items in
    let new = c.note_supervisors.new.found.items in
    let Rest : Finding → Type 0 = λ f. DiffersByName way script f ⊎ FailsOnOtp way left script f in
    let rest = adds_both (DiffersByName way script) (FailsOnOtp way left script) points names new c.in_ok-note_names.ensures
    c.in_ok-note_supervisors.ensures in
    let all : Adds (DiffersOnOtp way left script) none new =
    adds_both (DiffersByPoint way script) Rest none points new c.in_ok-note_points.ensures rest in
    from_nothing (DiffersOnOtp way left script) new (subst (λ (old : List Finding). Adds (DiffersOnOtp way left script) old new)
    c.new-found.ensures.items all)

pub returns-clause-once : goal.returns-clause-once
returns-clause-once c =
    c.in_ok-note_supervisors.ensures.once (c.in_ok-note_names.ensures.once (c.in_ok-note_points.ensures.once
    (subst AreDifferent (sym c.new-found.ensures.items) none_twice)))
