-- The instruction is one of four.
use Rattle.std.proofs.Common.{ℕ, List, OnOk, sym, subst}
use Rattle.low_instructions.specs.declared.low.Low.{Low}
use Rattle.low_instructions.specs.declared.modules.ModuleChange.{ModuleChange}
use Rattle.low_instructions.specs.declared.modules.Suspension.{Suspension}
use Rattle.upgrade_review.specs.Gathering.{Adds, FromEach}
use Rattle.otp_review.specs.OnOtp.{ChangesNobody, DiffersAt, IsNotResumed, ResumesNobody, StartsNobody}
use Rattle.upgrade_review.specs.declared.finding.Finding.{Finding}
use Rattle.otp_review.proofs.names.note_instruction.Goals as goal

pub returns-in-Suspend : goal.returns-in-Suspend
returns-in-Suspend c =
    let way = c.args.way in
    let script = c.args.script.now in
    let index = c.args.index in
    let Noted : (Finding → Type 0) → Type 0 =
    λ P. OnOk c.note_suspend.result (Adds P c.args.found.now.items c.note_suspend.new.found.items) in
    let each = subst (λ (its : List (Suspension)). Noted (FromEach (λ j s. IsNotResumed way script index s.name) its)) c.as_slice.ensures c.note_suspend.ensures in
    subst (λ (low : Low). Noted (DiffersAt way script index low)) (sym c.in-Suspend.is) each

pub returns-in-Resume : goal.returns-in-Resume
returns-in-Resume c =
    let way = c.args.way in
    let script = c.args.script.now in
    let index = c.args.index in
    let Noted : (Finding → Type 0) → Type 0 =
    λ P. OnOk c.note_resume.result (Adds P c.args.found.now.items c.note_resume.new.found.items) in
    let each = subst (λ (its : List (List ℕ)). Noted (FromEach (λ j m. ResumesNobody way script index m) its)) c.as_slice-in-Resume.ensures c.note_resume.ensures in
    subst (λ (low : Low). Noted (DiffersAt way script index low)) (sym c.in-Resume.is) each

pub returns-in-CodeChange : goal.returns-in-CodeChange
returns-in-CodeChange c =
    let way = c.args.way in
    let script = c.args.script.now in
    let index = c.args.index in
    let Noted : (Finding → Type 0) → Type 0 =
    λ P. OnOk c.note_changes.result (Adds P c.args.found.now.items c.note_changes.new.found.items) in
    let each = subst (λ (its : List (ModuleChange)). Noted (FromEach (λ j change. ChangesNobody way script index change.name) its)) c.as_slice-in-CodeChange.ensures c.note_changes.ensures in
    subst (λ (low : Low). Noted (DiffersAt way script index low)) (sym c.in-CodeChange.is) each

pub returns-in-Start : goal.returns-in-Start
returns-in-Start c =
    let way = c.args.way in
    let script = c.args.script.now in
    let index = c.args.index in
    let Noted : (Finding → Type 0) → Type 0 =
    λ P. OnOk c.note_start.result (Adds P c.args.found.now.items c.note_start.new.found.items) in
    let each = subst (λ (its : List (List ℕ)). Noted (FromEach (λ j m. StartsNobody way script index m) its)) c.as_slice-in-Start.ensures c.note_start.ensures in
    subst (λ (low : Low). Noted (DiffersAt way script index low)) (sym c.in-Start.is) each
