-- Each process in turn.
use Rattle.std.proofs.Common.{◌≡◌, ℕ, List, Contains, get_or, subst}
use Rattle.std.proofs.lemmas.List.{get_or_default}
use Rattle.upgrade_review.proofs.Adding.{ends, goes_on}
use Rattle.upgrade_review.specs.Gathering.{Adds}
use Rattle.rehearsals.proofs.Pids.{members_noted}
use Rattle.rehearsals.specs.declared.observing.Observation.{Observation}
use Rattle.rehearsals.specs.declared.observing.Observation.TheVariants.{TemporaryOnOtp}
use Rattle.rehearsals.proofs.on_otp.note_temporary.Goals as goal

pub loop-pid-preserved : goal.loop-pid-preserved
loop-pid-preserved c =
    let xs = c.as_slice-pid-items.result.now in
    let n = c.loop-pid.pid-index in
    let pid = get_or xs n 0 in
    let within = c.loop-pid-test.true in
    let R : ℕ → ℕ → Observation → Type 0 = λ i pid o. o ≡ TemporaryOnOtp c.args.way c.args.index pid in
    goes_on R xs n pid _ _ _ within (get_or_default xs n 0 pid within) c.loop-pid.invariant c.in_ok-note_stopped.ensures

pub returns : goal.returns
returns c =
    let xs = c.as_slice-pid-items.result.now in
    let R : ℕ → Observation → Type 0 = λ pid o. o ≡ TemporaryOnOtp c.args.way c.args.index pid in
    let old = c.args.found.now.items in
    let new = c.loop-pid.found.items in
    subst (λ (items : List ℕ). Adds (λ o. (pid : ℕ) × Contains items pid × R pid o) old new) c.as_slice-pid-items.ensures
    (members_noted R xs old new (ends (λ i pid. R pid) xs _ _ _ c.loop-pid-test.false c.loop-pid.invariant))
