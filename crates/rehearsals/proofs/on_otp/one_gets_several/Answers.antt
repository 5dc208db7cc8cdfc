-- One of them has, or none has.
use Rattle.std.proofs.Common.{◌≡◌, ◌∙◌, ◌+◌, ◌<◌, ◌≤◌, ℕ, Option, length, ap, arith, inl, inr, refl, subst, sym}
use Rattle.std.proofs.lemmas.Bool.{cases_lt, false≢true}
use Rattle.node_views.proofs.Found.{nobody_past}
use Rattle.node_views.specs.Changes.{process_of}
use Rattle.node_views.specs.declared.process_view.ProcessView.{ProcessView}
use Rattle.rehearsals.specs.OnOtp.{GetsSeveral, mailbox_of}
use Rattle.rehearsals.proofs.on_otp.one_gets_several.Goals as goal

pub returns : goal.returns
returns c =
    let before = c.args.before.now in
    let after = c.args.after.now in
    let n = c.loop-pid.pid in
    let size = ap length c.as_slice.ensures in (
      (λ is. absurd (false≢true is)),
      (λ w. elim (cases_lt w.0 n) [
        | inl below ↦ absurd (c.loop-pid.invariant w.0 below w.1)
        | inr above ↦
            let past : length after.processes ≤ w.0 = omega (arith, above, c.loop-pid-test.false, size) in
            let none : length (mailbox_of (process_of w.0 before)) + 2 ≤ 0 =
            subst (λ (o : Option ProcessView). length (mailbox_of (process_of w.0 before)) + 2 ≤ length (mailbox_of o))
            (nobody_past after w.0 past) w.1 in
            absurd (omega (arith, none))
      ]),
    )

pub returns-then-gets_several : goal.returns-then-gets_several
returns-then-gets_several c = ((λ is. (c.loop-pid.pid, c.gets_several.ensures.0 c.if-gets_several.true)), (λ w. refl))

pub loop-pid-preserved : goal.loop-pid-preserved
loop-pid-preserved c =
    λ p within has. elim (cases_lt p c.loop-pid.pid) [
      | inl below ↦ c.loop-pid.invariant p below has
      | inr above ↦
          let at : p ≡ c.loop-pid.pid = omega (arith, within, above) in
          false≢true (sym c.if-gets_several.false ∙ c.gets_several.ensures.1
          (subst (λ q. GetsSeveral c.args.before.now c.args.after.now q) at has))
    ]
