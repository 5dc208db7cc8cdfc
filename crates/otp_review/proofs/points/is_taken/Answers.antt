-- The next one is not late, or it is the one that is; or all have been looked at.
use Rattle.std.proofs.Common.{◌≡◌, ◌∙◌, ◌<◌, Some, false, inl, inr, arith, length, refl, subst, sym, true≢false}
use Rattle.std.proofs.lemmas.Bool.{cases_lt, false≢true}
use Rattle.std.proofs.lemmas.Option.{get_or_from_slice_get, slice_get_read, slice_get_within}
use Rattle.std.specs.List.{slice_get}
use Rattle.low_instructions.specs.declared.low.Low.{Low}
use Rattle.otp_review.specs.OnOtp.{is_late}
use Rattle.otp_review.proofs.points.is_taken.Goals as goal

pub loop-index-preserved : goal.loop-index-preserved
loop-index-preserved c =
    let script = c.args.script.now in
    let n = c.loop-index.index in
    let item = c.index-script-index.result in
    λ i low within at. elim (cases_lt i n) [
      | inl below ↦ c.loop-index.invariant i low below at
      | inr above ↦
          let here : i ≡ n = omega (arith, within, above) in
          let same : item ≡ low =
          c.index-script-index.is ∙ get_or_from_slice_get script n low item (subst (λ k. slice_get script k ≡ Some low) here at) in
          subst (λ k. is_late script k low ≡ false) (sym here)
          (subst (λ (it : Low). is_late script n it ≡ false) same (sym c.is_late.ensures ∙ c.if-is_late.false))
    ]

pub returns-then-is_late : goal.returns-then-is_late
returns-then-is_late c =
    let script = c.args.script.now in
    let n = c.loop-index.index in
    let item = c.index-script-index.result in
    let at : slice_get script n ≡ Some item =
    slice_get_read script (length script) n item refl c.loop-index-test.true c.index-script-index.is in
    ((λ is. absurd (false≢true is)), (λ taken. absurd (true≢false (sym c.if-is_late.true ∙ c.is_late.ensures ∙ taken n item at))))

pub returns : goal.returns
returns c =
    let script = c.args.script.now in
    let past = c.loop-index-test.false in (
      (λ is i low at.
          let there : i < length script = slice_get_within script i low at in
          let within : i < c.loop-index.index = omega (arith, there, past) in
          c.loop-index.invariant i low within at),
      (λ taken. refl),
    )
