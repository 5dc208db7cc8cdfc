-- The text's first fault is its only one.
use Rattle.std.proofs.Common.{inl, inr}
use Rattle.otp_files.specs.Upgrades.{AppupRefused}
use Rattle.otp_files.proofs.Files.{told_appup, untold_appup}
use Rattle.otp_files.proofs.appup.appup_error.Goals as goal

pub returns-in-Text : goal.returns-in-Text
returns-in-Text c = λ told.
    let bytes = c.args.text.now in
    elim told [
      | inl e ↦ absurd (let never : ⊥ = cc in never)
      | inr wrong ↦ inr (told_appup AppupRefused bytes c.in-Text.error _ c.text_error.result (c.texts_read_one_way.ensures bytes) c.in-Text.is wrong c.text_error.ensures)
    ]

pub returns-in_default : goal.returns-in_default
returns-in_default c = λ told.
    let bytes = c.args.text.now in
    elim told [
      | inl e ↦ inl e
      | inr wrong ↦ inr (untold_appup AppupRefused bytes _ (c.texts_read_one_way.ensures bytes) c.in_default.not-Text wrong)
    ]
