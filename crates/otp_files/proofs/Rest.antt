-- What stands behind an application's version: nothing, one term or two.
use Rattle.std.proofs.Common.{◌≡◌, ℕ, List, [], ◌∷◌, length, None, refl}
use Rattle.erl_term.specs.declared.term.Term.{Term}
use Rattle.erl_term.specs.Accessors.{one_of, two_of}
use Rattle.erl_term.specs.Term.{trees}
use Rattle.otp_files.specs.Reading.{rel_app_with}

pub too_many : (a v : List ℕ) (items : List Term) → (length items ≡ 0 → ⊥) → one_of (trees items) ≡ None → two_of (trees items) ≡ None → None ≡ rel_app_with a v (trees items)
too_many a v [] some not_one not_two = absurd (some refl)
too_many a v (t ∷ []) some not_one not_two = absurd (let never : ⊥ = cc in never)
too_many a v (t ∷ (u ∷ [])) some not_one not_two = absurd (let never : ⊥ = cc in never)
too_many a v (t ∷ (u ∷ (w ∷ ws))) some not_one not_two = refl
