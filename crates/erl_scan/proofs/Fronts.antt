-- The longest front of which every character passes a test.
use Rattle.std.proofs.Common.{◌≡◌, ℕ, Bool, true, false, List, [], ◌∷◌, ◌++◌, refl, sym, ap, ◌∙◌}
use Rattle.std.proofs.lemmas.List.{append_cancel_right}
use Rattle.erl_chars.specs.Chars.{front, after_front}

one_more : (p : ℕ → Bool) (c : ℕ) (cs : List ℕ) → cs ≡ front p cs ++ after_front p cs → (b : Bool) → p c ≡ b → c ∷ cs ≡ front p (c ∷ cs) ++ after_front p (c ∷ cs)
one_more p c cs rest true passes = rw passes (ap (λ ds. c ∷ ds) rest)
one_more p c cs rest false fails = rw fails refl

-- characters are the longest front of which each passes a test, and what is left behind it
pub front_and_rest : (p : ℕ → Bool) (cs : List ℕ) → cs ≡ front p cs ++ after_front p cs
front_and_rest p [] = refl
front_and_rest p (c ∷ cs) = one_more p c cs (front_and_rest p cs) (p c) refl

-- what stands in front of the rest is that front
pub front_from_rest : (p : ℕ → Bool) (cs name rest : List ℕ) → rest ≡ after_front p cs → cs ≡ name ++ rest → name ≡ front p cs
front_from_rest p cs name rest behind split =
    append_cancel_right name (front p cs) (after_front p cs) (ap (λ ys. name ++ ys) (sym behind) ∙ sym split ∙ front_and_rest p cs)
