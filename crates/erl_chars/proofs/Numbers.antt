-- Lemmas on the digits of a number.
use Rattle.std.proofs.Common.{◌≡◌, ℕ, ◌+◌, ◌*◌, ◌<◌, min, Bool, List, [], ◌∷◌, Some, None, inl, inr, ap, sym, ◌∙◌, refl, arith}
use Rattle.std.specs.Char.{digit_value}
use Rattle.std.proofs.lemmas.Bool.{cond-true, cond-false, cases_Bool}
use Rattle.erl_chars.specs.Chars.{is_digit, front, after_front}
use Rattle.erl_chars.specs.Digits.{TakesDigit, saturated}

saturated-min : (n : ℕ) (ds : List ℕ) → saturated (min 4294967295 n) ds ≡ saturated n ds
saturated-min n [] = omega arith
saturated-min n (c ∷ cs) =
    let small = min 4294967295 n * 16 + digit_value c in
    let large = n * 16 + digit_value c in
    let same : min 4294967295 small ≡ min 4294967295 large = omega arith in
    sym (saturated-min small cs) ∙ (ap (λ k. saturated k cs) same ∙ saturated-min large cs)

-- one digit more
pub saturated-more : (n digit more : ℕ) (cs rest : List ℕ) → TakesDigit 16 cs (Some digit) rest → more ≡ min 4294967295 (min 4294967295 (n * 16) + digit) → saturated more (front (is_digit 16) rest) ≡ saturated n (front (is_digit 16) cs)
saturated-more n digit more cs rest takes is =
    let c = takes.0 in
    let ds = front (is_digit 16) rest in
    let value : digit ≡ digit_value c = takes.3 in
    let whole : front (is_digit 16) cs ≡ c ∷ ds = ap (front (is_digit 16)) takes.1 ∙ cond-true (is_digit 16 c) (c ∷ ds) [] takes.2 in
    let same : more ≡ min 4294967295 (n * 16 + digit_value c) = omega arith in
    ap (λ k. saturated k ds) same ∙ (saturated-min (n * 16 + digit_value c) ds ∙ ap (saturated n) (sym whole))

pub behind-more : (digit : ℕ) (cs rest : List ℕ) → TakesDigit 16 cs (Some digit) rest → after_front (is_digit 16) rest ≡ after_front (is_digit 16) cs
behind-more digit cs rest takes =
    sym (ap (after_front (is_digit 16)) takes.1 ∙ cond-true (is_digit 16 takes.0) (after_front (is_digit 16) rest) (takes.0 ∷ rest) takes.2)

-- no digit more
pub saturated-end : (n : ℕ) (cs rest : List ℕ) → n < 4294967296 → TakesDigit 16 cs None rest → n ≡ saturated n (front (is_digit 16) cs)
saturated-end n cs rest small takes =
    let whole : n ≡ min 4294967295 n = omega arith in
    whole ∙ ap (saturated n) (sym takes.1)

behind-none : (p : ℕ → Bool) (cs : List ℕ) → front p cs ≡ [] → after_front p cs ≡ cs
behind-none p [] none = refl
behind-none p (c ∷ cs) none =
    elim (cases_Bool (p c)) [
      | inl passes ↦ let some : c ∷ front p cs ≡ [] = sym (cond-true (p c) (c ∷ front p cs) [] passes) ∙ none in cc
      | inr fails ↦ cond-false (p c) (after_front p cs) (c ∷ cs) fails
    ]

pub behind-end : (cs rest : List ℕ) → TakesDigit 16 cs None rest → rest ≡ after_front (is_digit 16) cs
behind-end cs rest takes = sym takes.0 ∙ sym (behind-none (is_digit 16) cs takes.1)
