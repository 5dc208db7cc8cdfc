-- Lemmas on names and lines.
use Rattle.std.proofs.Common.{◌≡◌, ℕ, Bool, true, false, cond, leb, ltb, List, length, None, Some, is_some, refl, arith}
use Rattle.std.specs.Str.{IsUtf8, is_utf8}
use Rattle.std.proofs.lemmas.Str.{IsUtf8-from_is_utf8}
use Rattle.std.proofs.lemmas.Bool.Decides.{nat_tests}

-- a number of characters that is no more than 255 is not more
pub within_is : (n : ℕ) (cs : List ℕ) → n ≡ length cs → leb n 255 ≡ is_some (cond (ltb 255 (length cs)) None (Some cs))
within_is n cs e = grind (arith, nat_tests)

-- a line that is not UTF-8
pub not_utf8 : (bs : List ℕ) → ¬ IsUtf8 bs → is_utf8 bs ≡ false
not_utf8 bs fails = by (is_utf8 bs) refl
  where
    by : (b : Bool) → is_utf8 bs ≡ b → is_utf8 bs ≡ false
    by true e = absurd (fails (IsUtf8-from_is_utf8 bs e))
    by false e = e
