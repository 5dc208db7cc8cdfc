-- A byte more is appended, and none of them begins or ends a tag or a value.
use Rattle.std.proofs.Common.{◌≡◌, ◌∙◌, refl, ap, ℕ, ◌+◌, ◌<◌, ◌==◌, ◌||◌, Bool, true, false, if◌then◌else◌, List, [], ◌∷◌, ◌++◌, length, take, get_or, append-nil}
use Rattle.std.specs.List.{list_any}
use Rattle.std.proofs.lemmas.List.{take_more}
use Rattle.std.proofs.lemmas.List.Concat.{flat_map-append}
use Rattle.rehearsal_page.specs.Escaping.{escaped, escaped_byte, is_bracket}

pub escaped-more : (text : List ℕ) (i : ℕ) → i < length text → escaped (take (i + 1) text) ≡ escaped (take i text) ++ escaped_byte (get_or text i 0)
escaped-more text i less =
    ap escaped (take_more text i 0 less)
    ∙ flat_map-append escaped_byte (take i text) (get_or text i 0 ∷ [])
    ∙ ap (λ last. escaped (take i text) ++ last) (append-nil (escaped_byte (get_or text i 0)))

any-behind : (first rest all : Bool) → (first || rest) ≡ false → (rest ≡ false → all ≡ false) → (first || all) ≡ false
any-behind true rest all none more = none
any-behind false rest all none more = more none

any-append : (xs ys : List ℕ) → list_any is_bracket xs ≡ false → list_any is_bracket ys ≡ false → list_any is_bracket (xs ++ ys) ≡ false
any-append [] ys none others = others
any-append (x ∷ xs) ys none others = any-behind (is_bracket x) (list_any is_bracket xs) (list_any is_bracket (xs ++ ys)) none (λ rest. any-append xs ys rest others)

-- a choice has no bracket if what is chosen has none
any-if : (chosen : Bool) (xs ys : List ℕ) → list_any is_bracket xs ≡ false → (chosen ≡ false → list_any is_bracket ys ≡ false) → list_any is_bracket (if chosen then xs else ys) ≡ false
any-if true xs ys here there = here
any-if false xs ys here there = there refl

byte-is-plain : (b : ℕ) → list_any is_bracket (escaped_byte b) ≡ false
byte-is-plain b =
    any-if (b == 38) _ _ refl (λ amp.
    any-if (b == 60) _ _ refl (λ less.
    any-if (b == 62) _ _ refl (λ more.
    any-if (b == 34) _ _ refl (λ quote.
    any-if (b == 39) _ _ refl (λ single. rw less (rw more (rw quote (rw single refl))))))))

-- what is appended has no bracket
pub escaped-is-plain : (text : List ℕ) → list_any is_bracket (escaped text) ≡ false
escaped-is-plain [] = refl
escaped-is-plain (b ∷ bs) = any-append (escaped_byte b) (escaped bs) (byte-is-plain b) (escaped-is-plain bs)
