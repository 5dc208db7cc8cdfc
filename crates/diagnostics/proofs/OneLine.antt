-- One character more, which is not hidden.
use Rattle.std.proofs.Common.{◌≡◌, ℕ, Bool, true, false, List, [], ◌∷◌, ◌++◌, Result, Ok, Err, is_ok, OnOk, if◌then◌else◌, sym, subst}
use Rattle.std.specs.Prelude.{encode_utf8}
use Rattle.std.specs.Str.{chars, IsUtf8}
use Rattle.std.specs.Char.{IsScalar}
use Rattle.std.proofs.lemmas.List.Elements.{All-append, All-cons, All-head, All-nil, All-tail}
use Rattle.erl_chars.proofs.Utf8.{chars-push}
use Rattle.diagnostics.specs.Shown.{IsOneLine, is_hidden}

pub shown-push : (bs new : List ℕ) (c : ℕ) → IsUtf8 bs → IsScalar c → is_hidden c ≡ false → new ≡ bs ++ encode_utf8 c → IsOneLine (chars bs) → IsOneLine (chars new)
shown-push bs new c whole is plain more so_far =
    subst (λ cs. IsOneLine cs) (sym (chars-push bs new c whole is more)) (All-append (λ d. is_hidden d ≡ false) (chars bs) (c ∷ []) so_far (All-cons (λ d. is_hidden d ≡ false) c [] plain (All-nil (λ d. is_hidden d ≡ false))))

pub shown-pushed : {X Y : Type 0} (r : Result X Y) (bs new : List ℕ) (c : ℕ) → IsUtf8 bs → IsScalar c → is_hidden c ≡ false → new ≡ (if is_ok r then bs ++ encode_utf8 c else bs) → IsOneLine (chars bs) → IsOneLine (chars new)
shown-pushed (Ok x) bs new c whole is plain more so_far = shown-push bs new c whole is plain more so_far
shown-pushed (Err e) bs new c whole is plain more so_far = subst (λ l. IsOneLine (chars l)) (sym more) so_far

pub chars-pushed : {X Y : Type 0} (r : Result X Y) (bs new : List ℕ) (c : ℕ) → IsUtf8 bs → IsScalar c → new ≡ (if is_ok r then bs ++ encode_utf8 c else bs) → OnOk r (chars new ≡ chars bs ++ c ∷ [])
chars-pushed (Ok x) bs new c whole is more = chars-push bs new c whole is more
chars-pushed (Err e) bs new c whole is more = tt

pub last-plain : (cs : List ℕ) (c : ℕ) → IsOneLine (cs ++ c ∷ []) → is_hidden c ≡ false
last-plain [] c all = All-head (λ d. is_hidden d ≡ false) c [] all
last-plain (d ∷ cs) c all = last-plain cs c (All-tail (λ e. is_hidden e ≡ false) d (cs ++ c ∷ []) all)

pub front-plain : (cs : List ℕ) (c : ℕ) → IsOneLine (cs ++ c ∷ []) → IsOneLine cs
front-plain [] c all = All-nil (λ d. is_hidden d ≡ false)
front-plain (d ∷ cs) c all =
    All-cons (λ e. is_hidden e ≡ false) d cs (All-head (λ e. is_hidden e ≡ false) d (cs ++ c ∷ []) all) (front-plain cs c (All-tail (λ e. is_hidden e ≡ false) d (cs ++ c ∷ []) all))
