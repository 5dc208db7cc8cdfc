-- A text that is shown.
use Rattle.std.proofs.Common.{◌≡◌, ◌∙◌, sym, ap, subst, ℕ, false, List, [], ◌++◌, Result, Ok, Err}
use Rattle.std.specs.Prelude.{encode_utf8_all, MatchResult}
use Rattle.std.specs.Result.{result_unwrap_or}
use Rattle.std.specs.Str.{chars, IsUtf8}
use Rattle.std.proofs.lemmas.Str.{chars-encodes, chars-nil}
use Rattle.std.proofs.lemmas.List.Elements.{All-nil}
use Rattle.diagnostics.specs.Shown.{IsOneLine, is_hidden}
use Rattle.rehearsal_page.specs.Parts.{IsShown}

-- texts of the same characters are the same
same-text : (text shown : List ℕ) → IsUtf8 text → IsUtf8 shown → chars shown ≡ chars text → shown ≡ text
same-text text shown (cs, (valid, is)) (ds, (valid_too, is_too)) same =
    let of_text : chars text ≡ cs = ap chars (sym is) ∙ chars-encodes cs valid in
    let of_shown : chars shown ≡ ds = ap chars (sym is_too) ∙ chars-encodes ds valid_too in
    sym is_too ∙ ap encode_utf8_all (sym of_shown ∙ same ∙ of_text) ∙ is

-- what is read of bytes that are a text
pub read-text : {S E : Type 0} (now : S → List ℕ) (text : List ℕ) (r : Result S E) (d read : S) (Bad : E → Type 0) → MatchResult r (λ s. (now s ≡ text) × IsUtf8 text) (λ e. ¬ IsUtf8 text × Bad e) → read ≡ result_unwrap_or r d → IsUtf8 text → now read ≡ text
read-text now text (Ok s) d read Bad cases is valid = ap now is ∙ cases.0
read-text now text (Err e) d read Bad cases is valid = absurd (cases.0 valid)

-- how a text is shown, or nothing if the bytes are no text
pub shown-of : (text read begun shown : List ℕ) → (IsUtf8 text → read ≡ text) → begun ≡ [] → IsUtf8 shown → (IsOneLine (chars begun) → IsOneLine (chars shown)) → (IsOneLine (chars read) → chars shown ≡ chars begun ++ chars read) → IsShown text shown
shown-of text read begun shown reads nothing whole one_line plain =
    let none : chars begun ≡ [] = ap chars nothing ∙ chars-nil in
    record {
      is_utf8 = whole;
      is_one_line = one_line (subst (λ cs. IsOneLine cs) (sym none) (All-nil (λ c. is_hidden c ≡ false)));
      plain = λ valid line. same-text text shown valid whole (plain (subst (λ l. IsOneLine (chars l)) (sym (reads valid)) line) ∙ ap (λ l. l ++ chars read) none ∙ ap chars (reads valid));
    }
