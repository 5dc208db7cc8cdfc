-- A text in UTF-8 spells the atom that its characters are.
use Rattle.std.proofs.Common.{◌≡◌, ℕ, List, ap, sym, ◌∙◌}
use Rattle.std.specs.Str.{IsUtf8, bytes_eq, chars}
use Rattle.std.proofs.lemmas.Bool.Decides.{same_from_decides}
use Rattle.std.proofs.lemmas.Slice.Eq.{bytes_eq-Decides}
use Rattle.erl_term.proofs.Texts.{utf8-chars}
use Rattle.erl_term.specs.Spelling.{spells}
use Rattle.erl_term.specs.SpellingLaws.{spells-Decides}
use Rattle.erl_term.specs.Text.{utf8}

pub spells-chars : (text atom : List ℕ) → IsUtf8 text → spells text atom ≡ bytes_eq (chars text) atom
spells-chars text atom whole =
    let same = bytes_eq-Decides (chars text) atom in
    same_from_decides _ _ (spells-Decides text atom)
    ((λ e. (same.0 e, sym (utf8-chars text whole) ∙ ap utf8 (same.0 e))), (λ both. same.1 both.0))
