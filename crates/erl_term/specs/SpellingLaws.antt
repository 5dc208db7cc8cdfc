-- The laws of spelling: a text that spells an atom is written as it is, and spells that one alone.
use Rattle.std.proofs.Common.{◌≡◌, ℕ, List, IsTrue, ap, sym, ◌∙◌}
use Rattle.std.specs.Bool.{Decides}
use Rattle.std.specs.Hash as fed
use Rattle.std.specs.Str.{bytes_eq, chars}
use Rattle.std.proofs.lemmas.Bool.Decides.{Decides-and, same_from_decides}
use Rattle.std.proofs.lemmas.Slice.Eq.{bytes_eq-Decides}
use Rattle.erl_term.specs.Spelling.{spells}
use Rattle.erl_term.specs.Text.{utf8}

pub spells-Decides : (text atom : List ℕ) → Decides (spells text atom) ((chars text ≡ atom) × (text ≡ utf8 atom))
spells-Decides text atom = Decides-and _ _ (bytes_eq-Decides (chars text) atom) (bytes_eq-Decides text (utf8 atom))

pub one_writing : (text atom : List ℕ) → IsTrue (spells text atom) → fed.str text ≡ fed.str (utf8 atom)
one_writing text atom it = ap fed.str ((spells-Decides text atom).0 it).1

pub one_spelling : (text atom other : List ℕ) → IsTrue (spells text atom) → spells text other ≡ bytes_eq atom other
one_spelling text atom other it =
    let is = (spells-Decides text atom).0 it in
    let same = bytes_eq-Decides atom other in
    same_from_decides _ _ (spells-Decides text other)
    (λ e. (is.0 ∙ same.0 e, is.1 ∙ ap utf8 (same.0 e)), λ both. same.1 (sym is.0 ∙ both.0))
