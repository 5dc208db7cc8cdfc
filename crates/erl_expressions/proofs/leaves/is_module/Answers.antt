-- Bytes are compared, which are the characters' own.
use Rattle.std.proofs.Common.{ap, ◌∙◌, refl, List, ℕ, [], ◌∷◌, rules}
use Rattle.std.proofs.lemmas.Str.{IsUtf8-from_ascii}
use Rattle.std.specs.Str.{bytes_eq}
use Rattle.erl_term.proofs.Ascii.{is_word}
use Rattle.erl_expressions.proofs.leaves.is_module.Goals as goal

abbrev module_word : List ℕ
module_word = 77 ∷ 79 ∷ 68 ∷ 85 ∷ 76 ∷ 69 ∷ []

pub returns : goal.returns
returns c =
    is_word c.as_str.result.now module_word c.eq.result c.as_str.utf8 (IsUtf8-from_ascii module_word (search rules)) refl c.eq.ensures ∙ ap (λ cs. bytes_eq cs module_word) c.as_str.ensures
