-- The characters of a name are ASCII, so its bytes are its characters.
use Rattle.std.proofs.Common.{◌≡◌, true, sym, ◌∙◌}
use Rattle.std.specs.List.{list_all}
use Rattle.std.specs.Str.{chars}
use Rattle.erl_term.specs.Text.{begins_lower, is_name_char}
use Rattle.erl_term.proofs.Texts.{names-bytes, plain-by_words}
use Rattle.erl_term.proofs.printing.is_plain.Goals as goal
use Rattle.erl_term.proofs.printing.is_plain.Goals.{then-begins_lower, else-begins_lower}

pub returns-then-has_name_chars : goal.returns-then-has_name_chars
returns-then-has_name_chars c =
    let name = c.args.name.now in
    let begins : begins_lower (chars name) ≡ true = elim c.if-begins_lower.branch [
      | then-begins_lower w ↦ sym c.begins_lower.ensures ∙ w.if-begins_lower.true
      | else-begins_lower w ↦ absurd (let no : ⊥ = cc in no)
    ] in
    let all : list_all is_name_char (chars name) ≡ true = elim c.if-begins_lower.branch [
      | then-begins_lower w ↦ sym w.has_name_chars.ensures ∙ sym w.value-is ∙ c.if-has_name_chars.true
      | else-begins_lower w ↦ absurd (let no : ⊥ = cc in no)
    ] in
    plain-by_words (chars name) name c.is_quoted_word.result begins all (names-bytes name c.utf8.name all) c.is_quoted_word.ensures
