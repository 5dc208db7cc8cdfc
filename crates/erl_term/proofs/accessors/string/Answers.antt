use Rattle.std.proofs.Common.{◌≡◌, Some, string_bytes, option_map, option_and_then, sym, ap, ◌∙◌}
use Rattle.std.specs.Prelude.{encode_utf8_all}
use Rattle.std.proofs.lemmas.List.{drop_all}
use Rattle.std.proofs.lemmas.Str.{IsUtf8-string_bytes}
use Rattle.erl_term.specs.Accessors.{all_of, char_of, list_of, string_of}
use Rattle.erl_term.specs.Term.{tree, trees}
use Rattle.erl_term.proofs.Accessing.{string-end, as_chars}
use Rattle.erl_term.proofs.accessors.string.Goals as goal

-- src/readers.rt:158:1
pub returns : goal.returns
returns c =
    let items = c.as_slice-term-items.result.now in
    let i = c.loop-term.term-index in
    let bytes = string_bytes c.loop-term.text in
    let read = string-end items i bytes (option_map encode_utf8_all (all_of char_of (trees items))) (drop_all i items c.loop-term-test.false) c.loop-term.invariant in
    let row : list_of (tree c.args.term.now) ≡ Some c.in-Some.row.now = c.in-Some.ensures in
    as_chars (string_of (tree c.args.term.now)) bytes (IsUtf8-string_bytes c.loop-term.text)
    (ap (λ o. option_map encode_utf8_all (option_and_then (all_of char_of) o)) row ∙ ap (λ ts. option_map encode_utf8_all (all_of char_of ts)) (sym c.as_slice-term-items.ensures) ∙ read)
