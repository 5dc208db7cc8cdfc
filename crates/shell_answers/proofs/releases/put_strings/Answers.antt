-- One more in each turn.
use Rattle.std.proofs.Common.{◌<◌, ◌≤◌, ◌++◌, ◌+◌, ap, drop, eqb, length, map, sym, ◌∙◌}
use Rattle.std.proofs.lemmas.List.{drop_all}
use Rattle.std.specs.Str.{chars}
use Rattle.erl_semantics.proofs.Tests.{from_here}
use Rattle.erl_term.specs.Conversions.{rows}
use Rattle.erl_term.specs.Text.{elements_text, utf8}
use Rattle.release_words.specs.Words.{string_tree}
use Rattle.shell_answers.specs.Answers.{characters, listed}
use Rattle.shell_answers.proofs.Pieces.{all_written, bytes, element, not_first}
use Rattle.shell_answers.proofs.releases.put_strings.Goals as goal

pub loop-index-preserved : goal.loop-index-preserved
loop-index-preserved c =
    let index = c.loop-index.index in
    let all = c.args.texts.now in
    let out = c.loop-index.out.items in
    let it = c.index-texts-index.result in
    let rest = rows string_tree (map characters (drop (index + 1) all)) in
    let mid = c.put_separator.new.out.items in
    let new = c.print_string.new.out.items in
    let within : index < length all = c.loop-index-test.true in
    element (eqb index 0) (string_tree (characters it)) rest c.args.out.now.items out mid new (utf8 (elements_text (rows string_tree (map characters all)))) (c.loop-index.invariant ∙ ap (λ texts. out ++ utf8 (listed (eqb index 0) (rows string_tree (map characters texts)))) (from_here all index it within c.index-texts-index.is)) c.in_ok-put_separator.ensures (c.in_ok-print_string.ensures.printed ∙ ap (λ bs. mid ++ bytes (string_tree (chars bs))) c.as_str.ensures.value) ∙ ap (λ b. new ++ utf8 (listed b rest)) (sym (not_first index))

pub returns : goal.returns
returns c =
    let index = c.loop-index.index in
    let all = c.args.texts.now in
    let past : length all ≤ index = c.loop-index-test.false in
    all_written (eqb index 0) (rows string_tree (map characters (drop index all))) c.args.out.now.items c.loop-index.out.items (utf8 (elements_text (rows string_tree (map characters all)))) c.loop-index.invariant (ap (λ texts. rows string_tree (map characters texts)) (drop_all index all past))
