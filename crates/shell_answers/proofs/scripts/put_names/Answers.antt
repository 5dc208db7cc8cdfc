-- One more in each turn.
use Rattle.std.proofs.Common.{◌<◌, ◌≤◌, ◌++◌, ◌+◌, ap, drop, eqb, length, sym, ◌∙◌}
use Rattle.std.proofs.lemmas.List.{drop_all}
use Rattle.erl_semantics.proofs.Tests.{from_here}
use Rattle.erl_term.specs.Conversions.{rows}
use Rattle.erl_term.specs.Text.{elements_text, utf8}
use Rattle.erl_term.specs.Tree.{atom}
use Rattle.shell_answers.specs.Answers.{listed}
use Rattle.shell_answers.proofs.Pieces.{all_written, element, not_first}
use Rattle.shell_answers.proofs.scripts.put_names.Goals as goal

pub loop-index-preserved : goal.loop-index-preserved
loop-index-preserved c =
    let index = c.loop-index.index in
    let all = c.args.names.now in
    let out = c.loop-index.out.items in
    let it = c.index-names-index.result in
    let rest = rows atom (drop (index + 1) all) in
    let mid = c.put_separator.new.out.items in
    let new = c.print_atom.new.out.items in
    let within : index < length all = c.loop-index-test.true in
    element (eqb index 0) (atom it) rest c.args.out.now.items out mid new (utf8 (elements_text (rows atom all))) (c.loop-index.invariant ∙ ap (λ names. out ++ utf8 (listed (eqb index 0) (rows atom names))) (from_here all index it within c.index-names-index.is)) c.in_ok-put_separator.ensures c.in_ok-print_atom.ensures.printed ∙ ap (λ b. new ++ utf8 (listed b rest)) (sym (not_first index))

pub returns : goal.returns
returns c =
    let index = c.loop-index.index in
    let all = c.args.names.now in
    let past : length all ≤ index = c.loop-index-test.false in
    all_written (eqb index 0) (rows atom (drop index all)) c.args.out.now.items c.loop-index.out.items (utf8 (elements_text (rows atom all))) c.loop-index.invariant (ap (λ names. rows atom names) (drop_all index all past))
