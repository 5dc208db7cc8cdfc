-- Those of one more in each turn.
use Rattle.std.proofs.Common.{◌≤◌, ◌++◌, ◌+◌, ◌&&◌, ap, drop, length, ◌∙◌, arith}
use Rattle.std.proofs.lemmas.List.{drop_all}
use Rattle.erl_semantics.proofs.Tests.{from_here}
use Rattle.erl_term.specs.Text.{elements_text, utf8}
use Rattle.shell_answers.specs.Answers.{replies_in, rows_of, is_none, listed}
use Rattle.shell_answers.proofs.Pieces.{all_written, row_written}
use Rattle.shell_answers.proofs.replies.put_rows.Goals as goal

pub loop-row-preserved : goal.loop-row-preserved
loop-row-preserved c =
    let index = c.loop-row.row-index in
    let all = c.args.rows.now in
    let out = c.loop-row.out.items in
    let first = c.loop-row.is_first in
    row_written first c.in_ok-is_first.is_first (replies_in c.row-item.result) (rows_of (drop (index + 1) all)) c.args.out.now.items out c.put_replies.new.out.items (utf8 (elements_text (rows_of all))) (c.loop-row.invariant ∙ ap (λ es. out ++ utf8 (listed first (rows_of es))) (from_here all index c.row-item.result c.loop-row-test.true c.row-item.is)) (c.in_ok-is_first.ensures.written ∙ ap (λ rs. out ++ utf8 (listed first (replies_in rs))) c.as_slice.ensures) (c.in_ok-is_first.ensures.first ∙ ap (λ rs. first && is_none (replies_in rs)) c.as_slice.ensures)

pub returns : goal.returns
returns c =
    let index = c.loop-row.row-index in
    let all = c.args.rows.now in
    let past : length all ≤ index = omega (arith, c.loop-row-test.false) in
    all_written c.loop-row.is_first (rows_of (drop index all)) c.args.out.now.items c.loop-row.out.items (utf8 (elements_text (rows_of all))) c.loop-row.invariant (ap rows_of (drop_all index all past))
