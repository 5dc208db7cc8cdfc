-- Those of one more in each turn.
use Rattle.std.proofs.Common.{◌≤◌, ◌++◌, ◌+◌, ◌&&◌, ap, drop, length, ◌∙◌, arith}
use Rattle.std.proofs.lemmas.List.{drop_all}
use Rattle.erl_semantics.proofs.Tests.{from_here}
use Rattle.erl_term.specs.Text.{elements_text, utf8}
use Rattle.shell_answers.specs.Answers.{arrival_of, arrivals_of, is_none, listed}
use Rattle.shell_answers.proofs.Pieces.{all_written, row_written}
use Rattle.shell_answers.proofs.replies.put_arrivals_of.Goals as goal

pub loop-note-preserved : goal.loop-note-preserved
loop-note-preserved c =
    let index = c.loop-note.note-index in
    let all = c.args.notes.now in
    let out = c.loop-note.out.items in
    let first = c.loop-note.is_first in
    row_written first c.in_ok-is_first.is_first (arrival_of c.note-item.result.arrival) (arrivals_of (drop (index + 1) all)) c.args.out.now.items out c.put_next_arrival.new.out.items (utf8 (elements_text (arrivals_of all))) (c.loop-note.invariant ∙ ap (λ es. out ++ utf8 (listed first (arrivals_of es))) (from_here all index c.note-item.result c.loop-note-test.true c.note-item.is)) (c.in_ok-is_first.ensures.written ∙ ap (λ o. out ++ utf8 (listed first (arrival_of o))) c.arrival.ensures) (c.in_ok-is_first.ensures.first ∙ ap (λ o. first && is_none (arrival_of o)) c.arrival.ensures)

pub returns : goal.returns
returns c =
    let index = c.loop-note.note-index in
    let all = c.args.notes.now in
    let past : length all ≤ index = omega (arith, c.loop-note-test.false) in
    all_written c.loop-note.is_first (arrivals_of (drop index all)) c.args.out.now.items c.loop-note.out.items (utf8 (elements_text (arrivals_of all))) c.loop-note.invariant (ap arrivals_of (drop_all index all past))
