-- One more in each turn.
use Rattle.std.proofs.Common.{◌≡◌, ◌≤◌, ◌++◌, ◌+◌, ◌&&◌, Bool, true, false, ap, drop, length, refl, sym, ◌∙◌, arith}
use Rattle.std.proofs.lemmas.List.{drop_all}
use Rattle.erl_semantics.proofs.Tests.{from_here}
use Rattle.erl_term.specs.Text.{utf8}
use Rattle.shell_answers.specs.Answers.{is_none, listed, replied, replies_in}
use Rattle.shell_answers.proofs.Pieces.{all_written, element}
use Rattle.shell_answers.proofs.replies.put_replies.Goals as goal

and_false : (b : Bool) → (b && false) ≡ false
and_false true = refl
and_false false = refl

and_true : (b : Bool) → (b && true) ≡ b
and_true true = refl
and_true false = refl

pub loop-reply-preserved : goal.loop-reply-preserved
loop-reply-preserved c =
    let index = c.loop-reply.reply-index in
    let all = c.args.replies.now in
    let out = c.loop-reply.out.items in
    let first = c.loop-reply.is_first in
    let here = from_here all index c.reply-item.result c.loop-reply-test.true c.reply-item.is in
    record {
      written = element first (replied c.reply-item.result) (replies_in (drop (index + 1) all)) c.args.out.now.items out c.put_separator.new.out.items c.put_reply.new.out.items (utf8 (listed c.args.is_first (replies_in all))) (c.loop-reply.invariant.written ∙ ap (λ rs. out ++ utf8 (listed first (replies_in rs))) here) c.in_ok-put_separator.ensures c.in_ok-put_reply.ensures;
      first = c.loop-reply.invariant.first ∙ ap (λ rs. first && is_none (replies_in rs)) here ∙ and_false first;
    }

pub returns-clause-written : goal.returns-clause-written
returns-clause-written c =
    let index = c.loop-reply.reply-index in
    let all = c.args.replies.now in
    let past : length all ≤ index = omega (arith, c.loop-reply-test.false) in
    all_written c.loop-reply.is_first (replies_in (drop index all)) c.args.out.now.items c.loop-reply.out.items (utf8 (listed c.args.is_first (replies_in all))) c.loop-reply.invariant.written (ap replies_in (drop_all index all past))

pub returns-clause-first : goal.returns-clause-first
returns-clause-first c =
    let index = c.loop-reply.reply-index in
    let all = c.args.replies.now in
    let past : length all ≤ index = omega (arith, c.loop-reply-test.false) in
    sym (c.loop-reply.invariant.first ∙ ap (λ rs. c.loop-reply.is_first && is_none (replies_in rs)) (drop_all index all past) ∙ and_true c.loop-reply.is_first)
