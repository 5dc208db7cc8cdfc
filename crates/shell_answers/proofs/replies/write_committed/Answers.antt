-- The pieces are the line's.
use Rattle.std.proofs.Common.{◌++◌, codes, true}
use Rattle.erl_term.specs.Text.{utf8}
use Rattle.shell_answers.specs.Answers.{listed, replies_in}
use Rattle.shell_answers.proofs.Pieces.{before, on_ok, same}
use Rattle.shell_answers.proofs.Texts.{committed-line}
use Rattle.shell_answers.proofs.replies.write_committed.Goals as goal

pub returns : goal.returns
returns c =
    let old = c.args.out.now.items in
    let new = c.put-2.new.out.items in
    on_ok c.put-2.result _ _ c.put-2.ensures (λ last. same old new ((codes "{committed,[") ++ ((utf8 (listed true (replies_in c.args.replies.now))) ++ (codes "]}\n"))) _ (before (old) (c.put.new.out.items) new (codes "{committed,[") ((utf8 (listed true (replies_in c.args.replies.now))) ++ (codes "]}\n")) c.in_ok-put.ensures (before (c.put.new.out.items) (c.put_replies.new.out.items) new (utf8 (listed true (replies_in c.args.replies.now))) (codes "]}\n") c.in_ok-put_replies.ensures.written last)) (committed-line c.args.replies.now))
