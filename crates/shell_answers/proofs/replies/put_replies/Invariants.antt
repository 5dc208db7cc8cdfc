-- What is left to be written is the text of those that are left.
use Rattle.std.proofs.Common.{◌≡◌, ◌++◌, ◌&&◌, drop}
use Rattle.erl_term.specs.Text.{utf8}
use Rattle.shell_answers.specs.Answers.{is_none, listed, replies_in}
use Rattle.shell_answers.proofs.replies.put_replies.Given as goal

abbrev pub invariant-loop-reply : goal.invariant-loop-reply
invariant-loop-reply l = record {
  written : l.initial.out.items ++ utf8 (listed l.fn.is_first (replies_in l.replies)) ≡ l.out.items ++ utf8 (listed l.is_first (replies_in (drop l.reply-index l.replies)));
  first : (l.fn.is_first && is_none (replies_in l.replies)) ≡ (l.is_first && is_none (replies_in (drop l.reply-index l.replies)));
}
