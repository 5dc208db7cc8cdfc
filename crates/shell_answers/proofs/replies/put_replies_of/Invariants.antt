-- What is left to be written is the text of those that are left.
use Rattle.std.proofs.Common.{◌≡◌, ◌++◌, drop}
use Rattle.erl_term.specs.Text.{elements_text, utf8}
use Rattle.shell_answers.specs.Answers.{replies_of, listed}
use Rattle.shell_answers.proofs.replies.put_replies_of.Given as goal

abbrev pub invariant-loop-note : goal.invariant-loop-note
invariant-loop-note l =
    l.initial.out.items ++ utf8 (elements_text (replies_of l.notes)) ≡ l.out.items ++ utf8 (listed l.is_first (replies_of (drop l.note-index l.notes)))
