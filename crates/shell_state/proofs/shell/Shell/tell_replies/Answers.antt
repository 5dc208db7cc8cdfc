-- The replies of all rows are told as one row.
use Rattle.std.proofs.Common.{◌≡◌, ◌++◌, OnOk, ap, subst, ◌∙◌}
use Rattle.erl_term.specs.Tree.{Trees, list}
use Rattle.shell_answers.specs.Answers.{line_of, replies_in, rows_of}
use Rattle.shell_steps.specs.State.{ShellState}
use Rattle.shell_state.proofs.Done.{rows-joined}
use Rattle.shell_state.proofs.shell.Shell.tell_replies.Goals as goal

pub returns : goal.returns
returns c =
    let h = c.self.inside in
    let told = ap rows_of c.as_slice.ensures.value ∙ rows-joined h.sent.items in
    subst (λ (s : ShellState). OnOk c.write_replies.result (c.write_replies.new.out.items ≡ c.args.out.now.items ++ line_of (list (replies_in s.sent)))) c.self.view_is (subst (λ (ts : Trees). OnOk c.write_replies.result (c.write_replies.new.out.items ≡ c.args.out.now.items ++ line_of (list ts))) told c.write_replies.ensures)
