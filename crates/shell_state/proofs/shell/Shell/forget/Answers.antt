-- What stands before the mark is forgotten, or it is told why not.
use Rattle.std.proofs.Common.{IfOk, subst}
use Rattle.shell_state.specs.Serving.{Forgets}
use Rattle.shell_state.specs.Done.{IsDone}
use Rattle.shell_steps.specs.State.{ShellState, joined, with_timeline}
use Rattle.shell_state.proofs.Done.{IfOk-then, forget-done}
use Rattle.shell_state.proofs.shell.Shell.forget.Goals as goal

pub returns : goal.returns
returns c =
    let h = c.self.inside in
    let s : ShellState = record { files = h.files; timeline = h.journal; jobs = h.jobs.items; calls = h.calls; sent = joined h.sent.items } in
    subst (λ (t : ShellState). IfOk c.tell_forget.result (λ fate. IsDone (Forgets t c.args.mark fate) (with_timeline c.forget-done.new.self s) c.args.out.now.items c.tell_forget.new.out.items)) c.self.view_is (IfOk-then c.tell_forget.result _ _ c.tell_forget.ensures (λ fate told. forget-done s c.args.mark c.forget-done.new.self c.forget-done.result fate c.args.out.now.items c.tell_forget.new.out.items c.forget-done.ensures.forgotten c.forget-done.ensures.refused c.forget-done.ensures.err told))
