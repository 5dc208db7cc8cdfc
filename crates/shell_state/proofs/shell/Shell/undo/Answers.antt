-- What was cut is told.
use Rattle.std.proofs.Common.{IfOk, subst}
use Rattle.shell_state.specs.Serving.{Undoes}
use Rattle.shell_state.specs.Done.{IsDone}
use Rattle.shell_steps.specs.State.{ShellState, joined, with_timeline}
use Rattle.shell_state.proofs.Done.{IfOk-then, undo-done}
use Rattle.shell_state.proofs.shell.Shell.undo.Goals as goal

pub returns : goal.returns
returns c =
    let h = c.self.inside in
    let s : ShellState = record { files = h.files; timeline = h.journal; jobs = h.jobs.items; calls = h.calls; sent = joined h.sent.items } in
    subst (λ (t : ShellState). IfOk c.tell_undo-said.result (λ fate. IsDone (Undoes t c.args.mark fate) (with_timeline c.undo_steps-done.new.journal s) c.args.out.now.items c.tell_undo-said.new.out.items)) c.self.view_is (IfOk-then c.tell_undo-said.result _ _ c.tell_undo-said.ensures (λ fate told. undo-done s c.args.mark c.undo_steps-done.new.journal c.undo_steps-done.result fate c.args.out.now.items c.tell_undo-said.new.out.items c.undo_steps-done.ensures.undone c.undo_steps-done.ensures.reported c.undo_steps-done.ensures.err told))
