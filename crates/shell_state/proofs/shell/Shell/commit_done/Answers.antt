-- The replies are told and sent, or it is told why there are none.
use Rattle.std.proofs.Common.{[], ◌≡◌, ◌++◌, List, IfOk, None, ap, refl, subst, sym, ◌∙◌}
use Rattle.process_effects.specs.declared.told.Reply.{Reply}
use Rattle.undo_journal.specs.declared.reversible.Told.{Told}
use Rattle.node_types.specs.declared.event.Answer.{Answer}
use Rattle.node_types.specs.declared.event.Event.TheVariants as event
use Rattle.node_types.specs.Note.{Note}
use Rattle.shell_answers.specs.Answers.{committed, line_of}
use Rattle.shell_answers.specs.Refusals.{naming_nothing}
use Rattle.shell_state.specs.Serving.{Commits, ran}
use Rattle.shell_state.specs.Performing.{accepted}
use Rattle.shell_state.specs.Done.{IsDone}
use Rattle.shell_steps.specs.State.{ShellState, carried, joined, stepped}
use Rattle.shell_state.proofs.Done.{IfOk-then}
use Rattle.shell_state.proofs.Performing.{done-as, halted}
use Rattle.shell_state.proofs.shell.Shell.commit_done.Goals as goal

pub returns-in-Ok : goal.returns-in-Ok
returns-in-Ok c =
    let h = c.self.inside in
    let done = c.args.done in
    let here = c.args.out.now.items in
    let out = c.tell_committed.new.out.items in
    let s : ShellState = record { files = h.files; timeline = h.journal; jobs = h.jobs.items; calls = h.calls; sent = joined h.sent.items } in
    let it = c.in-Ok.ensures.told s refl in
    let a = it.accepted in
    let new : ShellState = record { files = h.files; timeline = c.step.new.journal; jobs = h.jobs.items; calls = h.calls; sent = joined c.tell_committed.new.sent.items } in
    subst (λ (t : ShellState). IfOk c.tell_committed.result (λ fate. IsDone (Commits t done.job fate) new here out)) c.self.view_is (IfOk-then c.tell_committed.result _ _ c.tell_committed.ensures (λ fate said.
    let sent = said.1 ∙ ap (λ (t : Told Answer Note). joined c.step.new.sent.items ++ t.note.replies) it.is ∙ ap (λ (rs : List Reply). rs ++ a.note.replies) c.step.ensures.sent in
    let text = said.2 ∙ ap (λ (t : Told Answer Note). here ++ line_of (committed t.note.replies)) it.is in
    subst (λ f. IsDone (Commits s done.job f) new here out) (sym said.0) (carried (stepped a s) (event.Commit done) (committed a.note.replies), ran done None _ refl (accepted it.room a it.rule), (λ i. record { files = h.files; timeline = it.after i; jobs = h.jobs.items; calls = h.calls; sent = sent i }), text)))

pub returns : goal.returns
returns c =
    let h = c.self.inside in
    let done = c.args.done in
    let here = c.args.out.now.items in
    let out = c.tell_halt.new.out.items in
    let s : ShellState = record { files = h.files; timeline = h.journal; jobs = h.jobs.items; calls = h.calls; sent = joined h.sent.items } in
    let new : ShellState = record { files = h.files; timeline = c.step.new.journal; jobs = h.jobs.items; calls = h.calls; sent = joined c.step.new.sent.items } in
    let same : new ≡ s = (λ i. record { files = h.files; timeline = c.in-Err.ensures.err i; jobs = h.jobs.items; calls = h.calls; sent = c.step.ensures.sent i }) in
    subst (λ (t : ShellState). IfOk c.tell_halt.result (λ fate. IsDone (Commits t done.job fate) new here out)) c.self.view_is (IfOk-then c.tell_halt.result _ _ c.tell_halt.ensures (λ fate told. subst (λ (u : ShellState). IsDone (Commits s done.job fate) u here out) (sym same) (done-as s here out (λ d does. ran done fate d refl does) (halted s (event.Commit done) naming_nothing (λ a. carried (stepped a s) (event.Commit done) (committed a.note.replies)) c.in-Err.halt fate here out (c.in-Err.ensures.halted s refl) told))))
