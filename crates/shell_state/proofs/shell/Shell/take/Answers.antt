-- The job is kept, or it is told why there is none.
use Rattle.std.proofs.Common.{◌≡◌, ◌+◌, ◌++◌, ◌∷◌, [], List, IfOk, ap, length, refl, subst, sym, ◌∙◌}
use Rattle.erl_semantics.specs.declared.jobs.Job.{Job}
use Rattle.process_effects.specs.declared.told.Reply.{Reply}
use Rattle.undo_journal.specs.declared.reversible.Told.{Told}
use Rattle.node_types.specs.declared.event.Answer.{Answer}
use Rattle.node_types.specs.declared.event.Event.TheVariants as event
use Rattle.node_types.specs.Note.{Note}
use Rattle.shell_answers.specs.Answers.{job_of, line_of}
use Rattle.shell_answers.specs.Refusals.{naming_nothing}
use Rattle.shell_state.specs.Performing.{Performs, done_by}
use Rattle.shell_state.specs.Done.{IsDone}
use Rattle.shell_steps.specs.State.{ShellState, joined, stepped}
use Rattle.shell_state.proofs.Done.{IfOk-then}
use Rattle.shell_state.proofs.Performing.{halted, taken-done}
use Rattle.shell_state.proofs.shell.Shell.take.Goals as goal

pub returns-then-is_err : goal.returns-then-is_err
returns-then-is_err c =
    let pid = c.args.pid in
    let h = c.self.inside in
    let here = c.args.out.now.items in
    let out = c.tell_halt.new.out.items in
    let s : ShellState = record { files = h.files; timeline = h.journal; jobs = c.reserve.new.self.items; calls = h.calls; sent = joined h.sent.items } in
    let old : ShellState = record { files = h.files; timeline = h.journal; jobs = h.jobs.items; calls = h.calls; sent = joined h.sent.items } in
    let same : s ≡ old = (λ i. record { files = h.files; timeline = h.journal; jobs = c.reserve.ensures.items i; calls = h.calls; sent = joined h.sent.items }) in
    subst (λ (t : ShellState). IfOk c.tell_halt.result (λ fate. IsDone (Performs t t (event.Take pid) naming_nothing (done_by t (event.Take pid)) fate) s here out)) (same ∙ c.self.view_is) (IfOk-then c.tell_halt.result _ _ c.tell_halt.ensures (λ fate told. halted s (event.Take pid) naming_nothing (done_by s (event.Take pid)) c.halt_of_take.result fate here out (c.halt_of_take.ensures s refl) told))

pub returns-in-Ok : goal.returns-in-Ok
returns-in-Ok c =
    let pid = c.args.pid in
    let h = c.self.inside in
    let here = c.args.out.now.items in
    let out = c.tell_taken.new.out.items in
    let s : ShellState = record { files = h.files; timeline = h.journal; jobs = h.jobs.items; calls = h.calls; sent = joined h.sent.items } in
    let it = c.in-Ok.ensures.told s refl in
    let new : ShellState = record { files = h.files; timeline = c.step_take.new.journal; jobs = c.tell_taken.new.jobs.items; calls = h.calls; sent = joined c.send_told-answer.new.sent.items } in
    let sent = c.send_told-answer.ensures.sent ∙ ap (λ (t : Told Answer Note). joined c.step_take.new.sent.items ++ t.note.replies) it.is ∙ ap (λ (rs : List Reply). rs ++ it.accepted.note.replies) c.step_take.ensures.sent in
    subst (λ (t : ShellState). IfOk c.tell_taken.result (λ fate. IsDone (Performs t t (event.Take pid) naming_nothing (done_by t (event.Take pid)) fate) new here out)) c.self.view_is (IfOk-then c.tell_taken.result _ _ c.tell_taken.ensures (λ fate told. taken-done s pid it.accepted fate new here out it.room it.rule (λ job is.
    let said = told job (c.send_told-answer.ensures.answer ∙ ap (λ (t : Told Answer Note). t.answer) it.is ∙ is) in
    let jobs = said.1 ∙ ap (λ (js : List Job). js ++ job ∷ []) c.reserve.ensures.items in (
      said.0,
      (λ i. record { files = h.files; timeline = it.after i; jobs = jobs i; calls = h.calls; sent = sent i }),
      said.2 ∙ ap (λ (js : List Job). here ++ line_of (job_of (length js + 1) pid)) c.reserve.ensures.items,
    ))))

pub returns-in-Err : goal.returns-in-Err
returns-in-Err c =
    let pid = c.args.pid in
    let h = c.self.inside in
    let here = c.args.out.now.items in
    let out = c.tell_halt-in-Err.new.out.items in
    let s : ShellState = record { files = h.files; timeline = h.journal; jobs = h.jobs.items; calls = h.calls; sent = joined h.sent.items } in
    let new : ShellState = record { files = h.files; timeline = c.step_take.new.journal; jobs = c.reserve.new.self.items; calls = h.calls; sent = joined c.step_take.new.sent.items } in
    let same : new ≡ s = (λ i. record { files = h.files; timeline = c.in-Err.ensures.err i; jobs = c.reserve.ensures.items i; calls = h.calls; sent = c.step_take.ensures.sent i }) in
    subst (λ (t : ShellState). IfOk c.tell_halt-in-Err.result (λ fate. IsDone (Performs t t (event.Take pid) naming_nothing (done_by t (event.Take pid)) fate) new here out)) c.self.view_is (IfOk-then c.tell_halt-in-Err.result _ _ c.tell_halt-in-Err.ensures (λ fate told. subst (λ (u : ShellState). IsDone (Performs s s (event.Take pid) naming_nothing (done_by s (event.Take pid)) fate) u here out) (sym same) (halted s (event.Take pid) naming_nothing (done_by s (event.Take pid)) c.in-Err.halt fate here out (c.in-Err.ensures.halted s refl) told)))
