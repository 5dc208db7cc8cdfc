-- The journal has one station more, and the replies of what it tells are sent.
use Rattle.std.proofs.Common.{◌++◌, List, ap, refl, subst, ◌∙◌}
use Rattle.process_effects.specs.declared.told.Reply.{Reply}
use Rattle.undo_journal.specs.declared.reversible.Told.{Told}
use Rattle.node_types.specs.Note.{Note}
use Rattle.node_types.specs.declared.event.Answer.{Answer}
use Rattle.shell_steps.specs.Halts.{Halts}
use Rattle.shell_steps.specs.State.{ShellState, joined}
use Rattle.shell_steps.specs.Stepping.{IsStepped}
use Rattle.shell_state.proofs.shell.Shell.perform.Goals as goal

pub returns-in-Ok-clause-stepped : goal.returns-in-Ok-clause-stepped
returns-in-Ok-clause-stepped c =
    let h = c.self.inside in
    let s : ShellState = record { files = h.files; timeline = h.journal; jobs = h.jobs.items; calls = h.calls; sent = joined h.sent.items } in
    let it = c.in-Ok.ensures.told s refl in
    let sent = c.send_told.ensures.sent ∙ ap (λ (t : Told Answer Note). joined c.step.new.sent.items ++ t.note.replies) it.is ∙ ap (λ (rs : List Reply). rs ++ it.accepted.note.replies) c.step.ensures.sent in
    subst (λ (t : ShellState). IsStepped c.send_told.result t c.args.event (record { files = h.files; timeline = c.step.new.journal; jobs = h.jobs.items; calls = h.calls; sent = joined c.send_told.new.sent.items })) c.self.view_is (record {
      room = it.room;
      accepted = it.accepted;
      rule = it.rule;
      answer = c.send_told.ensures.answer ∙ ap (λ (t : Told Answer Note). t.answer) it.is;
      after = (λ i. record { files = h.files; timeline = it.after i; jobs = h.jobs.items; calls = h.calls; sent = sent i });
    })

pub returns-clause-halted : goal.returns-clause-halted
returns-clause-halted c =
    let h = c.self.inside in
    let s : ShellState = record { files = h.files; timeline = h.journal; jobs = h.jobs.items; calls = h.calls; sent = joined h.sent.items } in
    subst (λ (t : ShellState). Halts c.in-Err.halt t c.args.event) c.self.view_is (c.in-Err.ensures.halted s refl)
