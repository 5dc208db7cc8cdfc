-- The journal performs the event and tells of it once, or it is told why it doesn't.
use Rattle.std.proofs.Common.{◌≡◌, Ok, ap, subst, sym, ◌∙◌}
use Rattle.undo_journal.specs.Timeline.{appended, here}
use Rattle.node_core.specs.Step.{Step}
use Rattle.shell_steps.specs.Halts.{Halts, halt_by}
use Rattle.shell_steps.specs.State.{NodeTimeline, ShellState, with_timeline}
use Rattle.shell_steps.specs.declared.stepping.Halt.{Halt}
use Rattle.shell_steps.proofs.Failing.{failed}
use Rattle.shell_steps.proofs.stepping.step.Goals as goal

pub returns-in-Ok-clause-told : goal.returns-in-Ok-clause-told
returns-in-Ok-clause-told c = λ s at.
    let e = c.args.event.now in
    let it = c.in-Ok.ensures.performed in
    let one = c.only_told.ensures in
    record {
      room = λ full. (let end = c.perform.ensures.serial_end (ap (λ (t : NodeTimeline). t.last) (sym at) ∙ full) in let never : ⊥ = cc (end, c.in-Ok.is) in never);
      accepted = it.0;
      rule = subst (λ (t : NodeTimeline). Step (here t).node e (Ok it.0)) (sym at) it.1;
      is = cc (it.3, one);
      after = it.2 ∙ ap (λ (t : NodeTimeline). appended t it.0.node it.0.note) (sym at);
    }

pub returns-in-Err-clause-halted : goal.returns-in-Err-clause-halted
returns-in-Err-clause-halted c = λ s at.
    let e = c.args.event.now in
    let there : ShellState = with_timeline c.args.journal.now s in
    let same : there ≡ s = (λ i. record { files = s.files; timeline = (sym at) i; jobs = s.jobs; calls = s.calls; sent = s.sent }) in
    subst (λ (halt : Halt). Halts halt s e) (sym c.halt_by.ensures) (subst (λ (u : ShellState). Halts (halt_by c.in-Err.error) u e) same (failed there e c.perform.result c.in-Err.error c.in-Err.is c.perform.ensures.serial_end c.in-Err.ensures.refused))
