-- What was swept is told, or why nothing was.
use Rattle.std.proofs.Common.{refl, subst, sym}
use Rattle.node_types.specs.declared.event.Event.TheVariants as event
use Rattle.shell_answers.specs.Answers.{line_of}
use Rattle.shell_answers.specs.Refusals.{naming_nothing}
use Rattle.shell_state.proofs.Done.{IfOk-then}
use Rattle.shell_state.proofs.Performing.{halted, performed}
use Rattle.shell_state.specs.Done.{IsDone}
use Rattle.shell_state.specs.Performing.{Performs, done_by, swept_in}
use Rattle.shell_state.specs.State.{ShellState}
use Rattle.shell_upgrades.proofs.sweeping.sweep.Goals as goal

pub returns-in-Ok : goal.returns-in-Ok
returns-in-Ok c =
    let s = c.args.held.now in
    let e = event.Sweep in
    let new = c.perform.new.self in
    IfOk-then c.tell_swept.result _ _ c.tell_swept.ensures (λ fate told. performed s new e naming_nothing (done_by s e) c.in-Ok.answer fate new c.args.out.now.items c.tell_swept.new.out.items (λ after a. after) (λ after a. line_of (swept_in a)) c.in-Ok.ensures.stepped (λ a rule. refl) (told.0, refl, told.1))

pub returns-in-Err : goal.returns-in-Err
returns-in-Err c =
    let s = c.args.held.now in
    let e = event.Sweep in
    let text = c.args.out.now.items in
    let out = c.tell_halt.new.out.items in
    IfOk-then c.tell_halt.result _ _ c.tell_halt.ensures (λ fate told. subst (λ (u : ShellState). IsDone (Performs s s e naming_nothing (done_by s e) fate) u text out) (sym c.in-Err.ensures.err) (halted s e naming_nothing (done_by s e) c.in-Err.halt fate text out c.in-Err.ensures.halted told))
