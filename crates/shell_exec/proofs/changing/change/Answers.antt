-- The change is told, or why there is none.
use Rattle.std.proofs.Common.{[], IfOk, ap, refl, subst, sym, ◌∙◌}
use Rattle.std.specs.Str.{chars}
use Rattle.shell_upgrades.specs.Node.{NodeState}
use Rattle.node_types.specs.Note.{Note}
use Rattle.node_types.specs.declared.event.Answer.{Answer}
use Rattle.node_types.specs.declared.event.Event.{Event}
use Rattle.shell_answers.specs.Answers.{line_of}
use Rattle.shell_exec.proofs.Answering.{change_done}
use Rattle.shell_answers.specs.Refusals.{naming_nothing}
use Rattle.shell_upgrades.proofs.Done.{IfOk-then}
use Rattle.shell_upgrades.proofs.Performing.{halted, performed}
use Rattle.shell_upgrades.specs.Performing.{Performs, truth_in}
use Rattle.shell_exec.specs.Execution.{change_event}
use Rattle.shell_upgrades.specs.Done.{IsDone}
use Rattle.shell_upgrades.specs.State.{Effect, ShellState, carried, stepped}
use Rattle.undo_journal.specs.Reversible.{Accepted}
use Rattle.shell_exec.proofs.changing.change.Goals as goal

pub returns-in_default : goal.returns-in_default
returns-in_default c =
    let s = c.args.held.now in
    let name = chars c.args.name.text.now in
    let e = change_event c.args.kind name in
    subst (λ (done : Accepted NodeState Answer Note → Effect). IfOk c.tell_halt.result (λ fate. IsDone (Performs s s e naming_nothing done fate) s c.args.out.now.items c.tell_halt.new.out.items)) (change_done s c.args.kind name) (IfOk-then c.tell_halt.result _ _ c.tell_halt.ensures (λ fate told. halted s e naming_nothing (λ a. carried (stepped a s) e (truth_in a.answer)) c.halt_of_change.result fate c.args.out.now.items c.tell_halt.new.out.items c.halt_of_change.ensures told))

pub returns-in-Ok-perform : goal.returns-in-Ok-perform
returns-in-Ok-perform c =
    let s = c.args.held.now in
    let e = c.change_event.result in
    let is = c.change_event.ensures ∙ ap (change_event c.args.kind) c.in-Ok.ensures in
    let name = chars c.args.name.text.now in
    subst (λ (done : Accepted NodeState Answer Note → Effect). IfOk c.tell_truth.result (λ fate. IsDone (Performs s s (change_event c.args.kind name) naming_nothing done fate) c.perform.new.self c.args.out.now.items c.tell_truth.new.out.items)) (change_done s c.args.kind name) (subst (λ (x : Event). IfOk c.tell_truth.result (λ fate. IsDone (Performs s s x naming_nothing (λ a. carried (stepped a s) x (truth_in a.answer)) fate) c.perform.new.self c.args.out.now.items c.tell_truth.new.out.items)) is (IfOk-then c.tell_truth.result _ _ c.tell_truth.ensures (λ fate told. performed s c.perform.new.self e naming_nothing (λ a. carried (stepped a s) e (truth_in a.answer)) c.in-Ok-perform.answer fate c.perform.new.self c.args.out.now.items c.tell_truth.new.out.items (λ after a. after) (λ after a. line_of (truth_in a)) c.in-Ok-perform.ensures.stepped (λ a rule. refl) (told.0, refl, told.1))))

pub returns-in-Err : goal.returns-in-Err
returns-in-Err c =
    let s = c.args.held.now in
    let e = c.change_event.result in
    let is = c.change_event.ensures ∙ ap (change_event c.args.kind) c.in-Ok.ensures in
    let name = chars c.args.name.text.now in
    subst (λ (done : Accepted NodeState Answer Note → Effect). IfOk c.tell_halt-in-Err.result (λ fate. IsDone (Performs s s (change_event c.args.kind name) naming_nothing done fate) c.perform.new.self c.args.out.now.items c.tell_halt-in-Err.new.out.items)) (change_done s c.args.kind name) (subst (λ (x : Event). IfOk c.tell_halt-in-Err.result (λ fate. IsDone (Performs s s x naming_nothing (λ a. carried (stepped a s) x (truth_in a.answer)) fate) c.perform.new.self c.args.out.now.items c.tell_halt-in-Err.new.out.items)) is (IfOk-then c.tell_halt-in-Err.result _ _ c.tell_halt-in-Err.ensures (λ fate told. subst (λ (u : ShellState). IsDone (Performs s s e naming_nothing (λ a. carried (stepped a s) e (truth_in a.answer)) fate) u c.args.out.now.items c.tell_halt-in-Err.new.out.items) (sym c.in-Err.ensures.err) (halted s e naming_nothing (λ a. carried (stepped a s) e (truth_in a.answer)) c.in-Err.halt fate c.args.out.now.items c.tell_halt-in-Err.new.out.items c.in-Err.ensures.halted told))))
