-- The change is told, or why there is none.
use Rattle.std.proofs.Common.{IfOk, ap, subst, ◌∙◌}
use Rattle.std.specs.Str.{chars}
use Rattle.node_history.specs.declared.command.Command.TheVariants as command
use Rattle.node_history.specs.declared.command.Said.TheVariants as said
use Rattle.worker_lines.specs.Asking.{event_told, IsAnswered}
use Rattle.shell_answers.specs.Refusals.{naming_nothing}
use Rattle.shell_exec.specs.Performing.{truth_in}
use Rattle.shell_exec.specs.Execution.{change_event}
use Rattle.node_types.specs.declared.event.Event.{Event}
use Rattle.worker_lines.specs.Execution.{Performs}
use Rattle.worker_lines.proofs.Heard.{IfOk-then, heard-told, memory-told, unheard-told}
use Rattle.worker_lines.proofs.changing.change.Goals as goal

pub returns-in_default : goal.returns-in_default
returns-in_default g c =
    let name = chars c.args.name.text.now in
    IfOk-then c.refuse.result _ _ c.refuse.ensures (λ fate told. memory-told (command.Perform (change_event c.args.kind name)) naming_nothing (event_told truth_in) c.args.seat.now c.args.out.now.items c.refuse.new.out.items fate told)

pub returns-in-Ok-perform : goal.returns-in-Ok-perform
returns-in-Ok-perform g c =
    let is = c.change_event.ensures ∙ ap (change_event c.args.kind) c.in-Ok.ensures in
    subst (λ (x : Event). IfOk c.tell_truth.result (λ fate. IsAnswered (Performs x naming_nothing truth_in fate) c.args.seat.now c.perform.new.seat c.args.out.now.items c.tell_truth.new.out.items)) is (IfOk-then c.tell_truth.result _ _ c.tell_truth.ensures (λ fate told. heard-told (command.Perform (c.change_event.result)) naming_nothing (event_told truth_in) c.args.seat.now c.perform.new.seat c.args.out.now.items c.tell_truth.new.out.items (said.Performed c.in-Ok-perform.answer) fate c.in-Ok-perform.ensures told))

pub returns-in-Err : goal.returns-in-Err
returns-in-Err g c =
    let is = c.change_event.ensures ∙ ap (change_event c.args.kind) c.in-Ok.ensures in
    subst (λ (x : Event). IfOk c.tell_error.result (λ fate. IsAnswered (Performs x naming_nothing truth_in fate) c.args.seat.now c.perform.new.seat c.args.out.now.items c.tell_error.new.out.items)) is (IfOk-then c.tell_error.result _ _ c.tell_error.ensures (λ fate told. unheard-told (command.Perform (c.change_event.result)) naming_nothing (event_told truth_in) c.args.seat.now c.perform.new.seat c.args.out.now.items c.tell_error.new.out.items c.in-Err.error fate c.in-Err.ensures told))
