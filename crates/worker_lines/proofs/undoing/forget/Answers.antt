-- What it came to was told.
use Rattle.node_history.specs.declared.command.Command.TheVariants as command
use Rattle.node_history.specs.declared.command.Said.TheVariants as said
use Rattle.shell_answers.specs.Refusals.{naming_nothing}
use Rattle.worker_lines.specs.Asking.{floor_told}
use Rattle.worker_lines.proofs.Heard.{IfOk-then, heard-told, unheard-told}
use Rattle.worker_lines.proofs.undoing.forget.Goals as goal

pub returns-in-Ok : goal.returns-in-Ok
returns-in-Ok g c =
    IfOk-then c.say_floor.result _ _ c.say_floor.ensures (λ fate told. heard-told (command.Forget c.args.mark) naming_nothing (floor_told c.args.mark) c.args.seat.now c.forget.new.seat c.args.out.now.items c.say_floor.new.out.items (said.Floored) fate c.in-Ok.ensures told)

pub returns-in-Err : goal.returns-in-Err
returns-in-Err g c =
    IfOk-then c.tell_error.result _ _ c.tell_error.ensures (λ fate told. unheard-told (command.Forget c.args.mark) naming_nothing (floor_told c.args.mark) c.args.seat.now c.forget.new.seat c.args.out.now.items c.tell_error.new.out.items c.in-Err.error fate c.in-Err.ensures told)
