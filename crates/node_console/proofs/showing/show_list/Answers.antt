-- The rows, or no memory for them.
use Rattle.node_console.proofs.Answering.{IfOk-then, refused_said, rows_said}
use Rattle.node_console.specs.Console.{AreListed}
use Rattle.node_console.proofs.showing.show_list.Goals as goal

pub returns-in-Ok : goal.returns-in-Ok
returns-in-Ok c =
    IfOk-then c.say_rows.result _ _ c.say_rows.ensures (λ fate told. rows_said (AreListed c.args.held.now c.args.listing) fate _ _ _ c.in-Ok.rows.items c.as_slice.ensures.value c.in-Ok.ensures told)

pub returns-in-Err : goal.returns-in-Err
returns-in-Err c =
    IfOk-then c.refuse.result _ _ c.refuse.ensures (λ fate told. refused_said (AreListed c.args.held.now c.args.listing) fate _ _ told)
