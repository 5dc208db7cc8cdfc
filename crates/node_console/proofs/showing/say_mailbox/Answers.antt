-- The rows, or no memory for them.
use Rattle.node_console.proofs.Answering.{IfOk-then, refused_said, rows_said}
use Rattle.node_console.proofs.showing.say_mailbox.Goals as goal

pub returns-in-Ok : goal.returns-in-Ok
returns-in-Ok c =
    IfOk-then c.say_rows.result _ _ c.say_rows.ensures (λ fate told. rows_said _ fate _ _ _ c.in-Ok.rows.items c.as_slice.ensures.value c.in-Ok.ensures told)

pub returns-in-Err : goal.returns-in-Err
returns-in-Err c =
    IfOk-then c.refuse.result _ _ c.refuse.ensures (λ fate told. refused_said _ fate _ _ told)
