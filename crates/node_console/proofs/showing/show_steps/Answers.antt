-- The rows, or no memory for them.
use Rattle.std.proofs.Common.{◌∙◌, refl}
use Rattle.console_answers.specs.Journal.{step_rows}
use Rattle.node_console.proofs.Answering.{IfOk-then, refused_said, rows_said}
use Rattle.node_console.proofs.showing.show_steps.Goals as goal

pub returns-in-Ok : goal.returns-in-Ok
returns-in-Ok c =
    let rows = c.as_slice.ensures.value ∙ c.in-Ok.ensures
    ∙ (λ i. step_rows (c.saturating_sub-after.ensures i) (c.as_slice-marks.ensures.value i) (c.as_slice-steps.ensures.value i)) in
    IfOk-then c.say_rows.result _ _ c.say_rows.ensures (λ fate told. rows_said _ fate _ _ c.as_slice.result.now c.as_slice.result.now refl rows told)

pub returns-in-Err : goal.returns-in-Err
returns-in-Err c =
    IfOk-then c.refuse.result _ _ c.refuse.ensures (λ fate told. refused_said _ fate _ _ told)
