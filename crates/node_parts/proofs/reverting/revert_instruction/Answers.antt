-- The node before is what the instruction changed, the script one instruction before, and all else that there is.
use Rattle.std.proofs.Common.{◌∙◌, ap, sym}
use Rattle.std.specs.Prelude.{option_map}
use Rattle.node_parts.proofs.Backs.{instruction_back, instruction_stays}
use Rattle.node_parts.specs.Changes.{state_of}
use Rattle.node_parts.specs.declared.record.WayBack.TheVariants.{OfInstruction}
use Rattle.script_runner.specs.Parts.{parts_of}
use Rattle.script_state.specs.Runner.{runner_of}
use Rattle.node_parts.proofs.reverting.revert_instruction.Goals as goal

pub returns-in-Ok : goal.returns-in-Ok
returns-in-Ok c before undoes =
    let n = c.unstep-reverted.new in
    let after = parts_of n.modules n.processes n.apps n.progress in
    instruction_back _ c.args.undo before (state_of c.args.parts.now) (runner_of c.in-Some.runner) after n.progress.next
    c.open-undo.ensures (ap (option_map runner_of) (sym c.take.ensures.value ∙ c.in-Some.is)) undoes c.in-Ok.ensures.ok c.in-Ok.ensures.next

pub returns-in-Err : goal.returns-in-Err
returns-in-Err c =
    let n = c.unstep-reverted.new in
    let after = parts_of n.modules n.processes n.apps n.progress in
    let same = c.fill.ensures ∙ c.in-Err.ensures.back ∙ c.open-undo.ensures in (
      ap OfInstruction same,
      instruction_stays (state_of c.args.parts.now) (runner_of c.in-Some.runner) after n.progress.next
          (ap (option_map runner_of) (sym c.take.ensures.value ∙ c.in-Some.is)) c.in-Err.ensures.err c.in-Err.ensures.stays,
    )
