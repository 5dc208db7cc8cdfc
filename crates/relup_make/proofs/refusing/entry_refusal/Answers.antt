-- An instruction against which nothing stands is passed.
use Rattle.std.proofs.Common.{sym, ◌∙◌}
use Rattle.relup_make.specs.Refusals.{instruction_refusals}
use Rattle.relup_make.specs.Ways.{way_of}
use Rattle.relup_make.proofs.Firsts.{item_fails, item_passes}
use Rattle.relup_make.proofs.refusing.entry_refusal.Goals as goal

pub returns-in-Some : goal.returns-in-Some
returns-in-Some c =
    item_fails (instruction_refusals (way_of c.args.way.now) c.args.app.now) c.args.instructions.now c.loop-instruction.instruction-index c.instruction-item.result c.in-Some.error _ c.loop-instruction-test.true c.instruction-item.is (sym c.in-Some.is ∙ c.in_ok-error.ensures) c.loop-instruction.invariant

pub loop-instruction-preserved : goal.loop-instruction-preserved
loop-instruction-preserved c =
    item_passes (instruction_refusals (way_of c.args.way.now) c.args.app.now) c.args.instructions.now c.loop-instruction.instruction-index c.instruction-item.result _ c.loop-instruction-test.true c.instruction-item.is (sym c.in_default.is ∙ c.in_ok-error.ensures) c.loop-instruction.invariant
