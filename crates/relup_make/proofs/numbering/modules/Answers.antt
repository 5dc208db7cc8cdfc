-- One module more, if the instruction is on one.
use Rattle.relup_make.proofs.Turns.{chosen_more}
use Rattle.relup_make.specs.Dependencies.{module_of}
use Rattle.relup_make.proofs.numbering.modules.Goals as goal

pub loop-instruction-preserved : goal.loop-instruction-preserved
loop-instruction-preserved c =
    chosen_more module_of c.args.instructions.now c.loop-instruction.instruction-index c.instruction-item.result c.loop-instruction.modules.items _ c.loop-instruction-test.true c.instruction-item.is c.in_ok-append_module.ensures c.loop-instruction.invariant
