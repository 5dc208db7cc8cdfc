-- One number more, if the name has one.
use Rattle.relup_make.specs.Indexes.{index_of}
use Rattle.relup_make.proofs.Turns.{chosen_more}
use Rattle.relup_make.proofs.numbering.vertex.Goals as goal

pub loop-name-preserved : goal.loop-name-preserved
loop-name-preserved c =
    chosen_more (λ name. index_of 0 name c.args.modules.now) c.dependencies_of-names.result.now c.loop-name.name-index c.name-item.result c.loop-name.dependencies.items _ c.loop-name-test.true c.name-item.is c.in_ok-append_index.ensures c.loop-name.invariant
