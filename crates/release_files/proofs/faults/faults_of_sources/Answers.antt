-- By the sources so far.
use Rattle.release_files.proofs.Looked.{sources_begin, sources_end, sources_turn}
use Rattle.release_files.proofs.faults.faults_of_sources.Goals as goal

pub loop-name-init : goal.loop-name-init
loop-name-init c =
    sources_begin c.args.files.now c.args.app.now c.args.seen.now c.args.found.now.items

pub loop-name-preserved : goal.loop-name-preserved
loop-name-preserved c =
    sources_turn c.sources_mean_one_module.ensures.one c.args.files.now c.args.app.now c.args.names.now c.args.seen.now c.loop-name.seen c.source_fault.new.seen c.args.found.now.items c.loop-name.found.items c.source_fault.new.found.items c.loop-name.name-index c.name-item.result c.loop-name-test.true c.name-item.is c.loop-name.invariant c.in_ok-source_fault.ensures

pub returns : goal.returns
returns c =
    sources_end c.args.files.now c.args.app.now c.args.names.now c.args.seen.now c.loop-name.seen c.args.found.now.items c.loop-name.found.items c.loop-name.name-index c.loop-name-test.false c.loop-name.invariant
