-- By the sources so far.
use Rattle.std.proofs.Common.{string_bytes}
use Rattle.release_files.proofs.Sourced.{source_turn, sources_begin, sources_end, sources_wrong}
use Rattle.release_files.proofs.Whole.{passed}
use Rattle.release_files.proofs.sources.sources_of.Goals as goal

pub loop-name-init : goal.loop-name-init
loop-name-init c =
    sources_begin c.args.files.now c.args.app.now c.args.seen.now c.new-modules.result.items c.requires c.new-modules.ensures.items

pub returns-in_err-read : goal.returns-in_err-read
returns-in_err-read c =
    passed _ _ c.from_residual.result c.in_err-read.field-0.0 c.from_residual.ensures (sources_wrong c.args.files.now c.args.app.now c.args.seen.now c.args.names.now c.loop-name.seen c.source_of.new.seen c.loop-name.modules.items c.loop-name.name-index c.name-item.result (string_bytes c.in_err-read.field-0.0.path) c.in_err-read.field-0.0.fault c.loop-name-test.true c.name-item.is c.loop-name.invariant c.in_err-read.ensures)

pub loop-name-preserved : goal.loop-name-preserved
loop-name-preserved c =
    source_turn c.args.files.now c.args.app.now c.args.seen.now c.args.names.now c.loop-name.seen c.source_of.new.seen c.loop-name.modules.items c.push.new.self.items c.loop-name.name-index c.name-item.result c.in_ok-read.read c.loop-name-test.true c.name-item.is c.loop-name.invariant c.in_ok-read.ensures.0 c.in_ok-read.ensures.1 c.in_ok-read.ensures.2 c.in-Ok.ensures.items

pub returns : goal.returns
returns c =
    sources_end c.args.files.now c.args.app.now c.args.seen.now c.args.names.now c.loop-name.seen c.loop-name.modules.items c.loop-name.name-index c.loop-name-test.false c.loop-name.invariant
