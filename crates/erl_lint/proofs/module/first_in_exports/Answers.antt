-- One entry more.
use Rattle.erl_lint.proofs.Walking.{exports_found}
use Rattle.erl_lint.proofs.module.first_in_exports.Goals as goal

pub loop-entry-preserved : goal.loop-entry-preserved
loop-entry-preserved c =
    exports_found c.args.functions.now.keys c.args.entries.now c.loop-entry.entry-index c.entry-item.result c.args.first c.loop-entry.found
    c.first_in_export-found.result c.loop-entry-test.true c.entry-item.is c.loop-entry.invariant c.first_in_export-found.ensures
