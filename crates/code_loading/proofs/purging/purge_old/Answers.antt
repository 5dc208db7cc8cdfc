-- Nothing is purged where there is no old code.
use Rattle.std.proofs.Common.{sym}
use Rattle.code_loading.proofs.Emptied.{nothing_purged}
use Rattle.code_loading.proofs.purging.purge_old.Goals as goal

pub returns-in-None-clause-purged : goal.returns-in-None-clause-purged
returns-in-None-clause-purged c = sym (nothing_purged c.args.name.now c.args.modules.now c.len-count.ensures.sound (sym c.in-None.ensures))
