-- The result is returned.
use Rattle.upgrade_rehearsal.proofs.Whole.{boots_beside}
use Rattle.upgrade_rehearsal.specs.Parts.{IsFresh}
use Rattle.std.proofs.Common.{subst}
use Rattle.upgrade_rehearsal.specs.declared.rehearsing.Fresh.{Fresh}
use Rattle.upgrade_rehearsal.proofs.rehearsing.compare.Goals as goal

pub returns-in-Failed : goal.returns-in-Failed
returns-in-Failed c = λ to fails. subst (λ (f : Fresh). IsFresh to f) c.in-Failed.is fails

pub returns-in-Booted : goal.returns-in-Booted
returns-in-Booted c = boots_beside c.compare_with.result c.args.is_up c.args.node.now _ c.args.fresh c.in-Booted.is
    c.compare_with.ensures
