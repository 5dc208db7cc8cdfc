-- What stops it is why it is refused.
use Rattle.code_changes.proofs.Upgraded.{refused_by}
use Rattle.code_changes.specs.Changing.{script}
use Rattle.code_changes.proofs.changing.upgrade.Goals as goal

pub returns-in-Err-clause-refused : goal.returns-in-Err-clause-refused
returns-in-Err-clause-refused c = refused_by c.in-Err.failure c.args.code.now (script c.args.direction c.args.versions.now c.args.suspended.now) c.args.modules.now c.args.apps.now c.args.processes.now c.in-Err.ensures.stops
