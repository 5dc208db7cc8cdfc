-- It can be asked for over any table of modules.
use Rattle.code_changes.proofs.changing.revert_code_change.Goals as goal

pub revert_change-requires : goal.revert_change-requires
revert_change-requires c = (c.requires.2.processes c.args.modules.now).0
