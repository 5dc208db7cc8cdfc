-- Each `code_change/3` gives one outcome, in the processes that the ones before have left.
use Rattle.upgrade_calls.proofs.ChangesOneWay.{changes_one_way}
use Rattle.upgrade_calls.proofs.laws.changes_one_way.Goals as goal

pub returns : goal.returns
returns c = changes_one_way
