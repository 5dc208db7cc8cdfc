-- A `code_change` has one outcome.
use Rattle.code_changes.proofs.OneWay.{changes_one_way}
use Rattle.code_changes.proofs.laws.code_changes_one_way.Goals as goal

pub returns : goal.returns
returns c = changes_one_way
