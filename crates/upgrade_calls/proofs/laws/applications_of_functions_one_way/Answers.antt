-- Evaluating gives one outcome.
use Rattle.upgrade_calls.proofs.AppliesOneWay.{applies_one_way}
use Rattle.upgrade_calls.proofs.laws.applications_of_functions_one_way.Goals as goal

pub returns : goal.returns
returns c = applies_one_way
