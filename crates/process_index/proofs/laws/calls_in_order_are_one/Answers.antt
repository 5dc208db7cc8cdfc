-- Each has the other's first call, and it is the first of both.
use Rattle.process_index.proofs.OpenCalls.{calls_one}
use Rattle.process_index.proofs.laws.calls_in_order_are_one.Goals as goal

pub returns : goal.returns
returns c = calls_one
