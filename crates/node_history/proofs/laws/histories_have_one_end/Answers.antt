-- A history leads to one end.
use Rattle.node_history.proofs.OneEnd.{gives-once, history-once}
use Rattle.node_history.proofs.laws.histories_have_one_end.Goals as goal

pub returns : goal.returns
returns c = record { one = gives-once; history = history-once }
