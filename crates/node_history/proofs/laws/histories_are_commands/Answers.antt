-- A legal history leads where its commands lead.
use Rattle.node_history.proofs.Commanded.{commanded, led}
use Rattle.node_history.proofs.laws.histories_are_commands.Goals as goal

pub returns : goal.returns
returns c = record { lead = led; fold = commanded }
