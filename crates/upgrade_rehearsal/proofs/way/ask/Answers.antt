-- The node in the player's present state is asked.
use Rattle.std.proofs.Common.{◌∙◌, ap}
use Rattle.node_core.specs.Node.{NodeState}
use Rattle.upgrade_rehearsal.specs.Seen.{next_of}
use Rattle.upgrade_rehearsal.proofs.way.ask.Goals as goal

pub returns-clause-instruction : goal.returns-clause-instruction
returns-clause-instruction c = c.in_ok-instruction.ensures ∙ ap (λ (n : NodeState). next_of n) c.node-node.ensures

pub returns-clause-outlook : goal.returns-clause-outlook
returns-clause-outlook c =
    let at = c.node-node.ensures in
    let apps = c.apps.ensures in
    let next = c.in_ok-instruction.ensures in
    let found = c.in_ok-outlook.ensures in
    cc
