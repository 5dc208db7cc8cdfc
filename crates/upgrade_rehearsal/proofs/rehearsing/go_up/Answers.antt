-- The way up was run, and the node is compared then.
use Rattle.std.proofs.Common.{Bool, subst}
use Rattle.node_core.specs.Node.{NodeState}
use Rattle.rehearsals.specs.Ways.{is_finished}
use Rattle.upgrade_rehearsal.specs.Players.{stage_of}
use Rattle.upgrade_rehearsal.specs.Seen.{IsBoot}
use Rattle.upgrade_rehearsal.proofs.rehearsing.go_up.Goals as goal

pub returns-clause-boot : goal.returns-clause-boot
returns-clause-boot g c = λ to fresh.
    let top = (stage_of c.go.new.player).node in
    let up = c.in_ok-up.up in
    subst (λ (b : Bool). IsBoot to b top c.in_ok-boot.boot) c.is_finished.ensures
    (subst (λ (n : NodeState). IsBoot to c.is_finished.result n c.in_ok-boot.boot) c.node.ensures (c.in_ok-boot.ensures to fresh))
