-- What boots keeps what every node keeps.
use Rattle.script_events.proofs.Booting.{booted_is_kept}
use Rattle.node_core.proofs.node.Node.boot.Goals as goal

pub invariant_of-result : goal.invariant_of-result
invariant_of-result c =
    let b = c.in_ok-modules.field-0 in
    booted_is_kept c.args.release.now b.modules b.processes b.apps c.in_ok-releases.releases c.in_ok-modules.ensures.booted c.are_sound.ensures
