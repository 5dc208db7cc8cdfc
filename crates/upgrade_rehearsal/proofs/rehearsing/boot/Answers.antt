-- The player is at the stage where the node has booted.
use Rattle.std.proofs.Common.{sym, subst}
use Rattle.node_core.specs.Node.{NodeState}
use Rattle.node_types.specs.Note.{Note}
use Rattle.undo_journal.specs.Timeline.{Timeline, here}
use Rattle.upgrade_rehearsal.specs.Seen.{HasBooted}
use Rattle.upgrade_rehearsal.proofs.rehearsing.boot.Goals as goal

pub returns-in-Ok-new-clause-node : goal.returns-in-Ok-new-clause-node
returns-in-Ok-new-clause-node c =
    let booted : HasBooted c.args.from.now c.in-Ok.node = record {
      boots = c.in-Ok.ensures.booted;
      releases = c.in-Ok.ensures.releases;
      runner = c.in-Ok.ensures.idle;
    } in
    subst (λ (j : Timeline NodeState Note). HasBooted c.args.from.now (here j).node) (sym c.in-Ok-new.ensures.journal) booted
