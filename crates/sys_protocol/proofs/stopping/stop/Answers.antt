-- The children that are found run.
use Rattle.std.proofs.Common.{All, List, sym, subst}
use Rattle.app_table.specs.Changes.{RunsAs}
use Rattle.app_table.specs.declared.undo.ChildProcess.{ChildProcess}
use Rattle.sys_protocol.proofs.stopping.stop.Goals as goal

pub stop-requires : goal.stop-requires
stop-requires c =
    subst (λ (cs : List ChildProcess). All (λ it. RunsAs it c.args.apps.now) cs) (sym c.new.ensures) c.in_ok-children.ensures.run
