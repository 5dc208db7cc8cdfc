-- A workshop may be shared, since its node may go to another thread.
use denote.Exit.{no}
use denote.Param.{param}
use denote.Param.Send.{param_sync, arg_sync, sendable}
use denote.Param.SendFields.{declared_sync}
use Rattle.std.proofs.Crossing.{crosses}
use Rattle.workers.specs.contracts.SharedNode as TheNode
use Rattle.worker_shell.specs.contracts.threads.Workshop as TheWorkshop
use Rattle.worker_shell.proofs.threads.workshop_is_sync.Goals as goal

pub is_sync-requires-sync-T : goal.is_sync-requires-sync-T
is_sync-requires-sync-T g c κs within = param_sync 0 _ (arg_sync _ no _ (declared_sync (TheWorkshop.the_type (param 0 g.row.N) g.N.Naming g.N.Ledger)
    (declared_sync (TheNode.the_type (param 0 g.row.N) g.N.Naming g.N.Ledger) (search (c.core_is_send.ensures, crosses, sendable) depth 20, (search sendable, tt)), (search (crosses, sendable) depth 20, tt))))
