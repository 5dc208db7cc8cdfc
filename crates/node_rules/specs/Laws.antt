-- What holds of the rule of a node.
use Rattle.std.specs.Prelude.{◌≡◌, [], List, None, Ok}
use Rattle.app_table.specs.Applications.{Application}
use Rattle.code_server.specs.Modules.{IsModuleTable, Table as Loaded}
use Rattle.erl_ir.specs.Module.{Forms}
use Rattle.node_types.specs.declared.event.Answer.{Answer}
use Rattle.node_types.specs.declared.event.Event.{Event}
use Rattle.node_types.specs.Note.{Note}
use Rattle.process_store.specs.Table.{Table}
use Rattle.release_boot.specs.Boot.{Boots}
use Rattle.release_statuses.specs.declared.listed.Listed.{Listed}
use Rattle.release_table.specs.declared.table.Release.{Release}
use Rattle.undo_journal.specs.Reversible.{Accepted}
use Rattle.node_rules.specs.Node.{IsSoundNode, NodeState}
use Rattle.node_rules.specs.Scripts.{Outcome}
use Rattle.node_rules.specs.Step.{Step}

-- An event has one outcome at most.
pub record StepsHaveOneOutcome : Type 0 where
  pub one : (n : NodeState) (e : Event) (r s : Outcome) → Step n e r → Step n e s → r ≡ s

-- A node that boots keeps what every node keeps; and where it does, it does so behind each event that is accepted.
pub record StepsKeep : Type 0 where
  pub boots : (r : Release) (modules : Loaded Forms) (t : Table) (apps : List Application) (releases : List Listed) →
      Boots r modules t apps → IsModuleTable modules →
      IsSoundNode (record { modules = modules; processes = t; apps = apps; releases = releases; runner = None })
  pub steps : (n : NodeState) (e : Event) (a : Accepted NodeState Answer Note) → Step n e (Ok a) → IsSoundNode n →
      IsSoundNode a.node
