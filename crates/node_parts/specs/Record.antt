-- What takes an event back.
use Rattle.std.specs.Prelude.{◌≡◌, ◌+◌, List, [], Option, None, Some, option_map}
use Rattle.code_replacement.specs.Undo as replacing
use Rattle.code_server.specs.Undo as code
use Rattle.process_store.specs.Pieces.{HoldsLost}
use Rattle.process_table.specs.Undo.{TakesBackEnds, held}
use Rattle.app_table.specs.Applications.{Application}
use Rattle.app_table.specs.Changes.{put_back}
use Rattle.app_table.specs.Pieces as specs
use Rattle.app_table.specs.Undo as apps
use Rattle.app_table.specs.Undo.{Fits}
use Rattle.app_table.specs.declared.undo.AppsUndo as apps_undo
use Rattle.release_statuses.specs.Undo as of_releases
use Rattle.release_statuses.specs.declared.undo.ReleasesUndo as releases_undo
use Rattle.release_statuses.specs.declared.listed.Listed.{Listed}
use Rattle.script_ends.specs.Ends.{FinishBack, RecoveryBack}
use Rattle.script_runner.specs.Undo as instructions
use Rattle.script_runner.specs.declared.undo.InstructionUndo as instructions_undo
use Rattle.script_state.specs.Runner.{RunnerState, runner_of}
use Rattle.node_rules.specs.Node.{IsSoundNode, NodeState}
use Rattle.node_rules.specs.Scripts.{parts_in, running_in}
use Rattle.node_parts.specs.declared.record.Displaced.{Displaced}
use Rattle.node_parts.specs.declared.record.Record.{Record}
use Rattle.node_parts.specs.declared.record.WayBack.{WayBack}
use Rattle.node_parts.specs.declared.record.WayBack.TheVariants.{OfProcesses, OfChildren, OfCode, OfDeletion, OfReleases, OfInstall, OfInstruction, OfFinish, OfRecovery, OfPurges, OfRestart}

-- of the applications, where any were changed
abbrev pub AppsBack : Option apps_undo.AppsUndo → List Application → List Application → Type 0
AppsBack None before after = after ≡ before
AppsBack (Some undo) before after = apps.undone undo after ≡ before

-- of the releases, where their statuses were changed
abbrev pub ReleasesBack : Option releases_undo.ReleasesUndo → List Listed → List Listed → Type 0
ReleasesBack None before after = after ≡ before
ReleasesBack (Some undo) before after = of_releases.TakesBack undo before after × (of_releases.IsRemoval undo → ⊥)

-- Of a script that has begun: it is the one that runs, and no script ran before. Its record is what it keeps itself of the
-- specifications before it.
pub record InstallBack (s : RunnerState) (before after : NodeState) : Type 0 where
  pub fits : Fits s.former after.apps
  pub apps : put_back s.former after.apps ≡ before.apps
  pub none : before.runner ≡ None
  pub is : after ≡ record before { apps = after.apps; runner = Some s }

-- Of an instruction that was carried out: the script has come one instruction further.
pub record InstructionBack (undo : instructions_undo.InstructionUndo) (s now : RunnerState) (before after : NodeState)
    : Type 0 where
  pub ran : before.runner ≡ Some s
  pub runs : after.runner ≡ Some now
  pub back : instructions.TakesBack undo (parts_in s before) (parts_in now after)
  pub goes_on : now ≡ record s { progress = now.progress }
  pub one : now.progress.next ≡ s.progress.next + 1
  pub releases : after.releases ≡ before.releases

-- What stood in place of what has booted at a restart, which runs no script.
pub record RestartBack (d : Displaced) (before after : NodeState) : Type 0 where
  pub modules : d.modules ≡ before.modules
  pub processes : d.processes ≡ before.processes
  pub apps : d.apps ≡ before.apps
  pub runner : option_map runner_of d.runner ≡ before.runner
  pub stopped : after.runner ≡ None
  pub releases : of_releases.TakesBack d.statuses before.releases after.releases
  pub kept : of_releases.IsRemoval d.statuses → ⊥

-- What a way back says of the parts that its step has changed, and of the node: nothing else was changed. Of processes, code and
-- specifications it holds nothing that the step has not taken.
abbrev pub Restores : WayBack → NodeState → NodeState → Type 0
Restores (OfProcesses undo) before after =
    TakesBackEnds undo before.processes after.processes × (after ≡ record before { processes = after.processes }) ×
    HoldsLost (held undo after.processes) before.processes after.processes
Restores (OfChildren undo ended) before after =
    TakesBackEnds undo before.processes after.processes × AppsBack (Some ended) before.apps after.apps ×
    (after ≡ record before { processes = after.processes; apps = after.apps }) ×
    HoldsLost (held undo after.processes) before.processes after.processes × (specs.held ended after.apps ≡ [])
Restores (OfCode undo) before after =
    replacing.TakesBack undo (running_in before) (running_in after) ×
    (after ≡ record before { modules = after.modules; processes = after.processes; apps = after.apps })
Restores (OfDeletion undo) before after =
    code.Fits undo after.modules × (code.undone undo after.modules ≡ before.modules) ×
    (after ≡ record before { modules = after.modules }) × (code.held undo ≡ None)
Restores (OfReleases undo) before after =
    of_releases.TakesBack undo before.releases after.releases × (after ≡ record before { releases = after.releases })
Restores OfInstall before after = (s : RunnerState) × InstallBack s before after
Restores (OfInstruction undo) before after = (s : RunnerState) × (now : RunnerState) × InstructionBack undo s now before after
Restores (OfFinish undo) before after = (s : RunnerState) × (before.runner ≡ Some s) ×
    FinishBack undo s before.processes after.processes before.releases after.releases ×
    (after ≡ record before { processes = after.processes; releases = after.releases; runner = None })
Restores (OfRecovery undo) before after = (s : RunnerState) × (before.runner ≡ Some s) ×
    RecoveryBack undo s before.apps after.apps × (after ≡ record before { apps = after.apps; runner = None })
Restores (OfPurges undo statuses) before after =
    replacing.PurgesBack undo (running_in before) (running_in after) × ReleasesBack statuses before.releases after.releases ×
    (after ≡ record before { modules = after.modules; processes = after.processes; apps = after.apps; releases = after.releases })
Restores (OfRestart displaced) before after = RestartBack displaced before after

-- It gives the node before, which kept what every node keeps.
abbrev pub LeadsBack : WayBack → NodeState → NodeState → Type 0
LeadsBack w before after = IsSoundNode before × Restores w before after

-- A record takes a step back whose way back it holds.
abbrev pub Undoes : Record → NodeState → NodeState → Type 0
Undoes r before after = LeadsBack r.way_back before after
