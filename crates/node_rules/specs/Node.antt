-- A node: its modules, its processes, its applications and its releases; and the script that it runs, if it runs one. How old
-- code is purged later stands beside that code, among the modules.
use Rattle.std.specs.Prelude.{◌≡◌, false, IsSome, List, take, Option, None, Some}
use Rattle.erl_ir.specs.Module.{Forms}
use Rattle.children_live.specs.Children.{ChildrenLive}
use Rattle.code_loading.specs.Consistent.{IsConsistent}
use Rattle.code_server.specs.Modules.{Table as Loaded}
use Rattle.process_store.specs.Table.{Table}
use Rattle.app_table.specs.Applications.{Application}
use Rattle.app_table.specs.Undo.{Fits}
use Rattle.release_statuses.specs.Statuses.{index_of}
use Rattle.release_statuses.specs.declared.listed.Listed.{Listed}
use Rattle.script_checks.specs.Checks.{bad_script, has_point}
use Rattle.script_state.specs.Runner.{RunnerState}

-- The next serial of a load stands in the table of modules, and the next pid in that of processes.
pub record NodeState : Type 0 where
  pub modules : Loaded Forms
  pub processes : Table
  pub apps : List Application
  pub releases : List Listed
  pub runner : Option RunnerState

-- A script that runs: the release that it installs is known, the script is one that can be installed, and before its point of no
-- return the specifications can be put back that stood there before.
pub record IsInstalling (r : RunnerState) (releases : List Listed) (apps : List Application) : Type 0 where
  pub known : IsSome (index_of r.target releases)
  pub checked : bad_script r.script ≡ None
  pub fits : has_point (take r.progress.next r.script) ≡ false → Fits r.former apps

abbrev pub RunsScript : Option RunnerState → List Listed → List Application → Type 0
RunsScript None releases apps = Unit {0}
RunsScript (Some r) releases apps = IsInstalling r releases apps

-- What every node keeps: modules differ in name, each has one or two instances, whose serials differ, each instance that a
-- process uses is its module's current or old code, and one that rests in a loop function uses that which its place names;
-- each child that runs is a process that lives, and no two are one; and of a script that runs what stands above.
pub record IsSoundNode (n : NodeState) : Type 0 where
  pub consistent : IsConsistent n.modules n.processes
  pub children : ChildrenLive n.apps n.processes
  pub script : RunsScript n.runner n.releases n.apps

abbrev pub with_processes : Table → NodeState → NodeState
with_processes t n = record n { processes = t }

abbrev pub with_modules : Loaded Forms → NodeState → NodeState
with_modules m n = record n { modules = m }

abbrev pub with_releases : List Listed → NodeState → NodeState
with_releases r n = record n { releases = r }
