-- What the instructions of a script change (appup(4), Low-Level Instructions): the modules, the processes and the applications
-- of the node; the processes that the script has suspended and not resumed since, the children that
-- it has stopped, and what is noted of the modules whose object code it has read.
use Rattle.std.specs.Prelude.{ℕ, List}
use Rattle.app_table.specs.Applications.{Application}
use Rattle.app_table.specs.declared.name.ChildName.{ChildName}
use Rattle.code_server.specs.Modules.{Table as Loaded}
use Rattle.erl_ir.specs.Module.{Forms}
use Rattle.process_store.specs.Table.{Table}
use Rattle.script_state.specs.declared.noted.NotedVersion.{NotedVersion}
use Rattle.script_state.specs.declared.runner.Progress.{Progress}

pub record Parts : Type 0 where
  pub modules : Loaded Forms
  pub processes : Table
  pub apps : List Application
  pub suspended : List ℕ
  pub stopped : List ChildName
  pub versions : List NotedVersion

abbrev pub parts_of : Loaded Forms → Table → List Application → Progress → Parts
parts_of modules t apps progress = record {
  modules = modules;
  processes = t;
  apps = apps;
  suspended = progress.suspended.items;
  stopped = progress.stopped.items;
  versions = progress.versions.items;
}
