-- Code is replaced under processes, and under the children of supervisors that they are (Erlang Reference Manual, Compilation and
-- Code Loading, Code Replacement; supervisor(3)).
use Rattle.std.specs.Prelude.{List, [], ◌∷◌, ℕ, Option}
use Rattle.erl_ir.specs.Module.{Forms}
use Rattle.app_table.specs.Applications.{Application, all_ended}
use Rattle.code_loading.specs.Loading.{lingering, spared}
use Rattle.code_server.specs.Modules.{IsModuleTable, Table as Loaded, loaded, purged, removed}
use Rattle.process_effects.specs.Ends.{AllStand}
use Rattle.process_effects.specs.Told.{killed}
use Rattle.process_store.specs.Table.{Table}
use Rattle.release_words.specs.declared.purge.Purge.{Purge}

-- What runs: modules, processes in their code, and applications, whose children are processes.
pub record RunningSystem : Type 0 where
  pub modules : Loaded Forms
  pub processes : Table
  pub apps : List Application

abbrev pub running : Loaded Forms → Table → List Application → RunningSystem
running modules processes apps = record { modules = modules; processes = processes; apps = apps }

-- Modules differ in name, and the serials of their instances differ; each instance that a process uses is its module's current or
-- old code.
pub record HasItsCode (p : RunningSystem) : Type 0 where
  pub sound : IsModuleTable p.modules
  pub stand : AllStand p.modules p.processes

-- A module is purged: those who linger in it are killed, and their children are due, or not.
abbrev pub without_lingering : List ℕ → RunningSystem → RunningSystem
without_lingering name p = record {
  modules = purged name p.modules;
  processes = spared name p.modules p.processes;
  apps = all_ended killed (lingering name p.modules p.processes) p.apps;
}

-- several are, one after the other
abbrev pub all_without : List (List ℕ) → RunningSystem → RunningSystem
all_without [] p = p
all_without (n ∷ ns) p = all_without ns (without_lingering n p)

-- A module is loaded, or removed, once it was purged: its current code, if it has any, is old then, and is purged later as
-- PostPurge says, where that is given.

abbrev pub code_loaded : Forms → Option Purge → RunningSystem → RunningSystem
code_loaded m post p = record (without_lingering m.name p) { modules = loaded m.name m post (purged m.name p.modules) }

abbrev pub code_removed : List ℕ → Option Purge → RunningSystem → RunningSystem
code_removed name post p = record (without_lingering name p) { modules = removed name post p.modules }
