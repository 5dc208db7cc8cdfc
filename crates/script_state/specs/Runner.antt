-- A script that is run (relup(4); release_handler(3), install_release/1).
use Rattle.std.specs.Prelude.{ℕ, ◌+◌, List, []}
use Rattle.app_table.specs.Applications.{Application}
use Rattle.app_table.specs.Changes.{former_specs}
use Rattle.app_table.specs.declared.name.ChildName.{ChildName}
use Rattle.app_table.specs.declared.specs.FormerSpecs.{FormerSpecs}
use Rattle.erl_term.specs.declared.term.Term.{Term}
use Rattle.low_instructions.specs.declared.low.Low.{Low}
use Rattle.otp_files.specs.declared.upgrade.Entry.{Entry}
use Rattle.release_specs.specs.Specs.{specs_of}
use Rattle.release_table.specs.declared.table.Release.{Release}
use Rattle.script_state.specs.declared.noted.NotedVersion.{NotedVersion}
use Rattle.script_state.specs.declared.runner.Progress.{Progress}
use Rattle.script_state.specs.declared.runner.Runner.{Runner}

-- How far a script has come: the index of the next instruction; the processes that were suspended and not resumed since; the
-- children that were stopped; and what is noted of the modules whose object code is at hand.
pub record ProgressState : Type 0 where
  pub next : ℕ
  pub suspended : List ℕ
  pub stopped : List ChildName
  pub versions : List NotedVersion

-- a script that has not begun
abbrev pub at_start : ProgressState
at_start = record { next = 0; suspended = []; stopped = []; versions = [] }

-- one instruction further
abbrev pub past_one : ProgressState → ProgressState
past_one p = record p { next = p.next + 1 }

-- The version of the release that is being installed, and the version that the relup's entry names, with what describes it: up
-- the release that is left, down the one that is being installed. Whether the script leads up or down isn't kept, since each
-- `code_change` names its own direction; the script; what the applications were specified by before; and how far it has come.
pub record RunnerState : Type 0 where
  pub target : List ℕ
  pub other : List ℕ
  pub description : Term
  pub script : List Low
  pub former : FormerSpecs
  pub progress : ProgressState

-- An install of a release begins, by an entry of a relup, where there are these applications.
abbrev pub begun : Release → Entry Term Low → List Application → RunnerState
begun r entry apps = record {
  target = r.rel.vsn;
  other = entry.vsn;
  description = entry.description;
  script = entry.instructions;
  former = former_specs (specs_of r) apps;
  progress = at_start;
}

-- As they are seen: their lists, without the room that they have.

abbrev pub progress_of : Progress → ProgressState
progress_of p = record { next = p.next; suspended = p.suspended.items; stopped = p.stopped.items; versions = p.versions.items }

abbrev pub runner_of : Runner → RunnerState
runner_of r = record {
  target = r.target;
  other = r.other;
  description = r.description;
  script = r.script;
  former = r.former;
  progress = progress_of r.progress;
}
