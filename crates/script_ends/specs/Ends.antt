-- A script ends (release_handler(3), install_release/1; relup(4)): it is finished, and the release is installed; or it is given
-- up before the point of no return, and the specifications of applications are as before the install.
use Rattle.std.specs.Prelude.{◌≡◌, ◌++◌, IsPermutation, List}
use Rattle.app_table.specs.Applications.{Application}
use Rattle.app_table.specs.Changes.{put_back}
use Rattle.app_table.specs.Pieces.{held_back, held_former, pieces}
use Rattle.app_table.specs.Undo.{former_of, put_again}
use Rattle.app_table.specs.declared.specs.FormerSpecs.{FormerSpecs}
use Rattle.process_store.specs.Table.{Table}
use Rattle.process_table.specs.States.{all_resumed, all_unresumed}
use Rattle.release_statuses.specs.Statuses.{installed}
use Rattle.release_statuses.specs.Undo as statuses
use Rattle.release_statuses.specs.declared.listed.Listed.{Listed}
use Rattle.script_state.specs.Runner.{RunnerState, progress_of, runner_of}
use Rattle.script_ends.specs.declared.ending.Abandoned.{Abandoned}
use Rattle.script_ends.specs.declared.ending.Finish.{Finish}
use Rattle.script_ends.specs.declared.ending.Recovery.{Recovery}

-- Finished: the processes that the script has suspended and not resumed are resumed, where they live; the release is current,
-- what was current is old, and a permanent release stays so.

abbrev pub processes_finished : RunnerState → Table → Table
processes_finished r t = all_resumed r.progress.suspended t

abbrev pub releases_finished : RunnerState → List Listed → List Listed
releases_finished r releases = installed r.target releases

-- What takes that back: the processes are suspended as they were, the releases have their former statuses, and the script is at
-- its end. No release comes back to the list by it, so that it takes no memory.
pub record FinishBack (undo : Finish) (r : RunnerState) (t t_after : Table) (before after : List Listed) : Type 0 where
  pub processes : all_unresumed undo.resumed t_after ≡ t
  pub releases : statuses.TakesBack undo.statuses before after
  pub kept : statuses.IsRemoval undo.statuses → ⊥
  pub runner : runner_of undo.runner ≡ r

-- Given up before the point of no return: the former specifications are back, and the applications that were added leave. Nothing
-- else is taken back: statuses, processes and code are as they were.

abbrev pub apps_recovered : RunnerState → List Application → List Application
apps_recovered r apps = put_back r.former apps

-- the script, with what the applications were specified by before it
abbrev pub abandoned_of : Abandoned → FormerSpecs → RunnerState
abandoned_of a former = record {
  target = a.target;
  other = a.other;
  description = a.description;
  script = a.script;
  former = former;
  progress = progress_of a.progress;
}

-- What takes that back: the specifications are in place again, with the applications that were added, and the script is where it
-- was. Of specifications it holds those that were in the applications or kept for the script, and are not left.
pub record RecoveryBack (undo : Recovery) (r : RunnerState) (before after : List Application) : Type 0 where
  pub apps : put_again undo.specs after ≡ before
  pub runner : abandoned_of undo.script (former_of undo.specs after) ≡ r
  pub pieces : IsPermutation (held_back undo.specs ++ pieces after) (held_former r.former ++ pieces before)
