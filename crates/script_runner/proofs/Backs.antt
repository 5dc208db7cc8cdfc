-- The parts before an instruction, from what was changed and what wasn't.
use Rattle.std.proofs.Common.{◌≡◌, List}
use Rattle.app_table.specs.Applications.{Application}
use Rattle.code_replacement.specs.Replacing.{RunningSystem}
use Rattle.process_store.specs.Table.{Table}
use Rattle.script_runner.specs.Instructions.{running_of, with_running}
use Rattle.script_runner.specs.Parts.{Parts}

-- code was replaced, or purged
pub running_back : (b q : Parts) (r : RunningSystem) → r ≡ running_of b →
    q ≡ record b { modules = q.modules; processes = q.processes; apps = q.apps } → with_running r q ≡ b
running_back b q r same others = (λ i. record {
  modules = (same i).modules;
  processes = (same i).processes;
  apps = (same i).apps;
  suspended = (others i).suspended;
  stopped = (others i).stopped;
  versions = (others i).versions;
})

-- processes have changed their states, and supervisors have specified their children anew
pub changed_back : (b q : Parts) (apps : List Application) (t : Table) → apps ≡ b.apps → t ≡ b.processes →
    q ≡ record b { processes = q.processes; apps = q.apps } → record q { processes = t; apps = apps } ≡ b
changed_back b q apps t same also others = (λ i. record {
  modules = (others i).modules;
  processes = also i;
  apps = same i;
  suspended = (others i).suspended;
  stopped = (others i).stopped;
  versions = (others i).versions;
})
