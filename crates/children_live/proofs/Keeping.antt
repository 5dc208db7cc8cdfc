-- Each child that runs goes on as a process of its own, whatever is done to the processes.
use Rattle.std.proofs.Common.{ℕ, List, [], ◌∷◌}
use Rattle.app_table.specs.Applications.{Application, all_ended}
use Rattle.children_live.proofs.Children.{all_ended_apart, all_ended_from, ended_apart, ended_from}
use Rattle.children_live.proofs.Lives.{LiveOn, others_on, spared_on, vacated_on}
use Rattle.children_live.specs.Children.{ChildrenLive}
use Rattle.code_loading.specs.Loading.{lingering, spared}
use Rattle.code_server.specs.Modules.{Table as Loaded}
use Rattle.erl_ir.specs.Module.{Forms}
use Rattle.erl_semantics.specs.declared.acts.Act.{Act}
use Rattle.erl_term.specs.declared.term.Term.{Term}
use Rattle.process_effects.specs.Ends.{all_vacated}
use Rattle.process_effects.specs.Exits.{exited}
use Rattle.process_effects.specs.Told.{killed}
use Rattle.process_store.specs.Table.{Table}

-- everybody lives on
pub all_on : (apps : List Application) (t after : Table) → LiveOn t after → ChildrenLive apps t → ChildrenLive apps after
all_on apps t after on kept = record {
  live = λ spot pid runs. on pid (kept.live spot pid runs);
  apart = kept.apart;
}

-- one process ends with its job
pub exited_live : (reason : Term) (pid : ℕ) (acts : List Act) (t : Table) (apps : List Application) → ChildrenLive apps t →
    ChildrenLive (all_ended reason (pid ∷ []) apps) (exited pid acts t)
exited_live reason pid acts t apps kept = record {
  live = λ spot p runs.
      let (was, differs) = ended_from reason pid apps kept.apart spot p runs in
      others_on pid acts t p differs (kept.live spot p was);
  apart = ended_apart reason pid apps kept.apart;
}

-- several processes leave
pub vacated_live : (reason : Term) (pids : List ℕ) (t : Table) (apps : List Application) → ChildrenLive apps t →
    ChildrenLive (all_ended reason pids apps) (all_vacated pids t)
vacated_live reason pids t apps kept = record {
  live = λ spot p runs.
      let (was, others) = all_ended_from reason pids apps kept.apart spot p runs in
      vacated_on pids t p others (kept.live spot p was);
  apart = all_ended_apart reason pids apps kept.apart;
}

-- those who linger are killed
pub spared_live : (name : List ℕ) (modules : Loaded Forms) (t : Table) (apps : List Application) → ChildrenLive apps t →
    ChildrenLive (all_ended killed (lingering name modules t) apps) (spared name modules t)
spared_live name modules t apps kept = record {
  live = λ spot p runs.
      let (was, spares) = all_ended_from killed (lingering name modules t) apps kept.apart spot p runs in
      spared_on name modules t p spares (kept.live spot p was);
  apart = all_ended_apart killed (lingering name modules t) apps kept.apart;
}
