-- No load, purge or delete leaves a process with code that is gone.
use Rattle.std.specs.Prelude.{◌≡◌, ℕ, All, List, None, Option, map}
use Rattle.erl_term.specs.Tree.{Trees}
use Rattle.erl_semantics.specs.Jobs.{Evaluates}
use Rattle.erl_semantics.specs.State.{World}
use Rattle.erl_semantics.specs.declared.acts.Act.{Act}
use Rattle.erl_semantics.specs.declared.acts.Act.TheVariants as acts
use Rattle.erl_ir.specs.Module.{Forms}
use Rattle.code_server.specs.Modules.{IsModuleTable, Table as Loaded, delete_refusal, deleted, load_refusal, loaded, purged, removed}
use Rattle.erl_semantics.specs.declared.jobs.Done.{Done}
use Rattle.erl_semantics.specs.declared.jobs.Job.{Job}
use Rattle.erl_semantics.specs.declared.outcome.Outcome.{Outcome}
use Rattle.erl_semantics.specs.Views.{outcome_of, instance}
use Rattle.erl_semantics.specs.declared.instance.Instance.{Instance}
use Rattle.process.specs.Named.{StandsIn}
use Rattle.process_effects.specs.Begins.{acts_begun}
use Rattle.erl_term.specs.declared.term.Term.{Term}
use Rattle.process_effects.specs.Commits.{IsRunning, rests_in}
use Rattle.process_effects.specs.Ends.{all_vacated}
use Rattle.process_store.specs.Changes.{restate_living}
use Rattle.process_store.specs.Table.{Table, changed, living}
use Rattle.process_table.specs.Commit.{committed}
use Rattle.process_table.specs.States.{all_resumed, all_suspended}
use Rattle.process_table.specs.Steps.{IsCodeOf, after_arrival, taken}
use Rattle.process_table.specs.declared.body.ClientMessage.{ClientMessage}
use Rattle.release_words.specs.declared.purge.Purge.{Purge}
use Rattle.code_loading.specs.Current.{current_code}
use Rattle.code_loading.specs.Consistent.{IsConsistent, RestsAt}
use Rattle.code_loading.specs.Loading.{spared}
use Rattle.code_loading.specs.Purging.{all_purged, all_spared}

pub record LoadingKeepsCode : Type 0 where
  pub purges : (name : List ℕ) (modules : Loaded Forms) (t : Table) → IsConsistent modules t →
      IsConsistent (purged name modules) (spared name modules t)
  pub loads : (name : List ℕ) (code : Forms) (post : Option Purge) (modules : Loaded Forms) (t : Table) → IsConsistent modules t →
      load_refusal name modules ≡ None → IsConsistent (loaded name code post modules) t
  pub deletes : (name : List ℕ) (post : Option Purge) (modules : Loaded Forms) (t : Table) → IsConsistent modules t →
      delete_refusal name modules ≡ None → IsConsistent (deleted name post modules) t

-- Nor does a removal, or several purges at once.
pub record PurgesKeepCode : Type 0 where
  pub removes : (name : List ℕ) (post : Option Purge) (modules : Loaded Forms) (t : Table) → IsConsistent modules t →
      IsConsistent (removed name post modules) (spared name modules t)
  pub purges : (names : List (List ℕ)) (modules : Loaded Forms) (t : Table) → IsConsistent modules t →
      IsConsistent (all_purged names modules) (all_spared names modules t)

-- A process that an act starts rests in this code.
abbrev pub StartsIn : List Instance → Act → Type 0
StartsIn code (acts.Send to message) = Unit {0}
StartsIn code (acts.Reply number answer) = Unit {0}
StartsIn code (acts.Start place) = RestsAt place (rests_in place code)
StartsIn code (acts.Name name by_register) = Unit {0}

-- Nor does any other step of the processes: what comes to run is current code, or what the process rested in; and what
-- comes to rest does so in the code of its job. One that is suspended, resumed, or gets another state uses what it used,
-- and one that ends nothing.
pub record StepsKeepCode : Type 0 where
  pub arrivals : (client : ℕ) (name : List ℕ) (body : ClientMessage) (modules : Loaded Forms) (t : Table) →
      IsConsistent modules t → IsConsistent modules (after_arrival client name body t)
  pub takes : (pid : ℕ) (job : Job) (modules : Loaded Forms) (t : Table) → IsConsistent modules t →
      IsCodeOf modules (living pid t) job → IsConsistent modules (taken pid job.entry_serial job.code t)
  pub commits : (done : Done) (modules : Loaded Forms) (t : Table) → IsConsistent modules t → IsRunning done.job t →
      IsConsistent modules (committed done t)
  pub starts : (name : Option (List ℕ)) (code : List Instance) (acts : List Act) (modules : Loaded Forms) (t : Table) →
      IsConsistent modules t → All (StandsIn modules) (map instance code) → All (StartsIn code) acts →
      IsConsistent modules (acts_begun name code acts t)
  pub suspends : (pids : List ℕ) (modules : Loaded Forms) (t : Table) → IsConsistent modules t →
      IsConsistent modules (all_suspended pids t)
  pub resumes : (pids : List ℕ) (modules : Loaded Forms) (t : Table) → IsConsistent modules t →
      IsConsistent modules (all_resumed pids t)
  pub restates : (state : Term) (turns pid : ℕ) (modules : Loaded Forms) (t : Table) → IsConsistent modules t →
      IsConsistent modules (changed (restate_living state turns) pid t)
  pub ends : (pids : List ℕ) (modules : Loaded Forms) (t : Table) → IsConsistent modules t →
      IsConsistent modules (all_vacated pids t)
  pub currents : (modules : Loaded Forms) → IsModuleTable modules → All (StandsIn modules) (map instance (current_code modules))
  pub evaluated : (w : World) (code : List Instance) (m f : List ℕ) (args : Trees) (o : Outcome) → w.code ≡ map instance code →
      Evaluates w m f args (outcome_of o) → All (StartsIn code) o.acts
