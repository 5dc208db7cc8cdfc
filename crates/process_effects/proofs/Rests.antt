-- A process rests before its acts are done, and what that leaves gives the job that it ran.
use Rattle.std.proofs.Common.{◌≡◌, ℕ, List, [], Option, None, Some, IfSome, option_map, refl, sym, ap, subst, ◌∙◌}
use Rattle.std.proofs.lemmas.Option.{none-some}
use Rattle.erl_semantics.specs.declared.acts.Act.{Act}
use Rattle.erl_semantics.specs.declared.acts.Place.{Place}
use Rattle.erl_ir.specs.Module.{Forms}
use Rattle.erl_semantics.specs.declared.jobs.Job.{Job}
use Rattle.erl_semantics.specs.declared.instance.Instance.{Instance}
use Rattle.code_server.specs.Modules.{IsModuleTable, Table as Loaded}
use Rattle.process.specs.declared.named.CodeRef.{CodeRef}
use Rattle.process.proofs.Reruns.{jobs_run_again}
use Rattle.process.specs.Ended.{ended, ended_with}
use Rattle.process.specs.Process.{ProcessState, unrested}
use Rattle.process.specs.Rerun.{ran_named, ran_with, runs_again}
use Rattle.process.specs.declared.process.Ran.{Ran}
use Rattle.process.specs.declared.process.ending.Did.{Did}
use Rattle.process.specs.declared.process.ending.Did.TheVariants as did
use Rattle.process.specs.declared.process.ending.CodeRefs.{CodeRefs}
use Rattle.process_effects.proofs.Parting.{done_later, told_later}
use Rattle.process_effects.specs.Acts.{acts_done, acts_told}
use Rattle.process_effects.specs.Commits.{job_at, rerun, rested_after, rests_in}
use Rattle.process_effects.specs.Parted.{acts_sent, all_answered, all_reopened, all_unsent, answers_of, answers_told}
use Rattle.process_effects.specs.declared.answers.Closed.{Closed}
use Rattle.process_effects.specs.Ends.{AllStand, Stands}
use Rattle.process_effects.specs.declared.told.Reply.{Reply}
use Rattle.process_store.proofs.Slots.{living_changed}
use Rattle.process_store.specs.Changes.{rest_living, unrest_living}
use Rattle.process_store.specs.Table.{Table, changed, living}
use Rattle.process_store.specs.declared.living.ProcessEntry.{ProcessEntry}

-- the processes after it, and what is told
module _ (job : Job) (at place : Place) (r : Option Instance) (code : List Instance) (acts : List Act) (t mid after : Table) (same_place : place ≡ at) (same_code : code ≡ job.code) (same_rest : r ≡ rests_in at code) (rested : mid ≡ changed (rest_living place r) job.pid t) where
  pub rested_is : after ≡ all_answered (answers_of acts) (acts_sent None acts mid) → after ≡ rested_after job at acts t
  rested_is is =
      let f = rest_living place r in
      let rests = same_rest ∙ ap (rests_in at) same_code in
      is ∙ ap (λ u. all_answered (answers_of acts) (acts_sent None acts u)) rested ∙ done_later f (λ l. refl) (λ l. refl) (λ c l. refl) (λ m l. refl) acts t job.pid ∙ (λ i. changed (rest_living (same_place i) (rests i)) job.pid (acts_done acts t))

  pub rested_told : (replies : List Reply) → replies ≡ answers_told (answers_of acts) (acts_sent None acts mid) → replies ≡ acts_told acts t
  rested_told replies is =
      let f = rest_living place r in
      is ∙ ap (λ u. answers_told (answers_of acts) (acts_sent None acts u)) rested ∙ told_later f (λ l. refl) (λ l. refl) (λ c l. refl) (λ m l. refl) acts t job.pid

-- what tells the instances of the process tells those of what it leaves

abbrev did_code : Did → List CodeRef
did_code did.Idle = []
did_code did.Suspended = []
did_code (did.Ran r) = r.code

told_ran : (told : CodeRefs) (ran : Ran) (p : ProcessState) → ended_with told.rests_in told.code (unrested ran p) ≡ ended (unrested ran p) → ran_with told.rests_in told.code ran ≡ ran_named ran
told_ran told ran p is =
    let place = ap (λ e. e.rests_in) is in
    let code = ap (λ e. did_code e.did) is in
    λ i. record { place = ran.place; rests_in = place i; running = record { entry_serial = ran.running.entry_serial; message = ran.running.message; code = code i } }

runs_lives : (o : Option ProcessEntry) (job : Job) → job_at o ≡ Some job → o ≡ None → ⊥
runs_lives None job runs none = none-some job runs
runs_lives (Some l) job runs none = none-some l (sym none)

-- the processes before it
pub rested_back : (modules : Loaded Forms) (job : Job) (t mid after : Table) (told : CodeRefs) (ran : Ran) (receivers : List ℕ) (closed : List Closed) → IsModuleTable modules → AllStand modules t → job_at (living job.pid t) ≡ Some job → IfSome (living job.pid t) (λ l. ended_with told.rests_in told.code l.process ≡ ended l.process) → changed (unrest_living ran) job.pid mid ≡ t → all_unsent receivers (all_reopened closed after) ≡ mid → rerun (runs_again modules (ran_with told.rests_in told.code ran)) job.pid (all_unsent receivers (all_reopened closed after)) ≡ t
rested_back modules job t mid after told ran receivers closed sound stand runs telling back acted =
    let pid = job.pid in
    let here : living pid t ≡ option_map (unrest_living ran) (living pid mid) = ap (living pid) (sym back) ∙ living_changed (unrest_living ran) mid.slots pid in
    elim (living pid mid) as (λ o. living pid t ≡ option_map (unrest_living ran) o → rerun (runs_again modules (ran_with told.rests_in told.code ran)) pid (all_unsent receivers (all_reopened closed after)) ≡ t) [
      | None ↦ λ e. absurd (runs_lives (living pid t) job runs e)
      | Some l ↦ λ e.
          let stands = subst (λ o. IfSome o (λ x. Stands modules x.process)) e (stand pid) in
          let is = told_ran told ran l.process (subst (λ o. IfSome o (λ x. ended_with told.rests_in told.code x.process ≡ ended x.process)) e telling) in
          let again : runs_again modules (ran_with told.rests_in told.code ran) ≡ Some ran = ap (runs_again modules) is ∙ jobs_run_again modules ran sound stands.0 stands.1 in
          ap (λ o. rerun o pid (all_unsent receivers (all_reopened closed after))) again ∙ ap (changed (unrest_living ran) pid) acted ∙ back
    ] here
