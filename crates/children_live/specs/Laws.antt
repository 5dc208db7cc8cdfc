-- Each child that runs goes on as a process of its own, whatever is done to processes and to applications.
use Rattle.std.specs.Prelude.{ℕ, List, [], ◌∷◌, Option}
use Rattle.app_table.specs.Applications.{Application, all_ended, revived, started}
use Rattle.app_table.specs.Changes.{all_stopped, put_back, specs_set}
use Rattle.app_table.specs.Modules.{running_with}
use Rattle.app_table.specs.declared.child.Child.{Child}
use Rattle.app_table.specs.declared.name.ChildName.{ChildName}
use Rattle.app_table.specs.declared.specs.FormerSpecs.{FormerSpecs}
use Rattle.child_specs.specs.declared.child.ChildSpec.{ChildSpec}
use Rattle.children_live.specs.Children.{AreRenewed, ChildrenLive}
use Rattle.code_loading.specs.Loading.{lingering, spared}
use Rattle.code_server.specs.Modules.{Table as Loaded}
use Rattle.erl_ir.specs.Module.{Forms}
use Rattle.erl_semantics.specs.declared.acts.Act.{Act}
use Rattle.erl_semantics.specs.declared.acts.Place.{Place}
use Rattle.erl_semantics.specs.declared.instance.Instance.{Instance}
use Rattle.erl_semantics.specs.declared.jobs.Job.{Job}
use Rattle.erl_term.specs.Tree.{Trees}
use Rattle.erl_term.specs.declared.term.Term.{Term}
use Rattle.otp_files.specs.declared.app.AppSpec.{AppSpec}
use Rattle.process_effects.specs.Begins.{acts_begun}
use Rattle.process_effects.specs.Commits.{rested_after}
use Rattle.process_effects.specs.Ends.{all_vacated}
use Rattle.process_effects.specs.Exits.{exited}
use Rattle.process_effects.specs.Told.{killed}
use Rattle.process_effects.specs.declared.told.Reply.{Reply}
use Rattle.process_store.specs.Table.{Table}
use Rattle.process_table.specs.States.{all_resumed, all_suspended, all_unresumed}
use Rattle.process_table.specs.Steps.{after_arrival, taken}
use Rattle.process_table.specs.declared.body.ClientMessage.{ClientMessage}
use Rattle.process_table.specs.declared.states.Resumed.{Resumed}
use Rattle.sys_protocol.specs.ChildStarts.{Restarts}
use Rattle.sys_protocol.specs.Refusals.{RunsStartModule, module_of}
use Rattle.sys_protocol.specs.Stopping.{StartAgain, app_pids, stopped_app, to_stop, unloaded_app}
use Rattle.upgrade_calls.specs.Applying.{Applies}
use Rattle.upgrade_calls.specs.Changing.{AllChange}
use Rattle.upgrade_calls.specs.declared.changing.CodeChangeCall.{CodeChangeCall}

-- Where a message arrives, a process takes one, or comes to rest, where processes are suspended, are resumed, are suspended again
-- as they were, or change their states, where a function is applied, and where what evaluating has asked for is done, nobody
-- ends: each child that runs goes on as the process that it is.
pub record ProcessStepsKeepChildren : Type 0 where
  pub arrives : (client : ℕ) (name : List ℕ) (body : ClientMessage) (apps : List Application) (t : Table) →
      ChildrenLive apps t → ChildrenLive apps (after_arrival client name body t)
  pub takes : (pid entry_serial : ℕ) (code : List Instance) (apps : List Application) (t : Table) →
      ChildrenLive apps t → ChildrenLive apps (taken pid entry_serial code t)
  pub rests : (job : Job) (at : Place) (acts : List Act) (apps : List Application) (t : Table) →
      ChildrenLive apps t → ChildrenLive apps (rested_after job at acts t)
  pub suspends : (pids : List ℕ) (apps : List Application) (t : Table) →
      ChildrenLive apps t → ChildrenLive apps (all_suspended pids t)
  pub resumes : (pids : List ℕ) (apps : List Application) (t : Table) →
      ChildrenLive apps t → ChildrenLive apps (all_resumed pids t)
  pub unresumes : (rs : List Resumed) (apps : List Application) (t : Table) →
      ChildrenLive apps t → ChildrenLive apps (all_unresumed rs t)
  pub changes : (code : List Instance) (cs : List CodeChangeCall) (apps : List Application) (t after : Table) (told : List Reply) →
      AllChange code cs t after told → ChildrenLive apps t → ChildrenLive apps after
  pub applies : (code : List Instance) (m f : List ℕ) (args : Trees) (apps : List Application) (t after : Table) →
      (told : List Reply) →
      Applies code m f args t after told → ChildrenLive apps t → ChildrenLive apps after
  pub begins : (name : Option (List ℕ)) (code : List Instance) (acts : List Act) (apps : List Application) (t : Table) →
      ChildrenLive apps t → ChildrenLive apps (acts_begun name code acts t)

-- Where children are stopped, are started again, or one is revived, where an application starts, stops or is unloaded, where
-- specifications are put in place of others or put back, and where supervisors specify their children anew, each child that
-- runs then is a process of its own: one that ran and wasn't stopped goes on, and one that starts is a new process.
pub record ApplicationStepsKeepChildren : Type 0 where
  pub stops : (modules : List (List ℕ)) (apps : List Application) (t : Table) →
      ChildrenLive apps t → ChildrenLive (all_stopped (running_with modules apps) apps) (all_vacated (to_stop modules apps) t)
  pub starts : (code : List Instance) (names : List ChildName) (modules : List (List ℕ)) (apps : List Application) (t : Table) →
      (apps_after : List Application) (after : Table) (told : List Reply) →
      StartAgain code names modules apps t apps_after after told → ChildrenLive apps t → ChildrenLive apps_after after
  pub revives : (code : List Instance) (c : ChildSpec) (name : List ℕ) (id : Term) (apps : List Application) (t : Table) →
      (pid : ℕ) (after : Table) (told : List Reply) →
      Restarts code c t pid after told → ChildrenLive apps t → ChildrenLive (revived name id pid apps) after
  pub starts_app : (code : List Instance) (name : List ℕ) (apps : List Application) (t : Table) →
      (children : List Child) (after : Table) (told : List Reply) →
      RunsStartModule code (module_of name apps) t children after told →
      ChildrenLive apps t → ChildrenLive (started name children apps) after
  pub stops_app : (name : List ℕ) (apps : List Application) (t : Table) →
      ChildrenLive apps t → ChildrenLive (stopped_app name apps) (all_vacated (app_pids name apps) t)
  pub unloads_app : (name : List ℕ) (apps : List Application) (t : Table) →
      ChildrenLive apps t → ChildrenLive (unloaded_app name apps) t
  pub sets_specs : (specs : List AppSpec) (apps : List Application) (t : Table) →
      ChildrenLive apps t → ChildrenLive (specs_set specs apps) t
  pub puts_back : (former : FormerSpecs) (apps : List Application) (t : Table) →
      ChildrenLive apps t → ChildrenLive (put_back former apps) t
  pub renews : (apps after : List Application) (t : Table) → AreRenewed apps after → ChildrenLive apps t → ChildrenLive after t

-- Where a process ends with its job, where several leave, and where those who linger in the old code of a module are killed, the
-- child that each was runs no more, and each other child that runs goes on.
pub record EndsKeepChildren : Type 0 where
  pub exits : (reason : Term) (pid : ℕ) (acts : List Act) (apps : List Application) (t : Table) →
      ChildrenLive apps t → ChildrenLive (all_ended reason (pid ∷ []) apps) (exited pid acts t)
  pub leaves : (reason : Term) (pids : List ℕ) (apps : List Application) (t : Table) →
      ChildrenLive apps t → ChildrenLive (all_ended reason pids apps) (all_vacated pids t)
  pub spares : (name : List ℕ) (modules : Loaded Forms) (apps : List Application) (t : Table) →
      ChildrenLive apps t → ChildrenLive (all_ended killed (lingering name modules t) apps) (spared name modules t)
