-- A function is applied by an upgrade (appup(4), apply): what it does to applications and processes, and what clients are
-- told; or why it fails. A term that is no atom names no application.
use Rattle.std.specs.Prelude.{◌≡◌, ℕ, List, [], Option, None, Some}
use Rattle.app_table.specs.Applications.{started}
use Rattle.app_table.specs.declared.child.Child.{Child}
use Rattle.erl_semantics.specs.declared.instance.Instance.{Instance}
use Rattle.erl_term.specs.Accessors.{atom_of}
use Rattle.erl_term.specs.Tree.{Tree, Trees}
use Rattle.erl_term.specs.declared.term.Term.{Term}
use Rattle.process_effects.specs.Ends.{all_vacated}
use Rattle.process_effects.specs.Kills.{downs_of_each}
use Rattle.process_effects.specs.declared.told.Reply.{Reply}
use Rattle.script_children.specs.Calls.{call_of, reason_of}
use Rattle.script_children.specs.Children.{Supervised}
use Rattle.script_children.specs.declared.calls.AppCall.{AppCall}
use Rattle.script_children.specs.declared.calls.AppCall.TheVariants.{Start, Stop, Unload}
use Rattle.sys_protocol.specs.Refusals.{RefusesStart, RunsStartModule, module_of, start_refusal}
use Rattle.sys_protocol.specs.Stopping.{app_pids, shutdown, stop_refusal, stopped_app, unload_refusal, unloaded_app}
use Rattle.sys_protocol.specs.declared.app_error.AppError.{AppError}
use Rattle.sys_protocol.specs.declared.app_error.AppError.TheVariants.{NotLoaded, NotStarted}
use Rattle.upgrade_calls.specs.Applying.{Applies, FailsToApply}

-- An application of a name starts, in this code, which is every module's current code; or it stops, or is unloaded.

pub record AppStarts (code : List Instance) (name : List ℕ) (s after : Supervised) (told : List Reply) : Type 0 where
  pub unrefused : start_refusal name s.apps ≡ None
  pub children : List Child
  pub runs : RunsStartModule code (module_of name s.apps) s.processes children after.processes told
  pub apps : after.apps ≡ started name children s.apps

pub record AppStops (name : List ℕ) (s after : Supervised) (told : List Reply) : Type 0 where
  pub unrefused : stop_refusal name s.apps ≡ None
  pub apps : after.apps ≡ stopped_app name s.apps
  pub processes : after.processes ≡ all_vacated (app_pids name s.apps) s.processes
  pub tells : told ≡ downs_of_each shutdown (app_pids name s.apps) s.processes

pub record AppUnloads (name : List ℕ) (s after : Supervised) (told : List Reply) : Type 0 where
  pub unrefused : unload_refusal name s.apps ≡ None
  pub apps : after.apps ≡ unloaded_app name s.apps
  pub processes : after.processes ≡ s.processes
  pub tells : told ≡ []

abbrev pub DoesAppCall : List Instance → AppCall → Option (List ℕ) → Supervised → Supervised → List Reply → Type 0
DoesAppCall code call None s after told = ⊥
DoesAppCall code Start (Some name) s after told = AppStarts code name s after told
DoesAppCall code Stop (Some name) s after told = AppStops name s after told
DoesAppCall code Unload (Some name) s after told = AppUnloads name s after told

-- Why it doesn't.
abbrev pub Refuses : AppError → List Instance → AppCall → Option (List ℕ) → Supervised → Type 0
Refuses e code Start None s = e ≡ NotLoaded
Refuses e code Stop None s = e ≡ NotStarted
Refuses e code Unload None s = e ≡ NotLoaded
Refuses e code Start (Some name) s = RefusesStart e code name s.apps s.processes
Refuses e code Stop (Some name) s = stop_refusal name s.apps ≡ Some e
Refuses e code Unload (Some name) s = unload_refusal name s.apps ≡ Some e

-- Any other function is evaluated: what it has asked for is done, in order.
abbrev pub DoesOther : List Instance → List ℕ → List ℕ → Trees → Supervised → Supervised → List Reply → Type 0
DoesOther code m f args s after told = Applies code m f args s.processes after.processes told × (after.apps ≡ s.apps)

-- The function is applied.

abbrev pub AppliedAs : Option (AppCall × Tree) → List Instance → List ℕ → List ℕ → Trees → Supervised → Supervised →
    List Reply → Type 0
AppliedAs None code m f args s after told = DoesOther code m f args s after told
AppliedAs (Some c) code m f args s after told = DoesAppCall code c.0 (atom_of c.1) s after told

abbrev pub Applied : List Instance → List ℕ → List ℕ → Trees → Supervised → Supervised → List Reply → Type 0
Applied code m f args s after told = AppliedAs (call_of m f args) code m f args s after told

-- Or it fails, for a reason.

abbrev pub NotAppliedAs : Option (AppCall × Tree) → List Instance → List ℕ → List ℕ → Trees → Supervised → Term → Type 0
NotAppliedAs None code m f args s reason = FailsToApply code m f args reason
NotAppliedAs (Some c) code m f args s reason =
    (e : AppError) × Refuses e code c.0 (atom_of c.1) s × (reason ≡ reason_of c.1 e)

abbrev pub NotApplied : List Instance → List ℕ → List ℕ → Trees → Supervised → Term → Type 0
NotApplied code m f args s reason = NotAppliedAs (call_of m f args) code m f args s reason
