-- Why a step of applications is refused (application(3); supervisor(3)).
use Rattle.std.specs.Prelude.{◌≡◌, ◌⊎◌, ℕ, true, false, if◌then◌else◌, List, [], Option, None, Some, option_and_then}
use Rattle.erl_semantics.specs.declared.instance.Instance.{Instance}
use Rattle.erl_term.specs.declared.term.Term.{Term}
use Rattle.sys_protocol.specs.AppStarts.{AppFails, AppStarts}
use Rattle.app_table.specs.Applications.{Application, app_of, child_of}
use Rattle.app_table.specs.Children.{is_due}
use Rattle.app_table.specs.declared.child.Child.{Child}
use Rattle.sys_protocol.specs.declared.app_error.AppError.{AppError}
use Rattle.sys_protocol.specs.declared.app_error.AppError.TheVariants.{NotLoaded, AlreadyStarted}
use Rattle.sys_protocol.specs.ChildFaults.{ChildFails}
use Rattle.otp_files.specs.declared.app.StartModule.{StartModule}
use Rattle.process_effects.specs.declared.told.Reply.{Reply}
use Rattle.process_store.specs.Pieces.{Piece, no_pieces}
use Rattle.process_store.specs.Table.{Table}
use Rattle.process_table.specs.Undo.{TakesBack, held}
use Rattle.process_table.specs.declared.undo.ProcessesUndo.{ProcessesUndo}
use Rattle.sys_protocol.specs.declared.error.SysError.{SysError}
use Rattle.sys_protocol.specs.declared.error.SysError.TheVariants.{StartFailed, NoChild, NotDue}

-- An application that is not loaded, or is started already, doesn't start, whatever its start would come to.

abbrev pub start_refusal_of : Option Application → Option AppError
start_refusal_of None = Some NotLoaded
start_refusal_of (Some a) = if a.is_started then Some AlreadyStarted else None

abbrev pub start_refusal : List ℕ → List Application → Option AppError
start_refusal name apps = start_refusal_of (app_of name apps)

-- its callback module, if it has one
abbrev pub module_of : List ℕ → List Application → Option StartModule
module_of name apps = option_and_then (λ a. a.spec.start) (app_of name apps)

-- What runs of an application that starts: nothing, where it has no callback module.
abbrev pub RunsStartModule : List Instance → Option StartModule → Table → List Child → Table → List Reply → Type 0
RunsStartModule code None t children after told = (children ≡ []) × (after ≡ t) × (told ≡ [])
RunsStartModule code (Some m) t children after told = AppStarts code m t children after told

-- why nothing of it runs
abbrev pub FailsToRun : AppError → List Instance → Option StartModule → Table → Type 0
FailsToRun e code None t = ⊥
FailsToRun e code (Some m) t = AppFails code m t e

-- what takes back what runs, if anything does
abbrev pub StartsBack : Option ProcessesUndo → Table → Table → Type 0
StartsBack None before after = after ≡ before
StartsBack (Some undo) before after = TakesBack undo before after

-- and the pieces of processes that it holds, by the processes after the start
abbrev pub held_of_start : Option ProcessesUndo → Table → ℕ → List Piece
held_of_start None t = no_pieces
held_of_start (Some undo) t = held undo t

-- Why a start is refused, in order.
abbrev pub RefusesStart : AppError → List Instance → List ℕ → List Application → Table → Type 0
RefusesStart e code name apps t =
    (start_refusal name apps ≡ Some e) ⊎ ((start_refusal name apps ≡ None) × FailsToRun e code (module_of name apps) t)

-- A child is there, and due; or why it isn't revived, whatever its start would come to.

abbrev pub IsDue : List ℕ → Term → List Application → Type 0
IsDue name id apps = (c : Child) × (child_of name id apps ≡ Some c) × (is_due c ≡ true)

abbrev pub IsNotDue : SysError → List ℕ → Term → List Application → Type 0
IsNotDue NoChild name id apps = child_of name id apps ≡ None
IsNotDue NotDue name id apps = (c : Child) × (child_of name id apps ≡ Some c) × (is_due c ≡ false)
IsNotDue (StartFailed failed) name id apps = ⊥

-- Why a child isn't revived, in order: there is none of this Id, it isn't due, or it fails to start.
abbrev pub RefusesRevive : SysError → List Instance → List ℕ → Term → List Application → Table → Type 0
RefusesRevive NoChild code name id apps t = IsNotDue NoChild name id apps
RefusesRevive NotDue code name id apps t = IsNotDue NotDue name id apps
RefusesRevive (StartFailed failed) code name id apps t =
    (c : Child) × (child_of name id apps ≡ Some c) × (is_due c ≡ true) × ChildFails failed code c.spec t
