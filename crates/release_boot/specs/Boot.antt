-- A release boots: the code of all its applications is loaded first, and then they start, in order (application(3); rel(4)).
use Rattle.std.specs.Prelude.{◌≡◌, ◌⊎◌, ℕ, Bool, true, false, List, [], ◌∷◌, codes, filter, map, None}
use Rattle.std.specs.List.{flat_map}
use Rattle.code_loading.specs.Current.{current_code}
use Rattle.code_server.specs.Modules.{Table as Loaded, empty_table as no_modules, loaded, purged}
use Rattle.erl_ir.specs.Module.{Forms}
use Rattle.erl_semantics.specs.declared.instance.Instance.{Instance}
use Rattle.erl_term.specs.Term.{tree}
use Rattle.erl_term.specs.Tree.{atom, none, more}
use Rattle.erl_term.specs.declared.term.Term.{Term}
use Rattle.erl_term.specs.declared.term.Term.TheVariants as term
use Rattle.app_table.specs.declared.child.Child.{Child}
use Rattle.otp_files.specs.declared.applications.RelApp.{RelApp}
use Rattle.process_effects.specs.declared.told.Reply.{Reply}
use Rattle.process_store.specs.Table.{Table, empty_table as no_processes}
use Rattle.release_table.specs.declared.table.AppFiles.{AppFiles}
use Rattle.release_table.specs.declared.table.Release.{Release}
use Rattle.release_specs.specs.Specs.{specs_of}
use Rattle.release_words.specs.declared.start_type.StartType.{StartType}
use Rattle.release_words.specs.declared.start_type.StartType.TheVariants as start
use Rattle.app_table.specs.Applications.{Application, loaded as app_loaded, started}
use Rattle.sys_protocol.specs.Refusals.{RefusesStart, RunsStartModule, module_of, start_refusal}
use Rattle.sys_protocol.specs.declared.app_error.AppError.{AppError}
use Rattle.sys_protocol.specs.declared.app_error.AppError.TheVariants as app_error
use Rattle.sys_protocol.specs.declared.app_error.AppError.TheVariants.{NotLoaded, AlreadyStarted, BadInit, StartFailed}
use Rattle.release_boot.specs.declared.error.BootError.{BootError}
use Rattle.release_boot.specs.declared.error.BootError.TheVariants.{NotStarted, Memory}

-- The modules of all applications, in order, loaded one after the other.

abbrev pub all_loaded : List Forms → Loaded Forms → Loaded Forms
all_loaded [] t = t
all_loaded (m ∷ ms) t = all_loaded ms (loaded m.name m None (purged m.name t))

abbrev pub modules_of : List AppFiles → List Forms
modules_of files = flat_map (λ f. f.modules) files

-- Applications of these types are started, the others only loaded.

abbrev pub is_started_as : StartType → Bool
is_started_as start.Permanent = true
is_started_as start.Transient = true
is_started_as start.Temporary = true
is_started_as start.Load = false
is_started_as start.None = false

abbrev pub to_start : List RelApp → List (List ℕ)
to_start apps = map (λ app. app.name) (filter (λ app. is_started_as app.start_type) apps)

-- One starts: it has children, which run. What that would tell clients is told nobody: where a node boots or restarts no
-- call is open.
pub record BootsApp (code : List Instance) (name : List ℕ) (apps : List Application) (t : Table)
    (apps_after : List Application) (after : Table) : Type 0 where
  pub unrefused : start_refusal name apps ≡ None
  pub children : List Child
  pub told : List Reply
  pub runs : RunsStartModule code (module_of name apps) t children after told
  pub starts : apps_after ≡ started name children apps

-- All start, in order.
abbrev pub AllStart : List Instance → List (List ℕ) → List Application → Table → List Application → Table → Type 0
AllStart code [] apps t apps_after after = (apps_after ≡ apps) × (after ≡ t)
AllStart code (name ∷ names) apps t apps_after after =
    (apps_next : List Application) × (next : Table) × BootsApp code name apps t apps_next next ×
    AllStart code names apps_next next apps_after after

-- Why one doesn't: it is not loaded, or started already, its `init` gives no supervision, or a child fails to start.

abbrev pub start_failed : Term → Term → Term
start_failed child reason = term.Tuple (more (atom (codes "start_failed")) (more (tree child) (more (tree reason) none)))

abbrev pub of_word : List ℕ → List ℕ → Term
of_word word name = term.Tuple (more (atom word) (more (atom name) none))

abbrev pub reason_of : List ℕ → AppError → Term
reason_of name NotLoaded = of_word (codes "not_loaded") name
reason_of name AlreadyStarted = of_word (codes "already_started") name
reason_of name (BadInit reason) = reason
reason_of name (StartFailed failed) = start_failed failed.child failed.reason
reason_of name app_error.NotStarted = of_word (codes "not_started") name
reason_of name app_error.Running = of_word (codes "running") name

abbrev pub DoesNotStart : List Instance → List ℕ → List Application → Table → Term → Type 0
DoesNotStart code name apps t reason = (e : AppError) × RefusesStart e code name apps t × (reason ≡ reason_of name e)

-- The first that doesn't, and why.
abbrev pub FirstFails : List Instance → List (List ℕ) → List Application → Table → List ℕ → Term → Type 0
FirstFails code [] apps t name reason = ⊥
FirstFails code (n ∷ names) apps t name reason = ((name ≡ n) × DoesNotStart code n apps t reason) ⊎
    ((apps_next : List Application) × (next : Table) × BootsApp code n apps t apps_next next ×
    FirstFails code names apps_next next name reason)

-- What an error tells: of one, and of several. Lack of memory tells nothing.

abbrev pub FailsFor : BootError → List Instance → List ℕ → List Application → Table → Type 0
FailsFor (NotStarted app reason) code name apps t = (app ≡ name) × DoesNotStart code name apps t reason
FailsFor Memory code name apps t = Unit {0}

abbrev pub Fails : BootError → List Instance → List (List ℕ) → List Application → Table → Type 0
Fails (NotStarted app reason) code names apps t = FirstFails code names apps t app reason
Fails Memory code names apps t = Unit {0}

-- A restart goes on where an application doesn't start: that one is passed over, for whatever reason. The applications and
-- the processes are as they were, so that it has used no pid, and the next goes on in them.

abbrev pub IsPassedOver : List Instance → List ℕ → List Application → Table → List Application → Table → Type 0
IsPassedOver code name apps t apps_after after =
    (reason : Term) × DoesNotStart code name apps t reason × (apps_after ≡ apps) × (after ≡ t)

abbrev pub StartsOrIsPassedOver : List Instance → List ℕ → List Application → Table → List Application → Table → Type 0
StartsOrIsPassedOver code name apps t apps_after after =
    BootsApp code name apps t apps_after after ⊎ IsPassedOver code name apps t apps_after after

-- Each starts or is passed over, in order.
abbrev pub EachStarts : List Instance → List (List ℕ) → List Application → Table → List Application → Table → Type 0
EachStarts code [] apps t apps_after after = (apps_after ≡ apps) × (after ≡ t)
EachStarts code (name ∷ names) apps t apps_after after = (apps_next : List Application) × (next : Table) ×
    StartsOrIsPassedOver code name apps t apps_next next × EachStarts code names apps_next next apps_after after

-- The release whole: its modules and its applications, loaded, before any application starts. A node boots where nothing is
-- there, and restarts where no module is loaded and nobody lives, but serials and pids were given: those go on.

abbrev pub boot_modules : Release → Loaded Forms → Loaded Forms
boot_modules r modules = all_loaded (modules_of r.apps) modules

abbrev pub boot_apps : Release → List Application
boot_apps r = map app_loaded (specs_of r)

-- It boots behind the modules and among the processes that are there: the modules, the processes and the applications after it.
abbrev pub BootsIn : Release → Loaded Forms → Table → Loaded Forms → Table → List Application → Type 0
BootsIn r modules t modules_after after apps = (modules_after ≡ boot_modules r modules) ×
    AllStart (current_code (boot_modules r modules)) (to_start r.rel.apps) (boot_apps r) t apps after

-- or it doesn't
abbrev pub BootFailsIn : BootError → Release → Loaded Forms → Table → Type 0
BootFailsIn e r modules t = Fails e (current_code (boot_modules r modules)) (to_start r.rel.apps) (boot_apps r) t

-- It boots where nothing is there, or it doesn't.

abbrev pub Boots : Release → Loaded Forms → Table → List Application → Type 0
Boots r modules t apps = BootsIn r no_modules no_processes modules t apps

abbrev pub BootFails : BootError → Release → Type 0
BootFails e r = BootFailsIn e r no_modules no_processes

-- It restarts behind the modules and among the processes that are there, whichever of its applications start.
abbrev pub Restarts : Release → Loaded Forms → Table → Loaded Forms → Table → List Application → Type 0
Restarts r modules t modules_after after apps = (modules_after ≡ boot_modules r modules) ×
    EachStarts (current_code (boot_modules r modules)) (to_start r.rel.apps) (boot_apps r) t apps after
