-- What an upgrade's `code_change` does (appup(4), code_change; gen_server(3), code_change/3; supervisor(3)): for each
-- module in turn the suspended processes of its children change their states, and then its supervisors specify their
-- children anew.
use Rattle.std.specs.Prelude.{◌≡◌, ◌⊎◌, ℕ, List, [], ◌∷◌, ◌++◌, replicate}
use Rattle.app_table.specs.Applications.{Application}
use Rattle.code_changes.specs.Renewing.{AllRenew, FirstBadInit}
use Rattle.code_changes.specs.declared.changing.CodeChangeError.{CodeChangeError}
use Rattle.code_changes.specs.declared.changing.CodeChangeError.TheVariants.{Unchanged, BadInit, CounterEnd}
use Rattle.erl_semantics.specs.declared.instance.Instance.{Instance}
use Rattle.low_instructions.specs.declared.modules.Direction.{Direction}
use Rattle.low_instructions.specs.declared.modules.ModuleChange.{ModuleChange}
use Rattle.process_effects.specs.declared.told.Reply.{Reply}
use Rattle.process_store.specs.Table.{Table}
use Rattle.script_state.specs.declared.noted.NotedVersion.{NotedVersion}
use Rattle.suspensions.specs.Suspending.{changes_for}
use Rattle.upgrade_calls.specs.Changing.{AllChange, AreCounted, FirstUnchanged}
use Rattle.upgrade_calls.specs.Evaluated.{Evaluated, processes_after, told_after}
use Rattle.upgrade_calls.specs.declared.changing.CodeChangeCall.{CodeChangeCall}

-- What is known of the script: its direction; what is noted of the modules whose object code it has read; and the processes
-- that it has suspended, in order.
pub record Script : Type 0 where
  pub direction : Direction
  pub versions : List NotedVersion
  pub suspended : List ℕ

abbrev pub script : Direction → List NotedVersion → List ℕ → Script
script direction versions suspended = record { direction = direction; versions = versions; suspended = suspended }

-- The applications and the processes once all is done, what clients are told, and the processes that have changed, in order.
pub record Upgraded : Type 0 where
  pub apps : List Application
  pub processes : Table
  pub told : List Reply
  pub changes : List CodeChangeCall

-- One module: the processes of its children change, by their present specifications; then its supervisors.

abbrev pub changes_in : Script → ModuleChange → List Application → Table → List CodeChangeCall
changes_in s m apps t = changes_for s.direction s.versions s.suspended apps t m

pub record Upgrades (code : List Instance) (s : Script) (m : ModuleChange) (apps : List Application) (t : Table) (u : Upgraded)
    : Type 0 where
  pub between : Table
  pub said : List Reply
  pub rest : List Reply
  pub change : AllChange code (changes_in s m apps t) t between said
  pub renew : AllRenew code m.name apps between u.apps u.processes rest
  pub tells : u.told ≡ said ++ rest
  pub changes : u.changes ≡ changes_in s m apps t

-- All modules, in turn.

abbrev pub behind : Upgraded → Upgraded → Upgraded
behind u v = record v { told = u.told ++ v.told; changes = u.changes ++ v.changes }

abbrev pub AllUpgrade : List Instance → Script → List ModuleChange → List Application → Table → Upgraded → Type 0
AllUpgrade code s [] apps t u = u ≡ record { apps = apps; processes = t; told = []; changes = [] }
AllUpgrade code s (m ∷ ms) apps t u = (one all : Upgraded) × Upgrades code s m apps t one ×
    AllUpgrade code s ms one.apps one.processes all × (u ≡ behind one all)

-- Why they don't, in order: a process of the module fails to change, or a supervisor of it gives no supervision; or those
-- of a later module fail.

abbrev pub Stops : CodeChangeError → List Instance → Script → ModuleChange → List Application → Table → Type 0
Stops (Unchanged failed) code s m apps t = FirstUnchanged code (changes_in s m apps t) t failed
Stops (BadInit reason) code s m apps t = (between : Table) × (said : List Reply) ×
    AllChange code (changes_in s m apps t) t between said × FirstBadInit code m.name apps reason
Stops CounterEnd code s m apps t = ⊥

abbrev pub FirstStops : CodeChangeError → List Instance → Script → List ModuleChange → List Application → Table → Type 0
FirstStops e code s [] apps t = ⊥
FirstStops e code s (m ∷ ms) apps t = Stops e code s m apps t ⊎
    ((one : Upgraded) × Upgrades code s m apps t one × FirstStops e code s ms one.apps one.processes)

-- Why a `code_change` is refused: one of them stops; or all would be done, but a turn can't be counted.
abbrev pub RefusesCodeChange : CodeChangeError → List Instance → Script → List ModuleChange → List Application → Table → Type 0
RefusesCodeChange (Unchanged failed) code s ms apps t = FirstStops (Unchanged failed) code s ms apps t
RefusesCodeChange (BadInit reason) code s ms apps t = FirstStops (BadInit reason) code s ms apps t
RefusesCodeChange CounterEnd code s ms apps t =
    (u : Upgraded) × AllUpgrade code s ms apps t u × (AreCounted u.changes u.processes → ⊥)

-- What evaluating comes to, of all that was evaluated before: what is done, told and changed behind that.
pub record Comes (code : List Instance) (t : Table) (before after : Evaluated) (u : Upgraded) : Type 0 where
  pub processes : processes_after code after t ≡ u.processes
  pub tells : told_after code after t ≡ told_after code before t ++ u.told
  pub changes : after.changes ≡ before.changes ++ u.changes

-- It is made, and clients are told so, in `n` equal values.
pub record IsMade (code : List Instance) (s : Script) (ms : List ModuleChange) (before : List Application) (t : Table) (n : ℕ)
    (now : List Application) (after : Table) (told : List (List Reply)) : Type 0 where
  pub upgraded : Upgraded
  pub upgrades : AllUpgrade code s ms before t upgraded
  pub counted : AreCounted upgraded.changes upgraded.processes
  pub apps : now ≡ upgraded.apps
  pub processes : after ≡ upgraded.processes
  pub tells : told ≡ replicate n upgraded.told
