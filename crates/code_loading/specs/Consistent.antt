-- What holds of modules and of the processes that use them (Erlang Reference Manual, Compilation and Code Loading).
use Rattle.std.specs.Prelude.{◌≡◌, ℕ, List, ◌∷◌, Option, None, Some, IfSome}
use Rattle.erl_semantics.specs.declared.acts.Place.{Place}
use Rattle.erl_semantics.specs.declared.acts.Place.TheVariants.{Server, Loop}
use Rattle.erl_ir.specs.Module.{Forms}
use Rattle.erl_semantics.specs.declared.instance.Instance.{Instance}
use Rattle.code_server.specs.Modules.{IsModuleTable, Table as Loaded}
use Rattle.process.specs.Process.{ProcessState}
use Rattle.process.specs.declared.activity.Activity.{Activity}
use Rattle.process.specs.declared.activity.Activity.TheVariants.{Idle, Suspended, Runs}
use Rattle.process_effects.specs.Ends.{AllStand}
use Rattle.process_store.specs.Table.{Table, living}

-- A process that rests in a loop function uses the instance that its place names, and a gen_server process none; and a
-- process that runs a job of a loop function has entered the instance in which it rested.

abbrev pub IsNamedBy : List ℕ → ℕ → Option Instance → Type 0
IsNamedBy name serial None = ⊥
IsNamedBy name serial (Some i) = (i.name ≡ name) × (i.serial ≡ serial)

abbrev pub RestsAt : Place → Option Instance → Type 0
RestsAt (Server m state) rests = rests ≡ None
RestsAt (Loop m serial f args) rests = IsNamedBy m serial rests

abbrev pub EntersAt : Option Instance → List Instance → Type 0
EntersAt None code = Unit {0}
EntersAt (Some i) code = (reached : List Instance) × (code ≡ i ∷ reached)

abbrev pub EntersBy : Option Instance → Activity → Type 0
EntersBy rests Idle = Unit {0}
EntersBy rests Suspended = Unit {0}
EntersBy rests (Runs r) = EntersAt rests r.code

abbrev pub Enters : ProcessState → Type 0
Enters p = RestsAt p.place p.rests_in × EntersBy p.rests_in p.activity

-- Modules differ in name, each has one or two instances, and the serials of those differ; each instance that a process uses
-- is its module's current or old code.
pub record IsConsistent (modules : Loaded Forms) (t : Table) : Type 0 where
  pub sound : IsModuleTable modules
  pub stand : AllStand modules t
  pub enter : (pid : ℕ) → IfSome (living pid t) (λ l. Enters l.process)
