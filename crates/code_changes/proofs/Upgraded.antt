-- A `code_change` goes from module to module.
use Rattle.std.proofs.Common.{◌≡◌, inl, inr, List, [], ◌∷◌, ◌++◌, refl, sym, ap, subst, ◌∙◌}
use Rattle.std.proofs.lemmas.List.{append-nil, append_assoc}
use Rattle.app_table.specs.Applications.{Application}
use Rattle.code_changes.specs.Changing.{AllUpgrade, Comes, FirstStops, RefusesCodeChange, Script, Stops, Upgraded, Upgrades, behind}
use Rattle.code_changes.specs.declared.changing.CodeChangeError.{CodeChangeError}
use Rattle.code_changes.specs.declared.changing.CodeChangeError.TheVariants.{Unchanged, BadInit, CounterEnd}
use Rattle.erl_semantics.specs.declared.instance.Instance.{Instance}
use Rattle.low_instructions.specs.declared.modules.ModuleChange.{ModuleChange}
use Rattle.process_effects.specs.declared.told.Reply.{Reply}
use Rattle.process_store.specs.Table.{Table}
use Rattle.upgrade_calls.specs.Evaluated.{Evaluated, nothing_evaluated, processes_after, told_after}
use Rattle.upgrade_calls.specs.declared.changing.CodeChangeCall.{CodeChangeCall}
use Rattle.values.specs.Failure.{Fails}
use Rattle.values.specs.declared.failure.Failure.{Failure}
use Rattle.values.specs.declared.failure.Failure.TheVariants.{Refused, Memory}

-- what was told and changed so far, and what comes then
abbrev with_front : List Reply → List CodeChangeCall → Upgraded → Upgraded
with_front told changes u = record u { told = told ++ u.told; changes = changes ++ u.changes }

-- How far it has come: what comes of the modules that are left comes, behind what was evaluated so far, of all.
pub record Reached (code : List Instance) (s : Script) (t : Table) (ms : List ModuleChange) (apps : List Application)
    (rest : List ModuleChange) (now : List Application) (e : Evaluated) : Type 0 where
  pub all : (u : Upgraded) → AllUpgrade code s rest now (processes_after code e t) u →
      AllUpgrade code s ms apps t (with_front (told_after code e t) e.changes u)
  pub stops : (x : CodeChangeError) → FirstStops x code s rest now (processes_after code e t) → FirstStops x code s ms apps t

pub none_reached : (code : List Instance) (s : Script) (t : Table) (ms : List ModuleChange) (apps : List Application) →
    Reached code s t ms apps ms apps nothing_evaluated
none_reached code s t ms apps = record { all = λ u x. x; stops = λ x y. y }

pub one_reached : (code : List Instance) (s : Script) (t : Table) (ms : List ModuleChange) (apps : List Application) (m : ModuleChange) →
    (rest left : List ModuleChange) (now after : List Application) (e f : Evaluated) (one : Upgraded) → left ≡ m ∷ rest →
    Reached code s t ms apps left now e → Upgrades code s m now (processes_after code e t) one → after ≡ one.apps →
    Comes code t e f one → Reached code s t ms apps rest after f
one_reached code s t ms apps m rest left now after e f one next reached up lists comes = record {
  all = λ u x.
      let there : AllUpgrade code s rest one.apps one.processes u =
      subst (λ (p : Table). AllUpgrade code s rest one.apps p u) comes.processes
      (subst (λ (xs : List Application). AllUpgrade code s rest xs (processes_after code f t) u) lists x) in
      let here : AllUpgrade code s (m ∷ rest) now (processes_after code e t) (behind one u) = (one, u, up, there, refl) in
      let more = reached.all (behind one u) (subst (λ (xs : List ModuleChange). AllUpgrade code s xs now (processes_after code e t) (behind one u)) (sym next) here) in
      let told : told_after code e t ++ (one.told ++ u.told) ≡ told_after code f t ++ u.told =
      sym (append_assoc (told_after code e t) one.told u.told) ∙ ap (λ (r : List Reply). r ++ u.told) (sym comes.tells) in
      let changes : e.changes ++ (one.changes ++ u.changes) ≡ f.changes ++ u.changes =
      sym (append_assoc e.changes one.changes u.changes) ∙ ap (λ (cs : List CodeChangeCall). cs ++ u.changes) (sym comes.changes) in
      subst (AllUpgrade code s ms apps t) (λ i. record u { told = told i; changes = changes i }) more;
  stops = λ x y.
      let there : FirstStops x code s rest one.apps one.processes =
      subst (λ (p : Table). FirstStops x code s rest one.apps p) comes.processes
      (subst (λ (xs : List Application). FirstStops x code s rest xs (processes_after code f t)) lists y) in
      reached.stops x (subst (λ (xs : List ModuleChange). FirstStops x code s xs now (processes_after code e t)) (sym next) (inr (one, up, there)));
}

-- all that was evaluated is what comes
pub all_reached : (code : List Instance) (s : Script) (t : Table) (ms : List ModuleChange) (apps : List Application) →
    (rest : List ModuleChange) (now : List Application) (e : Evaluated) → rest ≡ [] → Reached code s t ms apps rest now e →
    (u : Upgraded) × AllUpgrade code s ms apps t u × (now ≡ u.apps) × Comes code t nothing_evaluated e u
all_reached code s t ms apps rest now e none reached =
    let here = processes_after code e t in
    let last : Upgraded = record { apps = now; processes = here; told = []; changes = [] } in
    let all = reached.all last (subst (λ (xs : List ModuleChange). AllUpgrade code s xs now here last) (sym none) refl) in
    let u = with_front (told_after code e t) e.changes last in
    (u, all, refl, record { processes = refl; tells = sym (append-nil (told_after code e t)); changes = sym (append-nil e.changes) })

-- the first module that stops
pub first_stops : (x : Failure CodeChangeError) (code : List Instance) (s : Script) (t : Table) (ms : List ModuleChange) (apps : List Application) →
    (m : ModuleChange) (rest left : List ModuleChange) (now : List Application) (e : Evaluated) → left ≡ m ∷ rest →
    Reached code s t ms apps left now e →
    Fails (λ (y : CodeChangeError). Stops y code s m now (processes_after code e t)) (Unit {0}) x →
    Fails (λ (y : CodeChangeError). FirstStops y code s ms apps t) (Unit {0}) x
first_stops (Refused y) code s t ms apps m rest left now e next reached stops =
    reached.stops y (subst (λ (xs : List ModuleChange). FirstStops y code s xs now (processes_after code e t)) (sym next) (inl stops))
first_stops Memory code s t ms apps m rest left now e next reached stops = tt

-- what stops it is why it is refused

never_ends : (code : List Instance) (s : Script) (ms : List ModuleChange) (apps : List Application) (t : Table) → FirstStops CounterEnd code s ms apps t → ⊥
never_ends code s [] apps t stops = stops
never_ends code s (m ∷ ms) apps t (inl here) = here
never_ends code s (m ∷ ms) apps t (inr (one, up, later)) = never_ends code s ms one.apps one.processes later

pub refused_by : (x : Failure CodeChangeError) (code : List Instance) (s : Script) (ms : List ModuleChange) (apps : List Application) (t : Table) →
    Fails (λ (y : CodeChangeError). FirstStops y code s ms apps t) (Unit {0}) x →
    Fails (λ (y : CodeChangeError). RefusesCodeChange y code s ms apps t) (Unit {0}) x
refused_by (Refused (Unchanged failed)) code s ms apps t stops = stops
refused_by (Refused (BadInit reason)) code s ms apps t stops = stops
refused_by (Refused CounterEnd) code s ms apps t stops = absurd (never_ends code s ms apps t stops)
refused_by Memory code s ms apps t stops = tt
