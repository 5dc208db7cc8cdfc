-- How findings are added to a list: at its end, each once. This is defined for the parts of an upgrade, as `Findings` does for
-- the whole.
use Rattle.std.specs.Prelude.{◌≡◌, ◌≢◌, ◌↔◌, ◌⊎◌, ℕ, ◌+◌, true, false}
use Rattle.std.specs.Prelude.{List, codes, Contains, Option, None, Some, slice_get, take, drop}
use Rattle.erl_ir.specs.Module.{Forms, exported_of}
use Rattle.low_instructions.specs.declared.low.Low.{Low}
use Rattle.low_instructions.specs.declared.low.Low.TheVariants.{LoadObjectCode, PointOfNoReturn, Load, Remove, Purge, Suspend}
use Rattle.low_instructions.specs.declared.low.Low.TheVariants.{Resume, CodeChange, Stop, Start, Apply}
use Rattle.low_instructions.specs.declared.modules.ModuleChange.{ModuleChange}
use Rattle.release_table.specs.declared.table.AppFiles.{AppFiles}
use Rattle.release_table.specs.declared.table.Release.{Release}
use Rattle.upgrade_review.specs.Codes.{code_behind, code_in, is_callback_module, is_started_with}
use Rattle.upgrade_review.specs.Findings.{AreDifferent}
use Rattle.upgrade_review.specs.Scripts.{is_loaded, is_removed, is_started, is_stopped, started_by, stopped_by}
use Rattle.upgrade_review.specs.declared.finding.Finding.{Finding}
use Rattle.upgrade_review.specs.declared.finding.Finding.TheVariants.{LoadedAgain, NoCodeChange, NotLoaded, NotUndone}
use Rattle.upgrade_review.specs.declared.finding.Finding.TheVariants.{Restarts, Starts, Stops}

-- Exactly the findings of a kind are added to those that were there, and none of them is there twice because of it.
pub record Adds {F : Type 0} (P : F → Type 0) (old new : List F) : Type 0 where
  pub all : (f : F) → Contains new f ↔ (Contains old f ⊎ P f)
  pub once : AreDifferent old → AreDifferent new

-- A finding about an item of a list, at its index.
abbrev pub FromEach : {X F : Type 0} → (ℕ → X → F → Type 0) → List X → F → Type 0
FromEach {X} {F} R xs f = (i : ℕ) × (x : X) × (slice_get xs i ≡ Some x) × R i x f

-- A module of an application: the release that is left lacks it or has other code of it, and the script doesn't load it.
abbrev pub IsNotLoaded : Release → List Low → List ℕ → Forms → Finding → Type 0
IsNotLoaded left script app c f =
    (code_in c.name left ≢ Some c) × (is_loaded c.name script ≡ false) × (f ≡ NotLoaded app c.name)

-- The same of each module of an application, and of each application of a release.

abbrev pub IsNotLoadedOf : Release → List Low → AppFiles → Finding → Type 0
IsNotLoadedOf left script files f = FromEach (λ i c. IsNotLoaded left script files.spec.name c) files.modules f

abbrev pub IsNotLoadedIn : Release → Release → List Low → Finding → Type 0
IsNotLoadedIn left installed script f = FromEach (λ i files. IsNotLoadedOf left script files) installed.apps f

-- Both releases have a module, with the same code.
abbrev pub IsSameInBoth : List ℕ → Release → Release → Type 0
IsSameInBoth m left installed = (c : Forms) × (code_in m left ≡ Some c) × (code_in m installed ≡ Some c)

-- A module that is loaded at an index is the same in both releases, and no application that has it is started.
abbrev pub IsLoadedAgain : Release → Release → List Low → ℕ → List ℕ → Finding → Type 0
IsLoadedAgain left installed script i m f =
    IsSameInBoth m left installed × (is_started_with m installed script ≡ false) × (f ≡ LoadedAgain i m)

-- The code of a module exports no `code_change/3`, if it has any.
abbrev pub LacksCodeChange : Option Forms → Type 0
LacksCodeChange code = (c : Forms) × (code ≡ Some c) × (exported_of (codes "code_change") 3 c ≡ None)

-- The processes of a module are to change their state at an index, and it lacks the function for it; the same for each of some
-- modules.

abbrev pub IsUnchanged : Release → Release → List Low → ℕ → List ℕ → Finding → Type 0
IsUnchanged left installed script i m f = (is_callback_module m installed ≡ false) ×
    LacksCodeChange (code_behind m (take i script) left installed) × (f ≡ NoCodeChange i m)

abbrev pub IsUnchangedOf : Release → Release → List Low → ℕ → List ModuleChange → Finding → Type 0
IsUnchangedOf left installed script i changes f =
    FromEach (λ j change. IsUnchanged left installed script i change.name) changes f

-- An application is started at an index, and was stopped before or not.
abbrev pub IsStart : List Low → ℕ → List ℕ → Finding → Type 0
IsStart script i app f = ((is_stopped app (take i script) ≡ false) × (f ≡ Starts i app)) ⊎
    ((is_stopped app (take i script) ≡ true) × (f ≡ Restarts i app))

-- An application is stopped at an index, and no instruction after it starts it.
abbrev pub IsStop : List Low → ℕ → List ℕ → Finding → Type 0
IsStop script i app f = (is_started app (drop (i + 1) script) ≡ false) × (f ≡ Stops i app)

-- A finding of a kind about an application, if there is one.
abbrev pub OfApp : (List ℕ → Finding → Type 0) → Option (List ℕ) → Finding → Type 0
OfApp R app f = (name : List ℕ) × (app ≡ Some name) × R name f

-- A finding about the instruction at an index.
abbrev pub IsFoundAt : Release → Release → List Low → ℕ → Low → Finding → Type 0
IsFoundAt left installed script i (LoadObjectCode application version modules) f = ⊥
IsFoundAt left installed script i PointOfNoReturn f = ⊥
IsFoundAt left installed script i (Load name pre post) f = IsLoadedAgain left installed script i name f
IsFoundAt left installed script i (Remove name pre post) f = ⊥
IsFoundAt left installed script i (Purge modules) f = ⊥
IsFoundAt left installed script i (Suspend modules) f = ⊥
IsFoundAt left installed script i (Resume modules) f = ⊥
IsFoundAt left installed script i (CodeChange direction changes) f = IsUnchangedOf left installed script i changes f
IsFoundAt left installed script i (Stop modules) f = ⊥
IsFoundAt left installed script i (Start modules) f = ⊥
IsFoundAt left installed script i (Apply name function arguments) f =
    OfApp (IsStart script i) (started_by (Apply name function arguments)) f ⊎
    OfApp (IsStop script i) (stopped_by (Apply name function arguments)) f

-- A finding about an instruction of a script.
abbrev pub IsFoundIn : Release → Release → List Low → Finding → Type 0
IsFoundIn left installed script f = FromEach (IsFoundAt left installed script) script f

-- A module that is loaded at an index is neither loaded nor removed on the way down.
abbrev pub IsNotUndone : List Low → ℕ → List ℕ → Finding → Type 0
IsNotUndone down i m f = (is_loaded m down ≡ false) × (is_removed m down ≡ false) × (f ≡ NotUndone i m)

-- A finding about the instruction at an index, on the way down.
abbrev pub IsNotUndoneAt : List Low → ℕ → Low → Finding → Type 0
IsNotUndoneAt down i (LoadObjectCode application version modules) f = ⊥
IsNotUndoneAt down i PointOfNoReturn f = ⊥
IsNotUndoneAt down i (Load name pre post) f = IsNotUndone down i name f
IsNotUndoneAt down i (Remove name pre post) f = ⊥
IsNotUndoneAt down i (Purge modules) f = ⊥
IsNotUndoneAt down i (Suspend modules) f = ⊥
IsNotUndoneAt down i (Resume modules) f = ⊥
IsNotUndoneAt down i (CodeChange direction changes) f = ⊥
IsNotUndoneAt down i (Stop modules) f = ⊥
IsNotUndoneAt down i (Start modules) f = ⊥
IsNotUndoneAt down i (Apply name function arguments) f = ⊥
