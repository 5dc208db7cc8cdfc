-- What holds of starts and restarts.
use Rattle.std.specs.Prelude.{◌≡◌, ℕ, All, false, List, map}
use Rattle.app_table.specs.Applications.{Application, loaded as app_loaded}
use Rattle.code_server.specs.Modules.{Table as Loaded}
use Rattle.erl_ir.specs.Module.{Forms}
use Rattle.erl_semantics.specs.declared.instance.Instance.{Instance}
use Rattle.erl_term.specs.declared.term.Term.{Term}
use Rattle.process_store.specs.Table.{Table}
use Rattle.release_specs.specs.Specs.{spec_of}
use Rattle.release_boot.specs.Boot.{DoesNotStart, EachStarts, Restarts, BootsApp}
use Rattle.release_table.specs.declared.table.Release.{Release}

-- An application starts in one way, or doesn't for one reason, and never both.
pub record StartsHaveOneOutcome : Type 0 where
  pub starts : (code : List Instance) (name : List ℕ) (apps one other : List Application) (t after last : Table) →
      BootsApp code name apps t one after → BootsApp code name apps t other last → (one ≡ other) × (after ≡ last)
  pub fails : (code : List Instance) (name : List ℕ) (apps : List Application) (t : Table) (reason why : Term) →
      DoesNotStart code name apps t reason → DoesNotStart code name apps t why → reason ≡ why
  pub never_both : (code : List Instance) (name : List ℕ) (apps one : List Application) (t after : Table) (reason : Term) →
      BootsApp code name apps t one after → DoesNotStart code name apps t reason → ⊥

-- A restart has one outcome.
pub record RestartsHaveOneOutcome : Type 0 where
  pub each : (code : List Instance) (names : List (List ℕ)) (apps one other : List Application) (t after last : Table) →
      EachStarts code names apps t one after → EachStarts code names apps t other last → (one ≡ other) × (after ≡ last)
  pub whole : (r : Release) (modules one other : Loaded Forms) (t after last : Table) (apps others : List Application) →
      Restarts r modules t one after apps → Restarts r modules t other last others →
      (one ≡ other) × (after ≡ last) × (apps ≡ others)

-- Its applications are the release's, in order, and one that isn't started is as it was loaded, without children.

abbrev pub IsLoadedUnlessStarted : Application → Type 0
IsLoadedUnlessStarted a = a.is_started ≡ false → a ≡ app_loaded a.spec

pub record RestartsKeepApplications : Type 0 where
  pub specs : (r : Release) (modules after : Loaded Forms) (t last : Table) (apps : List Application) →
      Restarts r modules t after last apps → map (λ a. a.spec) apps ≡ map (spec_of r.apps) r.rel.apps
  pub unstarted : (r : Release) (modules after : Loaded Forms) (t last : Table) (apps : List Application) →
      Restarts r modules t after last apps → All IsLoadedUnlessStarted apps
