-- What is found of a release's files that are looked at in order.
use Rattle.std.specs.Prelude.{◌≡◌, ◌⊎◌, ◌↔◌, ℕ, List, [], ◌∷◌, ◌++◌, map, All, Any, Contains, Option, string_bytes}
use Rattle.erl_ir.specs.Module.{Forms}
use Rattle.erl_term.specs.declared.term.Term.{Term}
use Rattle.instructions.specs.declared.instruction.Instruction.{Instruction}
use Rattle.low_instructions.specs.declared.low.Low.{Low}
use Rattle.otp_files.specs.declared.app.AppSpec.{AppSpec}
use Rattle.otp_files.specs.declared.applications.RelApp.{RelApp}
use Rattle.otp_files.specs.declared.upgrade.Upgrades.{Upgrades}
use Rattle.release_files.specs.declared.fault.FileFault.{FileFault}
use Rattle.release_files.specs.declared.fault.ReleaseFault.{ReleaseFault}
use Rattle.release_files.specs.AllFaults.{AreListed, AreSomeOf, IsFaultBeside, IsKnown, Source, SourceIsWrong, fault_paths}
use Rattle.release_files.specs.AllFaults.{paths_beside, sources_of_app, sources_of_apps}
use Rattle.release_files.specs.Faults.{AppupFault, RelupFault, SourceFault, SpecFault}
use Rattle.release_files.specs.Files.{Contents}
use Rattle.release_files.specs.Paths.{source_path}
use Rattle.release_files.specs.Releases.{IsAppupOf, IsModuleOf, IsRelupOf, IsSpecOf}

-- one of the faults that are found is of this kind
abbrev pub HasFault : List ReleaseFault → (List ℕ → FileFault → Type 0) → Type 0
HasFault found IsWrong = Any (λ f. IsWrong (string_bytes f.path) f.fault) found

-- one fault more
pub record FindsFault (IsWrong : List ℕ → FileFault → Type 0) (old new : List ReleaseFault) : Type 0 where
  pub more : ReleaseFault
  pub wrong : IsWrong (string_bytes more.path) more.fault
  pub is : new ≡ old ++ more ∷ []

-- none where a file is fine, or its fault
pub data Finds (Fine : Type 0) (IsWrong : List ℕ → FileFault → Type 0) (old new : List ReleaseFault) : Type 0 where
  finds_none : Fine → new ≡ old → Finds Fine IsWrong old new
  finds_fault : FindsFault IsWrong old new → Finds Fine IsWrong old new

abbrev pub HasRelup : Contents → List ℕ → Type 0
HasRelup files vsn = (relup : Upgrades Term Low) × IsRelupOf files vsn relup

abbrev pub HasSpec : Contents → RelApp → Type 0
HasSpec files app = (spec : AppSpec) × IsSpecOf files app spec

abbrev pub HasAppup : Contents → RelApp → Type 0
HasAppup files app = (appup : Option (Upgrades (Unit {0}) Instruction)) × IsAppupOf files app appup

-- a module whose name is new behind these sources
pub record IsNewModule (files : Contents) (front : List Source) (app : RelApp) (name : List ℕ) : Type 0 where
  pub forms : Forms
  pub read : IsModuleOf files app name forms
  pub is_new : IsKnown files front name → ⊥

-- a source, by the names of modules that were read before it and up to it
pub data FindsSource (files : Contents) (app : RelApp) (name : List ℕ) (seen after : List (List ℕ))
    (old new : List ReleaseFault) : Type 0 where
  finds_module : (m : Forms) → IsModuleOf files app name m → (Contains seen name → ⊥) → after ≡ seen ++ name ∷ [] →
      new ≡ old → FindsSource files app name seen after old new
  finds_wrong : FindsFault (SourceFault files app seen name) old new → after ≡ seen →
      FindsSource files app name seen after old new

-- each of these files is fine, or its fault is found
pub record AllAreTold (files : Contents) (vsn : List ℕ) (apps : List RelApp) (sources : List Source)
    (found : List ReleaseFault) : Type 0 where
  pub relup : HasRelup files vsn ⊎ HasFault found (RelupFault files vsn)
  pub specs : (app : RelApp) → Contains apps app → HasSpec files app ⊎ HasFault found (SpecFault files app)
  pub appups : (app : RelApp) → Contains apps app → HasAppup files app ⊎ HasFault found (AppupFault files app)
  pub modules : (front : List Source) → (app : RelApp) → (name : List ℕ) → (rest : List Source) →
      sources ≡ front ++ (app, name) ∷ rest → IsNewModule files front app name ⊎
      HasFault found (λ path fault. (path ≡ source_path app name) × SourceIsWrong files front name path fault)

-- and nothing else is found, at some of these paths, in order; the names that were seen are those of modules that were read
pub record AreTold (files : Contents) (vsn : List ℕ) (apps : List RelApp) (sources : List Source) (paths : List (List ℕ))
    (seen : List (List ℕ)) (found : List ReleaseFault) : Type 0 where
  pub known : (name : List ℕ) → Contains seen name ↔ IsKnown files sources name
  pub sound : All (λ f. IsFaultBeside files vsn apps sources (string_bytes f.path) f.fault) found
  pub whole : AllAreTold files vsn apps sources found
  pub ordered : AreSomeOf (fault_paths found) paths

-- so of applications, with what their `.app` list
pub record AppsAreTold (files : Contents) (vsn : List ℕ) (apps : List RelApp) (seen : List (List ℕ))
    (found : List ReleaseFault) : Type 0 where
  pub lists : List (List (List ℕ))
  pub each : AreListed files apps lists
  pub told : AreTold files vsn apps (sources_of_apps apps lists) (paths_beside vsn apps lists) seen found

-- sources more of an application
abbrev pub TellsSources : Contents → RelApp → List (List ℕ) → List (List ℕ) → List (List ℕ) → List ReleaseFault →
    List ReleaseFault → Type 0
TellsSources files app names seen after old new =
    (vsn : List ℕ) → (apps : List RelApp) → (sources : List Source) → (paths : List (List ℕ)) →
    AreTold files vsn apps sources paths seen old →
    AreTold files vsn apps (sources ++ sources_of_app app names) (paths ++ map (source_path app) names) after new

-- an application more
abbrev pub TellsApp : Contents → RelApp → List (List ℕ) → List (List ℕ) → List ReleaseFault → List ReleaseFault → Type 0
TellsApp files app seen after old new =
    (vsn : List ℕ) → (apps : List RelApp) → AppsAreTold files vsn apps seen old →
    AppsAreTold files vsn (apps ++ app ∷ []) after new
