-- Every fault of a release's files, and at which path.
use Rattle.std.specs.Prelude.{◌≡◌, ◌⊎◌, ℕ, List, [], ◌∷◌, ◌++◌, ⊤, length, map, Any, Contains, string_bytes}
use Rattle.std.specs.List.{AllZip}
use Rattle.erl_ir.specs.Module.{Forms}
use Rattle.erl_parse.specs.Sources.{IsSource}
use Rattle.otp_files.specs.declared.app.AppSpec.{AppSpec}
use Rattle.otp_files.specs.declared.applications.RelApp.{RelApp}
use Rattle.otp_files.specs.declared.rel.RelSpec.{RelSpec}
use Rattle.release_files.specs.declared.fault.FileFault.{FileFault}
use Rattle.release_files.specs.declared.fault.FileFault.TheVariants.{Lang, DuplicateModule}
use Rattle.release_files.specs.declared.fault.ReleaseFault.{ReleaseFault}
use Rattle.release_files.specs.Faults.{AppupFault, ModuleWrong, RelFault, RelupFault, SpecFault}
use Rattle.release_files.specs.Files.{Contents, StandsAs}
use Rattle.release_files.specs.Paths.{app_path, appup_path, relup_path, source_path}
use Rattle.release_files.specs.Releases.{IsModuleOf, IsRelOf, IsSpecOf, with_files}

-- The sources of a release

-- the names of modules that the `.app` of an application lists; where it is wrong, none is known
pub data Lists (files : Contents) (app : RelApp) (names : List (List ℕ)) : Type 0 where
  listed : (spec : AppSpec) → IsSpecOf files app spec → names ≡ spec.modules → Lists files app names
  unlisted : (path : List ℕ) → (fault : FileFault) → SpecFault files app path fault → names ≡ [] → Lists files app names

abbrev pub AreListed : Contents → List RelApp → List (List (List ℕ)) → Type 0
AreListed files apps lists = AllZip (Lists files) apps lists

-- a source: an application, and the name of one of its modules
abbrev pub Source : Type 0
Source = RelApp × List ℕ

abbrev pub sources_of_app : RelApp → List (List ℕ) → List Source
sources_of_app app names = map (λ name. (app, name)) names

-- those of applications, each with its names
abbrev pub sources_of_apps : List RelApp → List (List (List ℕ)) → List Source
sources_of_apps [] lists = []
sources_of_apps (app ∷ apps) [] = []
sources_of_apps (app ∷ apps) (names ∷ lists) = sources_of_app app names ++ sources_of_apps apps lists

-- one of these is read as the module of this name
pub record IsKnown (files : Contents) (front : List Source) (name : List ℕ) : Type 0 where
  pub app : RelApp
  pub stands : Contains front (app, name)
  pub forms : Forms
  pub read : IsModuleOf files app name forms

-- A fault of a release's files

-- a source behind others: it is wrong by itself, or an earlier one is the module of its name
pub data SourceIsWrong (files : Contents) (front : List Source) (name : List ℕ) (path : List ℕ) (fault : FileFault)
    : Type 0 where
  wrong_itself : ModuleWrong files name path fault → SourceIsWrong files front name path fault
  second_of_name : (m : Forms) → StandsAs IsSource files path m → m.name ≡ name → IsKnown files front name →
      fault ≡ DuplicateModule → SourceIsWrong files front name path fault

-- beside the `.rel`, where these are the applications that have files, and their sources
pub data IsFaultBeside (files : Contents) (vsn : List ℕ) (apps : List RelApp) (sources : List Source) (path : List ℕ)
    (fault : FileFault) : Type 0 where
  of_relup : RelupFault files vsn path fault → IsFaultBeside files vsn apps sources path fault
  of_spec : (app : RelApp) → Contains apps app → SpecFault files app path fault →
      IsFaultBeside files vsn apps sources path fault
  of_appup : (app : RelApp) → Contains apps app → AppupFault files app path fault →
      IsFaultBeside files vsn apps sources path fault
  of_source : (front : List Source) → (app : RelApp) → (name : List ℕ) → (rest : List Source) →
      sources ≡ front ++ (app, name) ∷ rest → path ≡ source_path app name → SourceIsWrong files front name path fault →
      IsFaultBeside files vsn apps sources path fault

-- in the `.rel`, or beside it where it is read
pub data IsFault (files : Contents) (vsn : List ℕ) (path : List ℕ) (fault : FileFault) : Type 0 where
  of_rel : RelFault files vsn path fault → IsFault files vsn path fault
  beside_rel : (rel : RelSpec) → IsRelOf files vsn rel → (lists : List (List (List ℕ))) →
      AreListed files (with_files rel.apps) lists →
      IsFaultBeside files vsn (with_files rel.apps) (sources_of_apps (with_files rel.apps) lists) path fault →
      IsFault files vsn path fault

-- the same fault; of a source that is no module's, whatever is told of it
abbrev pub IsLike : FileFault → FileFault → Type 0
IsLike (Lang error) (Lang other) = ⊤
IsLike fault other = fault ≡ other

-- it is told
abbrev pub IsTold : List ReleaseFault → List ℕ → FileFault → Type 0
IsTold found path fault = Any (λ f. (string_bytes f.path ≡ path) × IsLike f.fault fault) found

-- In which order faults are told

-- these are some of those, in their order
abbrev pub AreSomeOf : List (List ℕ) → List (List ℕ) → Type 0
AreSomeOf [] all = ⊤
AreSomeOf (path ∷ paths) [] = ⊥
AreSomeOf (path ∷ paths) (first ∷ others) = ((path ≡ first) × AreSomeOf paths others) ⊎ AreSomeOf (path ∷ paths) others

-- the paths of an application's files, where its `.app` lists these names
abbrev pub paths_of_app : RelApp → List (List ℕ) → List (List ℕ)
paths_of_app app names = app_path app ∷ appup_path app ∷ map (source_path app) names

-- those of applications, each with its names
abbrev pub paths_of_apps : List RelApp → List (List (List ℕ)) → List (List ℕ)
paths_of_apps [] lists = []
paths_of_apps (app ∷ apps) [] = []
paths_of_apps (app ∷ apps) (names ∷ lists) = paths_of_app app names ++ paths_of_apps apps lists

-- and that of the relup before them
abbrev pub paths_beside : List ℕ → List RelApp → List (List (List ℕ)) → List (List ℕ)
paths_beside vsn apps lists = relup_path vsn ∷ paths_of_apps apps lists

abbrev pub fault_paths : List ReleaseFault → List (List ℕ)
fault_paths found = map (λ f. string_bytes f.path) found

-- a `.rel` that is wrong is told alone; where it is read, each file beside it is told once at most, in the order of reading
pub record AreInOrder (files : Contents) (vsn : List ℕ) (found : List ReleaseFault) : Type 0 where
  pub alone : (path : List ℕ) → (fault : FileFault) → RelFault files vsn path fault → length found ≡ 1
  pub beside : (rel : RelSpec) → IsRelOf files vsn rel → (lists : List (List (List ℕ))) →
      AreListed files (with_files rel.apps) lists →
      AreSomeOf (fault_paths found) (paths_beside vsn (with_files rel.apps) lists)
