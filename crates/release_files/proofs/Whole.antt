-- What is wrong with an application, and with a release, by its parts in the order of reading.
use Rattle.std.proofs.Common.{◌≡◌, ◌⊎◌, ℕ, List, ◌++◌, Option, Result, Ok, Err, IsErr, inl, inr, sym, ap, ◌∙◌, subst}
use Rattle.std.specs.Prelude.{MatchResult}
use Rattle.std.specs.List.{AllZip}
use Rattle.std.specs.Result.{IsErrAnd}
use Rattle.erl_ir.specs.Module.{Forms}
use Rattle.erl_term.specs.declared.term.Term.{Term}
use Rattle.instructions.specs.declared.instruction.Instruction.{Instruction}
use Rattle.low_instructions.specs.declared.low.Low.{Low}
use Rattle.otp_files.specs.declared.app.AppSpec.{AppSpec}
use Rattle.otp_files.specs.declared.applications.RelApp.{RelApp}
use Rattle.otp_files.specs.declared.rel.RelSpec.{RelSpec}
use Rattle.otp_files.specs.declared.upgrade.Upgrades.{Upgrades}
use Rattle.release_files.specs.declared.fault.FileFault.{FileFault}
use Rattle.release_files.specs.declared.fault.FileFault.TheVariants.{Memory}
use Rattle.release_files.specs.Faults.{AppFault, AppsFault, AppupFault, IsFirstFault, RelFault, RelupFault, SourcesFault, SpecFault}
use Rattle.release_files.specs.Faults.{in_appup, in_apps, in_rel, in_relup, in_sources, in_spec}
use Rattle.release_files.specs.Files.{Contents}
use Rattle.release_files.specs.Releases.{AreDistinct, AreFilesOf, IsAppupOf, IsModuleOf, IsRelOf, IsRelupOf, IsSpecOf, module_names, with_files}
use Rattle.release_files.proofs.Sourced.{names_are}

-- an error that is passed on
pub passed : {T E : Type 0} (P : T → Type 0) (Q : E → Type 0) (r : Result T E) (e : E) → IsErr r × IsErrAnd r (λ y. y ≡ e) → Q e → MatchResult r P Q
passed P Q (Ok x) e is why = absurd is.1
passed P Q (Err y) e is why = subst Q (sym is.1) why

-- An application

pub spec_first : (files : Contents) (app : RelApp) (before : List (List ℕ)) (path : List ℕ) (fault : FileFault) → (fault ≡ Memory) ⊎ SpecFault files app path fault → (fault ≡ Memory) ⊎ AppFault files app before path fault
spec_first files app before path fault told =
    elim told [
      | inl memory ↦ inl memory
      | inr wrong ↦ inr (in_spec wrong)
    ]

pub appup_first : (files : Contents) (app : RelApp) (before : List (List ℕ)) (path : List ℕ) (fault : FileFault) (spec : AppSpec) → IsSpecOf files app spec → (fault ≡ Memory) ⊎ AppupFault files app path fault → (fault ≡ Memory) ⊎ AppFault files app before path fault
appup_first files app before path fault spec is told =
    elim told [
      | inl memory ↦ inl memory
      | inr wrong ↦ inr (in_appup spec is wrong)
    ]

pub sources_first : (files : Contents) (app : RelApp) (before names : List (List ℕ)) (path : List ℕ) (fault : FileFault) (spec : AppSpec) (appup : Option (Upgrades (Unit {0}) Instruction)) → IsSpecOf files app spec → IsAppupOf files app appup → names ≡ spec.modules → (fault ≡ Memory) ⊎ SourcesFault files app before names path fault → (fault ≡ Memory) ⊎ AppFault files app before path fault
sources_first files app before names path fault spec appup is also named told =
    elim told [
      | inl memory ↦ inl memory
      | inr wrong ↦ inr (in_sources spec is appup also (subst (λ ns. SourcesFault files app before ns path fault) named wrong))
    ]

-- names that were seen are those of the modules that were read
pub seen_by_modules : (files : Contents) (app : RelApp) (old new names : List (List ℕ)) (modules : List Forms) → AllZip (IsModuleOf files app) names modules → new ≡ old ++ names → new ≡ old ++ module_names modules
seen_by_modules files app old new names modules all more = more ∙ ap (λ ns. old ++ ns) (sym (names_are files app names modules all))

-- its files, as they were read
pub files_read : (files : Contents) (app : RelApp) (spec : AppSpec) (appup : Option (Upgrades (Unit {0}) Instruction)) (names old new : List (List ℕ)) (modules row : List Forms) → IsSpecOf files app spec → IsAppupOf files app appup → names ≡ spec.modules → row ≡ modules → AllZip (IsModuleOf files app) names modules × (new ≡ old ++ names) × AreDistinct new → AreFilesOf files app (record { spec = spec; appup = appup; modules = row }) × (new ≡ old ++ module_names row) × AreDistinct new
files_read files app spec appup names old new modules row is also named same read =
    let fine = subst (λ ms. AllZip (IsModuleOf files app) names ms) (sym same) read.0 in
    let all = subst (λ ns. AllZip (IsModuleOf files app) ns row) named fine in
    (record { spec = is; appup = also; modules = all }, seen_by_modules files app old new names row fine read.1, read.2)

-- The release

pub rel_first : (files : Contents) (vsn path : List ℕ) (fault : FileFault) → (fault ≡ Memory) ⊎ RelFault files vsn path fault → (fault ≡ Memory) ⊎ IsFirstFault files vsn path fault
rel_first files vsn path fault told =
    elim told [
      | inl memory ↦ inl memory
      | inr wrong ↦ inr (in_rel wrong)
    ]

pub relup_first : (files : Contents) (vsn path : List ℕ) (fault : FileFault) (rel : RelSpec) → IsRelOf files vsn rel → (fault ≡ Memory) ⊎ RelupFault files vsn path fault → (fault ≡ Memory) ⊎ IsFirstFault files vsn path fault
relup_first files vsn path fault rel is told =
    elim told [
      | inl memory ↦ inl memory
      | inr wrong ↦ inr (in_relup rel is wrong)
    ]

pub apps_first : (files : Contents) (vsn path : List ℕ) (fault : FileFault) (rel : RelSpec) (relup : Upgrades Term Low) (apps : List RelApp) → IsRelOf files vsn rel → IsRelupOf files vsn relup → apps ≡ rel.apps → (fault ≡ Memory) ⊎ AppsFault files (with_files apps) path fault → (fault ≡ Memory) ⊎ IsFirstFault files vsn path fault
apps_first files vsn path fault rel relup apps is also same told =
    elim told [
      | inl memory ↦ inl memory
      | inr wrong ↦ inr (in_apps rel is relup also (subst (λ some. AppsFault files (with_files some) path fault) same wrong))
    ]
