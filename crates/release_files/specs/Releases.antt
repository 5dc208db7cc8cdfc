-- What the files of a release say.
use Rattle.std.specs.Prelude.{◌≡◌, ◌≢◌, ℕ, Bool, not, ◌||◌, List, [], map, filter, codes, Option, None, Some, AllPairs}
use Rattle.std.specs.List.{AllZip, flat_map}
use Rattle.std.specs.Str.{bytes_eq, chars}
use Rattle.erl_ir.specs.Module.{Forms}
use Rattle.erl_parse.specs.Sources.{IsSource}
use Rattle.erl_term.specs.declared.term.Term.{Term}
use Rattle.instructions.specs.declared.instruction.Instruction.{Instruction}
use Rattle.low_instructions.specs.declared.low.Low.{Low}
use Rattle.otp_files.specs.declared.app.AppSpec.{AppSpec}
use Rattle.otp_files.specs.declared.applications.RelApp.{RelApp}
use Rattle.otp_files.specs.declared.rel.RelSpec.{RelSpec}
use Rattle.otp_files.specs.declared.upgrade.Upgrades.{Upgrades}
use Rattle.otp_files.specs.Apps.{IsApp}
use Rattle.otp_files.specs.Rels.{IsRel}
use Rattle.otp_files.specs.Texts.{IsFile}
use Rattle.otp_files.specs.Upgrades.{IsAppup, IsRelup}
use Rattle.release_table.specs.declared.table.AppFiles.{AppFiles}
use Rattle.release_table.specs.declared.table.Release.{Release}
use Rattle.release_files.specs.Files.{Contents, StandsAs, file_of, paths_of}
use Rattle.release_files.specs.Paths.{IsRelPath, app_path, appup_path, relup_path, source_path}

-- The release, by the bytes of the version that is asked for

-- its `.rel` says it, and that this is its version
pub record IsRelOf (files : Contents) (vsn : List ℕ) (rel : RelSpec) : Type 0 where
  pub path : List ℕ
  pub is_path : IsRelPath (paths_of files) vsn path
  pub says : StandsAs (IsFile IsRel) files path rel
  pub of_version : rel.vsn ≡ chars vsn

-- a relup without scripts
abbrev pub no_scripts : List ℕ → Upgrades Term Low
no_scripts vsn = record { vsn = vsn; up = []; down = [] }

-- its relup says it, and that it is of this version; where there is none, there are no scripts
pub data IsRelupOf (files : Contents) (vsn : List ℕ) (relup : Upgrades Term Low) : Type 0 where
  written : StandsAs (IsFile IsRelup) files (relup_path vsn) relup → relup.vsn ≡ chars vsn → IsRelupOf files vsn relup
  absent : file_of (relup_path vsn) files ≡ None → relup ≡ no_scripts (chars vsn) → IsRelupOf files vsn relup

-- An application of its `.rel`

-- its `.app` says it, and that it has this name and this version
pub record IsSpecOf (files : Contents) (app : RelApp) (spec : AppSpec) : Type 0 where
  pub says : StandsAs (IsFile IsApp) files (app_path app) spec
  pub of_name : spec.name ≡ app.name
  pub of_version : spec.vsn ≡ app.vsn

-- its appup says it, or it has none
abbrev pub IsAppupOf : Contents → RelApp → Option (Upgrades (Unit {0}) Instruction) → Type 0
IsAppupOf files app None = file_of (appup_path app) files ≡ None
IsAppupOf files app (Some appup) = StandsAs (IsFile IsAppup) files (appup_path app) appup

-- the source of a module's name is a source of this module, and it has that name
pub record IsModuleOf (files : Contents) (app : RelApp) (name : List ℕ) (m : Forms) : Type 0 where
  pub says : StandsAs IsSource files (source_path app name) m
  pub of_name : m.name ≡ name

-- its files say this: each module that its `.app` names, in order
pub record AreFilesOf (files : Contents) (app : RelApp) (read : AppFiles) : Type 0 where
  pub spec : IsSpecOf files app read.spec
  pub appup : IsAppupOf files app read.appup
  pub modules : AllZip (IsModuleOf files app) read.spec.modules read.modules

-- The release whole

-- the applications that have no files
abbrev pub is_built_in : RelApp → Bool
is_built_in app = bytes_eq app.name (codes "kernel") || bytes_eq app.name (codes "stdlib") || bytes_eq app.name (codes "sasl")

-- those of a release that have files, in order
abbrev pub with_files : List RelApp → List RelApp
with_files apps = filter (λ app. not (is_built_in app)) apps

abbrev pub module_names : List Forms → List (List ℕ)
module_names modules = map (λ m. m.name) modules

-- the names of their modules, in order
abbrev pub names_of : List AppFiles → List (List ℕ)
names_of read = flat_map (λ app. module_names app.modules) read

abbrev pub AreDistinct : List (List ℕ) → Type 0
AreDistinct names = AllPairs (λ name other. name ≢ other) names

-- the files of each application say this, and no two modules have one name
pub record AreAppsOf (files : Contents) (apps : List RelApp) (read : List AppFiles) : Type 0 where
  pub each : AllZip (AreFilesOf files) apps read
  pub distinct : AreDistinct (names_of read)

pub record IsRelease (files : Contents) (vsn : List ℕ) (release : Release) : Type 0 where
  pub rel : IsRelOf files vsn release.rel
  pub relup : IsRelupOf files vsn release.relup
  pub apps : AreAppsOf files (with_files release.rel.apps) release.apps
