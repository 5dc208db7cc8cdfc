-- What stands first against a release, and at which path.
use Rattle.std.specs.Prelude.{◌≡◌, ◌≢◌, ℕ, List, ◌∷◌, ◌++◌, Option, None, Some, Contains}
use Rattle.std.specs.List.{AllZip}
use Rattle.std.specs.Str.{chars}
use Rattle.erl_ir.specs.Module.{Forms}
use Rattle.erl_parse.specs.Sources.{IsSource, IsNoSource}
use Rattle.erl_parse.specs.Telling.{Says}
use Rattle.erl_parse.specs.declared.error.LangError.{LangError}
use Rattle.erl_term.specs.declared.term.Term.{Term}
use Rattle.instructions.specs.declared.instruction.Instruction.{Instruction}
use Rattle.low_instructions.specs.declared.low.Low.{Low}
use Rattle.otp_files.specs.declared.app.AppSpec.{AppSpec}
use Rattle.otp_files.specs.declared.applications.RelApp.{RelApp}
use Rattle.otp_files.specs.declared.error.FileError.{FileError}
use Rattle.otp_files.specs.declared.error.FileError.TheVariants.{Shape}
use Rattle.otp_files.specs.declared.rel.RelSpec.{RelSpec}
use Rattle.otp_files.specs.declared.upgrade.Upgrades.{Upgrades}
use Rattle.otp_files.specs.Apps.{AppRefused, IsApp}
use Rattle.otp_files.specs.Rels.{IsRel, RelRefused}
use Rattle.otp_files.specs.Texts.{IsAppupError, IsFile, IsFileError}
use Rattle.otp_files.specs.Upgrades.{AppupRefused, IsRelup, RelupRefused}
use Rattle.release_table.specs.declared.table.AppFiles.{AppFiles}
use Rattle.release_files.specs.declared.fault.FileFault.{FileFault}
use Rattle.release_files.specs.declared.fault.FileFault.TheVariants.{Missing, File, Lang, WrongModule, DuplicateModule}
use Rattle.release_files.specs.Files.{Contents, StandsAs, file_of, paths_of}
use Rattle.release_files.specs.Paths.{HasNoRel, IsRelPath, app_path, appup_path, release_path, relup_path, source_path}
use Rattle.release_files.specs.Releases.{AreAppsOf, AreDistinct, IsAppupOf, IsModuleOf, IsRelOf, IsRelupOf, IsSpecOf, names_of}
use Rattle.release_files.specs.Releases.{with_files}

-- A file stands at a path, and is refused with this error.
pub record StandsRefused (Refused : List ℕ → FileError → Type 0) (files : Contents) (path : List ℕ) (fault : FileFault)
    : Type 0 where
  pub text : List ℕ
  pub stands : file_of path files ≡ Some text
  pub error : FileError
  pub refused : Refused text error
  pub is : fault ≡ File error

-- The `.rel`

-- what is wrong at its path: it is refused, or it says another version
pub data RelWrong (files : Contents) (vsn : List ℕ) (path : List ℕ) (fault : FileFault) : Type 0 where
  rel_refused : StandsRefused (IsFileError RelRefused) files path fault → RelWrong files vsn path fault
  rel_of_other : (rel : RelSpec) → StandsAs (IsFile IsRel) files path rel → rel.vsn ≢ chars vsn → fault ≡ File (Shape 2) →
      RelWrong files vsn path fault

-- there is none, or it is wrong
pub data RelFault (files : Contents) (vsn : List ℕ) (path : List ℕ) (fault : FileFault) : Type 0 where
  no_rel : HasNoRel (paths_of files) vsn → path ≡ release_path vsn → fault ≡ Missing → RelFault files vsn path fault
  wrong_rel : IsRelPath (paths_of files) vsn path → RelWrong files vsn path fault → RelFault files vsn path fault

-- The relup

-- it is refused, or it is of another version
pub data RelupWrong (files : Contents) (vsn : List ℕ) (path : List ℕ) (fault : FileFault) : Type 0 where
  relup_refused : StandsRefused (IsFileError RelupRefused) files path fault → RelupWrong files vsn path fault
  relup_of_other : (relup : Upgrades Term Low) → StandsAs (IsFile IsRelup) files path relup → relup.vsn ≢ chars vsn →
      fault ≡ File (Shape 1) → RelupWrong files vsn path fault

pub record RelupFault (files : Contents) (vsn : List ℕ) (path : List ℕ) (fault : FileFault) : Type 0 where
  pub at : path ≡ relup_path vsn
  pub wrong : RelupWrong files vsn path fault

-- An application's `.app`

-- there is none, or it is refused, or it says another name, or this name and another version
pub data SpecWrong (files : Contents) (app : RelApp) (path : List ℕ) (fault : FileFault) : Type 0 where
  no_spec : file_of path files ≡ None → fault ≡ Missing → SpecWrong files app path fault
  spec_refused : StandsRefused (IsFileError AppRefused) files path fault → SpecWrong files app path fault
  spec_of_name : (spec : AppSpec) → StandsAs (IsFile IsApp) files path spec → spec.name ≢ app.name → fault ≡ File (Shape 2) →
      SpecWrong files app path fault
  spec_of_version : (spec : AppSpec) → StandsAs (IsFile IsApp) files path spec → spec.name ≡ app.name → spec.vsn ≢ app.vsn →
      fault ≡ File (Shape 3) → SpecWrong files app path fault

pub record SpecFault (files : Contents) (app : RelApp) (path : List ℕ) (fault : FileFault) : Type 0 where
  pub at : path ≡ app_path app
  pub wrong : SpecWrong files app path fault

-- its appup, where it has one

pub record AppupFault (files : Contents) (app : RelApp) (path : List ℕ) (fault : FileFault) : Type 0 where
  pub at : path ≡ appup_path app
  pub wrong : StandsRefused (IsAppupError AppupRefused) files path fault

-- a source that is no module's, and what is told of it
pub record StandsUnread (files : Contents) (path : List ℕ) (fault : FileFault) : Type 0 where
  pub text : List ℕ
  pub stands : file_of path files ≡ Some text
  pub error : LangError
  pub no_source : IsNoSource text
  pub says : Says text error
  pub is : fault ≡ Lang error

-- the source of a module's name: there is none, or it is no module's, or another module's
pub data ModuleWrong (files : Contents) (name : List ℕ) (path : List ℕ) (fault : FileFault) : Type 0 where
  no_source : file_of path files ≡ None → fault ≡ Missing → ModuleWrong files name path fault
  no_module : StandsUnread files path fault → ModuleWrong files name path fault
  other_module : (m : Forms) → StandsAs IsSource files path m → m.name ≢ name → fault ≡ WrongModule →
      ModuleWrong files name path fault

-- and behind modules of these names: or it is a module's that has one of them
pub data SourceWrong (files : Contents) (before : List (List ℕ)) (name : List ℕ) (path : List ℕ) (fault : FileFault)
    : Type 0 where
  wrong_source : ModuleWrong files name path fault → SourceWrong files before name path fault
  known_module : (m : Forms) → StandsAs IsSource files path m → m.name ≡ name → Contains before name →
      fault ≡ DuplicateModule → SourceWrong files before name path fault

pub record SourceFault (files : Contents) (app : RelApp) (before : List (List ℕ)) (name : List ℕ) (path : List ℕ)
    (fault : FileFault) : Type 0 where
  pub at : path ≡ source_path app name
  pub wrong : SourceWrong files before name path fault

-- the first of its sources that is wrong, behind modules of these names
pub record SourcesFault (files : Contents) (app : RelApp) (before : List (List ℕ)) (names : List (List ℕ)) (path : List ℕ)
    (fault : FileFault) : Type 0 where
  pub front : List (List ℕ)
  pub name : List ℕ
  pub rest : List (List ℕ)
  pub split : names ≡ front ++ name ∷ rest
  pub modules : List Forms
  pub fine : AllZip (IsModuleOf files app) front modules
  pub distinct : AreDistinct (before ++ front)
  pub wrong : SourceFault files app (before ++ front) name path fault

-- what stands first against an application, behind modules of these names
pub data AppFault (files : Contents) (app : RelApp) (before : List (List ℕ)) (path : List ℕ) (fault : FileFault) : Type 0 where
  in_spec : SpecFault files app path fault → AppFault files app before path fault
  in_appup : (spec : AppSpec) → IsSpecOf files app spec → AppupFault files app path fault → AppFault files app before path fault
  in_sources : (spec : AppSpec) → IsSpecOf files app spec → (appup : Option (Upgrades (Unit {0}) Instruction)) →
      IsAppupOf files app appup → SourcesFault files app before spec.modules path fault → AppFault files app before path fault

-- The release whole

-- the first of these applications that is wrong
pub record AppsFault (files : Contents) (apps : List RelApp) (path : List ℕ) (fault : FileFault) : Type 0 where
  pub front : List RelApp
  pub app : RelApp
  pub rest : List RelApp
  pub split : apps ≡ front ++ app ∷ rest
  pub read : List AppFiles
  pub fine : AreAppsOf files front read
  pub wrong : AppFault files app (names_of read) path fault

pub data IsFirstFault (files : Contents) (vsn : List ℕ) (path : List ℕ) (fault : FileFault) : Type 0 where
  in_rel : RelFault files vsn path fault → IsFirstFault files vsn path fault
  in_relup : (rel : RelSpec) → IsRelOf files vsn rel → RelupFault files vsn path fault → IsFirstFault files vsn path fault
  in_apps : (rel : RelSpec) → IsRelOf files vsn rel → (relup : Upgrades Term Low) → IsRelupOf files vsn relup →
      AppsFault files (with_files rel.apps) path fault → IsFirstFault files vsn path fault
