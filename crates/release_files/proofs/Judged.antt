-- What is wrong with a file, by what is found at its path.
use Rattle.std.proofs.Common.{◌≡◌, ◌⊎◌, ℕ, List, None, Some, Result, Ok, Err, Contains, inl, inr, refl, sym, ap, ◌∙◌, subst, string_bytes}
use Rattle.std.specs.Prelude.{◌≢◌, MatchResult}
use Rattle.std.specs.Str.{chars}
use Rattle.erl_ir.specs.Module.{Forms}
use Rattle.erl_parse.specs.Sources.{IsNoSource, IsSource}
use Rattle.erl_parse.specs.Telling.{Says}
use Rattle.erl_parse.specs.declared.error.LangError.{LangError}
use Rattle.erl_term.specs.declared.term.Term.{Term}
use Rattle.low_instructions.specs.declared.low.Low.{Low}
use Rattle.otp_files.specs.declared.applications.RelApp.{RelApp}
use Rattle.otp_files.specs.declared.error.FileError.{FileError}
use Rattle.otp_files.specs.declared.error.FileError.TheVariants.{Memory as file_refused}
use Rattle.otp_files.specs.declared.rel.RelSpec.{RelSpec}
use Rattle.otp_files.specs.declared.upgrade.Upgrades.{Upgrades}
use Rattle.otp_files.specs.Apps.{AppRefused}
use Rattle.otp_files.specs.Rels.{IsRel, RelRefused}
use Rattle.otp_files.specs.Texts.{IsAppupError, IsFile, IsFileError}
use Rattle.otp_files.specs.Upgrades.{AppupRefused, IsRelup, RelupRefused}
use Rattle.release_files.specs.declared.fault.FileFault.{FileFault}
use Rattle.release_files.specs.declared.fault.FileFault.TheVariants.{File, Lang, Memory, Missing}
use Rattle.release_files.specs.declared.fault.ReleaseFault.{ReleaseFault}
use Rattle.release_files.specs.Faults.{AppupFault, ModuleWrong, RelFault, RelWrong, RelupFault, RelupWrong, SourceFault, SourceWrong, SpecFault, SpecWrong}
use Rattle.release_files.specs.Faults.{no_module, no_rel, rel_refused, relup_refused, spec_refused, wrong_rel, wrong_source}
use Rattle.release_files.specs.Files.{Contents, StandsAs, file_of, paths_of}
use Rattle.release_files.specs.Paths.{HasNoRel, IsRelPath, app_path, appup_path, release_path, relup_path, source_path}
use Rattle.release_files.specs.Releases.{IsModuleOf, IsRelOf, IsRelupOf, absent, no_scripts, written}
use Rattle.release_files.proofs.Told.{file_told, source_told}
use Rattle.values.specs.Failure.{Fails}
use Rattle.values.specs.declared.failure.Failure.{Failure}

-- a file that its reader refuses
abbrev IsTold : FileError → FileFault → Type 0
IsTold error fault = (fault ≡ Memory) ⊎ ((error ≢ file_refused) × (fault ≡ File error))

-- The `.rel`

pub rel_judged : (files : Contents) (vsn path text : List ℕ) (error : FileError) (fault : FileFault) → file_of path files ≡ Some text → (error ≡ file_refused) ⊎ IsFileError RelRefused text error → IsTold error fault → (fault ≡ Memory) ⊎ RelWrong files vsn path fault
rel_judged files vsn path text error fault stands read told =
    elim (file_told (IsFileError RelRefused) files path text error fault stands read told) [
      | inl memory ↦ inl memory
      | inr wrong ↦ inr (rel_refused wrong)
    ]

-- a fault that is told at the path where it is found
pub told_of : (Wrong : FileFault → Type 0) (path at : List ℕ) (fault said : FileFault) → (fault ≡ Memory) ⊎ Wrong fault → (said ≡ Memory) ⊎ ((at ≡ path) × (said ≡ fault)) → (said ≡ Memory) ⊎ ((at ≡ path) × Wrong said)
told_of Wrong path at fault said wrong told =
    elim told [
      | inl memory ↦ inl memory
      | inr same ↦ elim wrong [
        | inl memory ↦ inl (same.1 ∙ memory)
        | inr is ↦ inr (same.0, subst Wrong (sym same.1) is)
      ]
    ]

pub rel_of_path : (files : Contents) (vsn path : List ℕ) (paths : List (List ℕ)) (r : Result RelSpec ReleaseFault) → paths ≡ paths_of files → IsRelPath paths vsn path → MatchResult r (λ rel. StandsAs (IsFile IsRel) files path rel × (rel.vsn ≡ chars vsn)) (λ f. (f.fault ≡ Memory) ⊎ ((string_bytes f.path ≡ path) × RelWrong files vsn path f.fault)) → MatchResult r (λ rel. IsRelOf files vsn rel) (λ f. (f.fault ≡ Memory) ⊎ RelFault files vsn (string_bytes f.path) f.fault)
rel_of_path files vsn path paths (Ok rel) same is told = record {
  path = path;
  is_path = subst (λ ps. IsRelPath ps vsn path) same is;
  says = told.0;
  of_version = told.1;
}
rel_of_path files vsn path paths (Err f) same is told =
    elim told [
      | inl memory ↦ inl memory
      | inr wrong ↦ inr (wrong_rel (subst (λ p. IsRelPath (paths_of files) vsn p) (sym wrong.0) (subst (λ ps. IsRelPath ps vsn path) same is)) (subst (λ p. RelWrong files vsn p f.fault) (sym wrong.0) wrong.1))
    ]

pub rel_stands : (files : Contents) (vsn path : List ℕ) (paths : List (List ℕ)) → paths ≡ paths_of files → IsRelPath paths vsn path → Contains (paths_of files) path
rel_stands files vsn path paths same is = subst (λ ps. Contains ps path) same is.stands

pub rel_missing : (files : Contents) (vsn at : List ℕ) (paths : List (List ℕ)) (said : FileFault) → paths ≡ paths_of files → HasNoRel paths vsn → (said ≡ Memory) ⊎ ((at ≡ release_path vsn) × (said ≡ Missing)) → (said ≡ Memory) ⊎ RelFault files vsn at said
rel_missing files vsn at paths said same none told =
    elim told [
      | inl memory ↦ inl memory
      | inr is ↦ inr (no_rel (subst (λ ps. HasNoRel ps vsn) same none) is.0 is.1)
    ]

-- The relup

pub relup_judged : (files : Contents) (vsn path text : List ℕ) (error : FileError) (fault : FileFault) → file_of path files ≡ Some text → (error ≡ file_refused) ⊎ IsFileError RelupRefused text error → IsTold error fault → (fault ≡ Memory) ⊎ RelupWrong files vsn path fault
relup_judged files vsn path text error fault stands read told =
    elim (file_told (IsFileError RelupRefused) files path text error fault stands read told) [
      | inl memory ↦ inl memory
      | inr wrong ↦ inr (relup_refused wrong)
    ]

pub relup_written : (files : Contents) (vsn path text : List ℕ) (relup : Upgrades Term Low) → path ≡ relup_path vsn → text ≡ path → StandsAs (IsFile IsRelup) files text relup → relup.vsn ≡ chars vsn → IsRelupOf files vsn relup
relup_written files vsn path text relup at same says of_version =
    written (subst (λ p. StandsAs (IsFile IsRelup) files p relup) (same ∙ at) says) of_version

pub relup_absent : (files : Contents) (vsn path text version : List ℕ) (relup : Upgrades Term Low) → path ≡ relup_path vsn → text ≡ path → file_of text files ≡ None → version ≡ chars vsn → relup ≡ no_scripts version → IsRelupOf files vsn relup
relup_absent files vsn path text version relup at same none of_version is =
    absent (ap (λ p. file_of p files) (sym (same ∙ at)) ∙ none) (is ∙ ap no_scripts of_version)

pub relup_wrong : (files : Contents) (vsn path text : List ℕ) (fault : FileFault) → path ≡ relup_path vsn → text ≡ path → (fault ≡ Memory) ⊎ RelupWrong files vsn text fault → (fault ≡ Memory) ⊎ RelupFault files vsn path fault
relup_wrong files vsn path text fault at same told =
    elim told [
      | inl memory ↦ inl memory
      | inr wrong ↦ inr (record { at = at; wrong = subst (λ p. RelupWrong files vsn p fault) same wrong })
    ]

-- An application's `.app` and appup

pub spec_judged : (files : Contents) (app : RelApp) (path text : List ℕ) (error : FileError) (fault : FileFault) → file_of path files ≡ Some text → (error ≡ file_refused) ⊎ IsFileError AppRefused text error → IsTold error fault → (fault ≡ Memory) ⊎ SpecWrong files app path fault
spec_judged files app path text error fault stands read told =
    elim (file_told (IsFileError AppRefused) files path text error fault stands read told) [
      | inl memory ↦ inl memory
      | inr wrong ↦ inr (spec_refused wrong)
    ]

pub spec_wrong : (files : Contents) (app : RelApp) (path text : List ℕ) (fault : FileFault) → path ≡ app_path app → text ≡ path → (fault ≡ Memory) ⊎ SpecWrong files app text fault → (fault ≡ Memory) ⊎ SpecFault files app path fault
spec_wrong files app path text fault at same told =
    elim told [
      | inl memory ↦ inl memory
      | inr wrong ↦ inr (record { at = at; wrong = subst (λ p. SpecWrong files app p fault) same wrong })
    ]

pub appup_judged : (files : Contents) (app : RelApp) (path key text : List ℕ) (error : FileError) (fault : FileFault) → path ≡ appup_path app → key ≡ path → file_of key files ≡ Some text → (error ≡ file_refused) ⊎ IsAppupError AppupRefused text error → IsTold error fault → (fault ≡ Memory) ⊎ AppupFault files app path fault
appup_judged files app path key text error fault at same stands read told =
    elim (file_told (IsAppupError AppupRefused) files path text error fault (ap (λ p. file_of p files) (sym same) ∙ stands) read told) [
      | inl memory ↦ inl memory
      | inr wrong ↦ inr (record { at = at; wrong = wrong })
    ]

-- A source

pub source_judged : (files : Contents) (before : List (List ℕ)) (name path : List ℕ) (fault : FileFault) → (fault ≡ Memory) ⊎ ModuleWrong files name path fault → (fault ≡ Memory) ⊎ (SourceWrong files before name path fault × (before ≡ before))
source_judged files before name path fault told =
    elim told [
      | inl memory ↦ inl memory
      | inr wrong ↦ inr (wrong_source wrong, refl)
    ]

pub module_judged : (files : Contents) (name path text : List ℕ) (failure : Failure LangError) (fault : FileFault) → file_of path files ≡ Some text → Fails (Says text) (Unit {0}) failure → Fails (λ _. IsNoSource text) (Unit {0}) failure → Fails (λ error. fault ≡ Lang error) (fault ≡ Memory) failure → (fault ≡ Memory) ⊎ ModuleWrong files name path fault
module_judged files name path text failure fault stands says none told =
    elim (source_told files path text failure fault stands says none told) [
      | inl memory ↦ inl memory
      | inr wrong ↦ inr (no_module wrong)
    ]

pub source_wrong_at : (files : Contents) (app : RelApp) (before after : List (List ℕ)) (name path text : List ℕ) (fault : FileFault) → path ≡ source_path app name → text ≡ path → (fault ≡ Memory) ⊎ (SourceWrong files before name text fault × (after ≡ before)) → (fault ≡ Memory) ⊎ (SourceFault files app before name path fault × (after ≡ before))
source_wrong_at files app before after name path text fault at same told =
    elim told [
      | inl memory ↦ inl memory
      | inr wrong ↦ inr (record { at = at; wrong = subst (λ p. SourceWrong files before name p fault) same wrong.0 }, wrong.1)
    ]

pub module_stands : (files : Contents) (app : RelApp) (name path text : List ℕ) (m : Forms) → path ≡ source_path app name → text ≡ path → StandsAs IsSource files text m → m.name ≡ name → IsModuleOf files app name m
module_stands files app name path text m at same says named = record {
  says = subst (λ p. StandsAs IsSource files p m) (same ∙ at) says;
  of_name = named;
}
