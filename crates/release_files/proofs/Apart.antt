-- What is read is not wrong: a file says one thing, or has one fault.
use Rattle.std.proofs.Common.{◌≡◌, ℕ, List, [], ◌∷◌, Option, None, Some, refl, sym, ap, ◌∙◌, subst}
use Rattle.std.specs.Prelude.{◌≢◌}
use Rattle.std.specs.List.{AllZip}
use Rattle.std.specs.Str.{chars}
use Rattle.std.specs.Cmp.Lexicographic.{slice_cmp, nat_list_cmp_total}
use Rattle.std.specs.Ordering.{nat_cmp, ordering_reverse}
use Rattle.std.specs.declared.cmp.Ordering.{Ordering}
use Rattle.std.specs.declared.cmp.Ordering.TheVariants.{Less, Equal, Greater}
use Rattle.std.proofs.lemmas.Map.Lookups.{exact_bytes}
use Rattle.erl_ir.specs.Module.{Forms}
use Rattle.erl_parse.specs.Sources.{IsSource, OneModule}
use Rattle.erl_term.specs.declared.term.Term.{Term}
use Rattle.instructions.specs.declared.instruction.Instruction.{Instruction}
use Rattle.low_instructions.specs.declared.low.Low.{Low}
use Rattle.otp_files.specs.declared.app.AppSpec.{AppSpec}
use Rattle.otp_files.specs.declared.applications.RelApp.{RelApp}
use Rattle.otp_files.specs.declared.error.FileError.{FileError}
use Rattle.otp_files.specs.declared.rel.RelSpec.{RelSpec}
use Rattle.otp_files.specs.declared.upgrade.Upgrades.{Upgrades}
use Rattle.otp_files.specs.declared.error.FileError.TheVariants.{Shape}
use Rattle.otp_files.specs.Apps.{AppRefused, IsApp}
use Rattle.otp_files.specs.Laws.{BytesAreOneOf, IsOneOf}
use Rattle.otp_files.specs.Rels.{IsRel, RelRefused}
use Rattle.otp_files.specs.Texts.{IsAppupError, IsFile, IsFileError}
use Rattle.otp_files.specs.Upgrades.{AppupRefused, IsAppup, IsRelup, RelupRefused}
use Rattle.release_files.specs.declared.fault.FileFault.{FileFault}
use Rattle.release_files.specs.declared.fault.FileFault.TheVariants.{Missing, File, Lang, WrongModule, DuplicateModule, Memory}
use Rattle.release_files.specs.AllFaults.{AreListed, IsLike, Lists, Source, SourceIsWrong, listed, second_of_name, unlisted, wrong_itself}
use Rattle.release_files.specs.Found.{IsNewModule}
use Rattle.release_files.specs.Faults.{AppupFault, ModuleWrong, RelFault, RelWrong, RelupFault, RelupWrong, SpecFault, SpecWrong, StandsRefused, StandsUnread}
use Rattle.release_files.specs.Faults.{no_module, no_rel, no_source, no_spec, other_module, rel_of_other, rel_refused, relup_of_other, relup_refused}
use Rattle.release_files.specs.Faults.{spec_of_name, spec_of_version, spec_refused, wrong_rel}
use Rattle.release_files.specs.Files.{Contents, StandsAs, file_of, paths_of}
use Rattle.release_files.specs.Paths.{IsRelPath, app_path, appup_path, relup_path, source_path}
use Rattle.release_files.specs.Releases.{IsAppupOf, IsModuleOf, IsRelOf, IsRelupOf, IsSpecOf, absent, written}

-- What stands at a path

text_once : (files : Contents) (path text other : List ℕ) → file_of path files ≡ Some text → file_of path files ≡ Some other → text ≡ other
text_once files path text other stands also = cc

nowhere : (files : Contents) (path text : List ℕ) → file_of path files ≡ Some text → file_of path files ≡ None → ⊥
nowhere files path text stands none = let impossible : ⊥ = cc in impossible

abbrev FilesLaw : {A : Type 0} → (List ℕ → A → Type 0) → (List ℕ → FileError → Type 0) → Type 0
FilesLaw Is Refused = (bytes : List ℕ) → IsOneOf Is Refused bytes

says_once : {A : Type 0} (Is : List ℕ → A → Type 0) (Refused : List ℕ → FileError → Type 0) → FilesLaw Is Refused → (files : Contents) (path : List ℕ) (a b : A) → StandsAs Is files path a → StandsAs Is files path b → a ≡ b
says_once Is Refused law files path a b one other =
    (law one.text).records a b one.says (subst (λ t. Is t b) (text_once files path other.text one.text other.stands one.stands) other.says)

says_or_refused : {A : Type 0} (Is : List ℕ → A → Type 0) (Refused : List ℕ → FileError → Type 0) → FilesLaw Is Refused → (files : Contents) (path : List ℕ) (a : A) (fault : FileFault) → StandsAs Is files path a → StandsRefused Refused files path fault → ⊥
says_or_refused Is Refused law files path a fault one other =
    (law one.text).apart a other.error one.says (subst (λ t. Refused t other.error) (text_once files path other.text one.text other.stands one.stands) other.refused)

refused_once : {A : Type 0} (Is : List ℕ → A → Type 0) (Refused : List ℕ → FileError → Type 0) → FilesLaw Is Refused → (files : Contents) (path : List ℕ) (fault other : FileFault) → StandsRefused Refused files path fault → StandsRefused Refused files path other → fault ≡ other
refused_once Is Refused law files path fault other one two =
    one.is ∙ ap File ((law one.text).faults one.error two.error one.refused (subst (λ t. Refused t two.error) (text_once files path two.text one.text two.stands one.stands) two.refused)) ∙ sym two.is

module_once : OneModule → (files : Contents) (path : List ℕ) (m n : Forms) → StandsAs IsSource files path m → StandsAs IsSource files path n → m ≡ n
module_once law files path m n one other =
    law one.text m n one.says (subst (λ t. IsSource t n) (text_once files path other.text one.text other.stands one.stands) other.says)

-- Sources

module_or_wrong : OneModule → (files : Contents) (name path : List ℕ) (m : Forms) (fault : FileFault) → StandsAs IsSource files path m → m.name ≡ name → ModuleWrong files name path fault → ⊥
module_or_wrong law files name path m fault says named (no_source none is) = nowhere files path says.text says.stands none
module_or_wrong law files name path m fault says named (no_module unread) =
    unread.no_source m (subst (λ t. IsSource t m) (text_once files path says.text unread.text says.stands unread.stands) says.says)
module_or_wrong law files name path m fault says named (other_module n also other is) =
    other (ap (λ f. f.name) (module_once law files path n m also says) ∙ named)

pub module_apart : OneModule → (files : Contents) (app : RelApp) (name path : List ℕ) (m : Forms) (fault : FileFault) → IsModuleOf files app name m → path ≡ source_path app name → ModuleWrong files name path fault → ⊥
module_apart law files app name path m fault read at wrong =
    module_or_wrong law files name (source_path app name) m fault read.says read.of_name (subst (λ p. ModuleWrong files name p fault) at wrong)

pub source_apart : OneModule → (files : Contents) (front : List Source) (app : RelApp) (name path : List ℕ) (fault : FileFault) → IsNewModule files front app name → path ≡ source_path app name → SourceIsWrong files front name path fault → ⊥
source_apart law files front app name path fault new at (wrong_itself wrong) = module_apart law files app name path new.forms fault new.read at wrong
source_apart law files front app name path fault new at (second_of_name m says named known is) = new.is_new known

like_itself : (fault : FileFault) → IsLike fault fault
like_itself Missing = refl
like_itself (File error) = refl
like_itself (Lang error) = tt
like_itself WrongModule = refl
like_itself DuplicateModule = refl
like_itself Memory = refl

pub like : (fault other : FileFault) → fault ≡ other → IsLike fault other
like fault other same = subst (IsLike fault) same (like_itself fault)

like_both : (fault other said : FileFault) → fault ≡ said → other ≡ said → IsLike fault other
like_both fault other said is also = like fault other (is ∙ sym also)

unread_like : (files : Contents) (path : List ℕ) (fault other : FileFault) → StandsUnread files path fault → StandsUnread files path other → IsLike fault other
unread_like files path fault other one two = subst (λ f. IsLike f other) (sym one.is) (subst (λ f. IsLike (Lang one.error) f) (sym two.is) tt)

unread_or_source : (files : Contents) (path : List ℕ) (fault : FileFault) (m : Forms) → StandsUnread files path fault → StandsAs IsSource files path m → ⊥
unread_or_source files path fault m unread says =
    unread.no_source m (subst (λ t. IsSource t m) (text_once files path says.text unread.text says.stands unread.stands) says.says)

wrong_like : (files : Contents) (name path : List ℕ) (fault other : FileFault) → ModuleWrong files name path fault → ModuleWrong files name path other → IsLike fault other
wrong_like files name path fault other (no_source none is) (no_source also same) = like_both fault other Missing is same
wrong_like files name path fault other (no_source none is) (no_module unread) = absurd (nowhere files path unread.text unread.stands none)
wrong_like files name path fault other (no_source none is) (other_module m says named same) = absurd (nowhere files path says.text says.stands none)
wrong_like files name path fault other (no_module unread) (no_source none is) = absurd (nowhere files path unread.text unread.stands none)
wrong_like files name path fault other (no_module unread) (no_module also) = unread_like files path fault other unread also
wrong_like files name path fault other (no_module unread) (other_module m says named same) = absurd (unread_or_source files path fault m unread says)
wrong_like files name path fault other (other_module m says named is) (no_source none same) = absurd (nowhere files path says.text says.stands none)
wrong_like files name path fault other (other_module m says named is) (no_module unread) = absurd (unread_or_source files path other m unread says)
wrong_like files name path fault other (other_module m says named is) (other_module n also known same) = like_both fault other WrongModule is same

pub source_like : OneModule → (files : Contents) (front : List Source) (name path : List ℕ) (fault other : FileFault) → SourceIsWrong files front name path fault → SourceIsWrong files front name path other → IsLike fault other
source_like law files front name path fault other (wrong_itself wrong) (wrong_itself also) = wrong_like files name path fault other wrong also
source_like law files front name path fault other (wrong_itself wrong) (second_of_name m says named known is) = absurd (module_or_wrong law files name path m fault says named wrong)
source_like law files front name path fault other (second_of_name m says named known is) (wrong_itself wrong) = absurd (module_or_wrong law files name path m other says named wrong)
source_like law files front name path fault other (second_of_name m says named known is) (second_of_name n also same too said) = like_both fault other DuplicateModule is said

-- An application's `.app` and appup

abbrev pub BytesLaw : Type 0
BytesLaw = (bytes : List ℕ) → BytesAreOneOf bytes

abbrev of_apps_law : BytesLaw → FilesLaw (IsFile IsApp) (IsFileError AppRefused)
of_apps_law law bytes = (law bytes).app

specs_once : BytesLaw → (files : Contents) (path : List ℕ) (a b : AppSpec) → StandsAs (IsFile IsApp) files path a → StandsAs (IsFile IsApp) files path b → a ≡ b
specs_once law = says_once (IsFile IsApp) (IsFileError AppRefused) (of_apps_law law)

spec_or_refused : BytesLaw → (files : Contents) (path : List ℕ) (a : AppSpec) (fault : FileFault) → StandsAs (IsFile IsApp) files path a → StandsRefused (IsFileError AppRefused) files path fault → ⊥
spec_or_refused law = says_or_refused (IsFile IsApp) (IsFileError AppRefused) (of_apps_law law)

spec_or_wrong : BytesLaw → (files : Contents) (app : RelApp) (path : List ℕ) (spec : AppSpec) (fault : FileFault) → StandsAs (IsFile IsApp) files path spec → spec.name ≡ app.name → spec.vsn ≡ app.vsn → SpecWrong files app path fault → ⊥
spec_or_wrong law files app path spec fault says named of_version (no_spec none said) = nowhere files path says.text says.stands none
spec_or_wrong law files app path spec fault says named of_version (spec_refused refused) = spec_or_refused law files path spec fault says refused
spec_or_wrong law files app path spec fault says named of_version (spec_of_name other also wrong said) =
    wrong (ap (λ s. s.name) (specs_once law files path other spec also says) ∙ named)
spec_or_wrong law files app path spec fault says named of_version (spec_of_version other also same wrong said) =
    wrong (ap (λ s. s.vsn) (specs_once law files path other spec also says) ∙ of_version)

pub spec_apart : BytesLaw → (files : Contents) (app : RelApp) (spec : AppSpec) (path : List ℕ) (fault : FileFault) → IsSpecOf files app spec → SpecFault files app path fault → ⊥
spec_apart law files app spec path fault is wrong =
    spec_or_wrong law files app (app_path app) spec fault is.says is.of_name is.of_version (subst (λ p. SpecWrong files app p fault) wrong.at wrong.wrong)

spec_once : BytesLaw → (files : Contents) (app : RelApp) (a b : AppSpec) → IsSpecOf files app a → IsSpecOf files app b → a ≡ b
spec_once law files app a b one other = specs_once law files (app_path app) a b one.says other.says

-- two of other names, or of other versions
names_or_versions : BytesLaw → (files : Contents) (app : RelApp) (path : List ℕ) (a b : AppSpec) → StandsAs (IsFile IsApp) files path a → a.name ≢ app.name → StandsAs (IsFile IsApp) files path b → b.name ≡ app.name → ⊥
names_or_versions law files app path a b one other two named = other (ap (λ s. s.name) (specs_once law files path a b one two) ∙ named)

spec_wrong_like : BytesLaw → (files : Contents) (app : RelApp) (path : List ℕ) (fault other : FileFault) → SpecWrong files app path fault → SpecWrong files app path other → IsLike fault other
spec_wrong_like law files app path fault other (no_spec none is) (no_spec also same) = like_both fault other Missing is same
spec_wrong_like law files app path fault other (no_spec none is) (spec_refused r) = absurd (nowhere files path r.text r.stands none)
spec_wrong_like law files app path fault other (no_spec none is) (spec_of_name s says differs same) = absurd (nowhere files path says.text says.stands none)
spec_wrong_like law files app path fault other (no_spec none is) (spec_of_version s says named differs same) = absurd (nowhere files path says.text says.stands none)
spec_wrong_like law files app path fault other (spec_refused r) (no_spec none is) = absurd (nowhere files path r.text r.stands none)
spec_wrong_like law files app path fault other (spec_refused r) (spec_refused t) = like fault other (refused_once (IsFile IsApp) (IsFileError AppRefused) (of_apps_law law) files path fault other r t)
spec_wrong_like law files app path fault other (spec_refused r) (spec_of_name s says differs same) = absurd (spec_or_refused law files path s fault says r)
spec_wrong_like law files app path fault other (spec_refused r) (spec_of_version s says named differs same) = absurd (spec_or_refused law files path s fault says r)
spec_wrong_like law files app path fault other (spec_of_name s says differs is) (no_spec none same) = absurd (nowhere files path says.text says.stands none)
spec_wrong_like law files app path fault other (spec_of_name s says differs is) (spec_refused r) = absurd (spec_or_refused law files path s other says r)
spec_wrong_like law files app path fault other (spec_of_name s says differs is) (spec_of_name t also unlike same) = like_both fault other (File (Shape 2)) is same
spec_wrong_like law files app path fault other (spec_of_name s says differs is) (spec_of_version t also named unlike same) = absurd (names_or_versions law files app path s t says differs also named)
spec_wrong_like law files app path fault other (spec_of_version s says named differs is) (no_spec none same) = absurd (nowhere files path says.text says.stands none)
spec_wrong_like law files app path fault other (spec_of_version s says named differs is) (spec_refused r) = absurd (spec_or_refused law files path s other says r)
spec_wrong_like law files app path fault other (spec_of_version s says named differs is) (spec_of_name t also unlike same) = absurd (names_or_versions law files app path t s also unlike says named)
spec_wrong_like law files app path fault other (spec_of_version s says named differs is) (spec_of_version t also too unlike same) = like_both fault other (File (Shape 3)) is same

-- faults of one file are told at one path, and are like each other
abbrev pub AreOne : (List ℕ → FileFault → Type 0) → Type 0
AreOne IsWrong = (path other : List ℕ) → (fault said : FileFault) → IsWrong path fault → IsWrong other said → (path ≡ other) × IsLike fault said

at_one_path : (files : Contents) (at : List ℕ) (Wrong : List ℕ → FileFault → Type 0) → ((fault said : FileFault) → Wrong at fault → Wrong at said → IsLike fault said) → (path other : List ℕ) (fault said : FileFault) → path ≡ at → other ≡ at → Wrong path fault → Wrong other said → (path ≡ other) × IsLike fault said
at_one_path files at Wrong alike path other fault said here there one two =
    (here ∙ sym there, alike fault said (subst (λ p. Wrong p fault) here one) (subst (λ p. Wrong p said) there two))

pub spec_like : BytesLaw → (files : Contents) (app : RelApp) → AreOne (SpecFault files app)
spec_like law files app path other fault said one two =
    at_one_path files (app_path app) (SpecWrong files app) (spec_wrong_like law files app (app_path app)) path other fault said one.at two.at one.wrong two.wrong

of_appups_law : BytesLaw → FilesLaw (IsFile IsAppup) (IsAppupError AppupRefused)
of_appups_law law bytes = (law bytes).appup

pub appup_apart : BytesLaw → (files : Contents) (app : RelApp) (appup : Option (Upgrades (Unit {0}) Instruction)) (path : List ℕ) (fault : FileFault) → IsAppupOf files app appup → AppupFault files app path fault → ⊥
appup_apart law files app None path fault none wrong =
    nowhere files (appup_path app) wrong.wrong.text (ap (λ p. file_of p files) (sym wrong.at) ∙ wrong.wrong.stands) none
appup_apart law files app (Some appup) path fault is wrong =
    says_or_refused (IsFile IsAppup) (IsAppupError AppupRefused) (of_appups_law law) files (appup_path app) appup fault is (subst (λ p. StandsRefused (IsAppupError AppupRefused) files p fault) wrong.at wrong.wrong)

pub appup_like : BytesLaw → (files : Contents) (app : RelApp) → AreOne (AppupFault files app)
appup_like law files app path other fault said one two =
    at_one_path files (appup_path app) (StandsRefused (IsAppupError AppupRefused) files) (λ f g r t. like f g (refused_once (IsFile IsAppup) (IsAppupError AppupRefused) (of_appups_law law) files (appup_path app) f g r t)) path other fault said one.at two.at one.wrong two.wrong

-- The relup

of_relups_law : BytesLaw → FilesLaw (IsFile IsRelup) (IsFileError RelupRefused)
of_relups_law law bytes = (law bytes).relup

relup_or_refused : BytesLaw → (files : Contents) (path : List ℕ) (a : Upgrades Term Low) (fault : FileFault) → StandsAs (IsFile IsRelup) files path a → StandsRefused (IsFileError RelupRefused) files path fault → ⊥
relup_or_refused law = says_or_refused (IsFile IsRelup) (IsFileError RelupRefused) (of_relups_law law)

relup_or_wrong : BytesLaw → (files : Contents) (vsn path : List ℕ) (relup : Upgrades Term Low) (fault : FileFault) → StandsAs (IsFile IsRelup) files path relup → relup.vsn ≡ chars vsn → RelupWrong files vsn path fault → ⊥
relup_or_wrong law files vsn path relup fault says of_version (relup_refused refused) = relup_or_refused law files path relup fault says refused
relup_or_wrong law files vsn path relup fault says of_version (relup_of_other other also wrong said) =
    wrong (ap (λ r. r.vsn) (says_once (IsFile IsRelup) (IsFileError RelupRefused) (of_relups_law law) files path other relup also says) ∙ of_version)

no_relup_or_wrong : (files : Contents) (vsn path : List ℕ) (fault : FileFault) → file_of path files ≡ None → RelupWrong files vsn path fault → ⊥
no_relup_or_wrong files vsn path fault none (relup_refused refused) = nowhere files path refused.text refused.stands none
no_relup_or_wrong files vsn path fault none (relup_of_other other says wrong said) = nowhere files path says.text says.stands none

pub relup_apart : BytesLaw → (files : Contents) (vsn : List ℕ) (relup : Upgrades Term Low) (path : List ℕ) (fault : FileFault) → IsRelupOf files vsn relup → RelupFault files vsn path fault → ⊥
relup_apart law files vsn relup path fault (written says of_version) wrong =
    relup_or_wrong law files vsn (relup_path vsn) relup fault says of_version (subst (λ p. RelupWrong files vsn p fault) wrong.at wrong.wrong)
relup_apart law files vsn relup path fault (absent none is) wrong =
    no_relup_or_wrong files vsn (relup_path vsn) fault none (subst (λ p. RelupWrong files vsn p fault) wrong.at wrong.wrong)

relup_wrong_like : BytesLaw → (files : Contents) (vsn path : List ℕ) (fault other : FileFault) → RelupWrong files vsn path fault → RelupWrong files vsn path other → IsLike fault other
relup_wrong_like law files vsn path fault other (relup_refused r) (relup_refused t) = like fault other (refused_once (IsFile IsRelup) (IsFileError RelupRefused) (of_relups_law law) files path fault other r t)
relup_wrong_like law files vsn path fault other (relup_refused r) (relup_of_other s says differs same) = absurd (relup_or_refused law files path s fault says r)
relup_wrong_like law files vsn path fault other (relup_of_other s says differs is) (relup_refused r) = absurd (relup_or_refused law files path s other says r)
relup_wrong_like law files vsn path fault other (relup_of_other s says differs is) (relup_of_other t also unlike same) = like_both fault other (File (Shape 1)) is same

pub relup_like : BytesLaw → (files : Contents) (vsn : List ℕ) → AreOne (RelupFault files vsn)
relup_like law files vsn path other fault said one two =
    at_one_path files (relup_path vsn) (RelupWrong files vsn) (relup_wrong_like law files vsn (relup_path vsn)) path other fault said one.at two.at one.wrong two.wrong

-- The `.rel`

of_rels_law : BytesLaw → FilesLaw (IsFile IsRel) (IsFileError RelRefused)
of_rels_law law bytes = (law bytes).rel

rels_once : BytesLaw → (files : Contents) (path : List ℕ) (a b : RelSpec) → StandsAs (IsFile IsRel) files path a → StandsAs (IsFile IsRel) files path b → a ≡ b
rels_once law = says_once (IsFile IsRel) (IsFileError RelRefused) (of_rels_law law)

rel_or_refused : BytesLaw → (files : Contents) (path : List ℕ) (a : RelSpec) (fault : FileFault) → StandsAs (IsFile IsRel) files path a → StandsRefused (IsFileError RelRefused) files path fault → ⊥
rel_or_refused law = says_or_refused (IsFile IsRel) (IsFileError RelRefused) (of_rels_law law)

-- one path is the first
rel_path_once : (paths : List (List ℕ)) (vsn path other : List ℕ) → IsRelPath paths vsn path → IsRelPath paths vsn other → path ≡ other
rel_path_once paths vsn path other one two = by (slice_cmp nat_cmp path other) refl
  where
    by : (o : Ordering) → slice_cmp nat_cmp path other ≡ o → path ≡ other
    by Less is = absurd (two.first path one.stands one.named is)
    by Equal is = exact_bytes path other is
    by Greater is = absurd (one.first other two.stands two.named (nat_list_cmp_total.antisymm other path ∙ ap ordering_reverse is))

rel_or_wrong : BytesLaw → (files : Contents) (vsn path : List ℕ) (rel : RelSpec) (fault : FileFault) → StandsAs (IsFile IsRel) files path rel → rel.vsn ≡ chars vsn → RelWrong files vsn path fault → ⊥
rel_or_wrong law files vsn path rel fault says of_version (rel_refused refused) = rel_or_refused law files path rel fault says refused
rel_or_wrong law files vsn path rel fault says of_version (rel_of_other other also wrong said) =
    wrong (ap (λ r. r.vsn) (rels_once law files path other rel also says) ∙ of_version)

pub rel_apart : BytesLaw → (files : Contents) (vsn : List ℕ) (rel : RelSpec) (path : List ℕ) (fault : FileFault) → IsRelOf files vsn rel → RelFault files vsn path fault → ⊥
rel_apart law files vsn rel path fault is (no_rel none at said) = none is.path is.is_path.stands is.is_path.named
rel_apart law files vsn rel path fault is (wrong_rel first wrong) =
    rel_or_wrong law files vsn is.path rel fault is.says is.of_version (subst (λ p. RelWrong files vsn p fault) (rel_path_once (paths_of files) vsn path is.path first is.is_path) wrong)

pub rel_once : BytesLaw → (files : Contents) (vsn : List ℕ) (a b : RelSpec) → IsRelOf files vsn a → IsRelOf files vsn b → a ≡ b
rel_once law files vsn a b one other =
    rels_once law files one.path a b one.says (subst (λ p. StandsAs (IsFile IsRel) files p b) (rel_path_once (paths_of files) vsn other.path one.path other.is_path one.is_path) other.says)

rel_wrong_like : BytesLaw → (files : Contents) (vsn path : List ℕ) (fault other : FileFault) → RelWrong files vsn path fault → RelWrong files vsn path other → IsLike fault other
rel_wrong_like law files vsn path fault other (rel_refused r) (rel_refused t) = like fault other (refused_once (IsFile IsRel) (IsFileError RelRefused) (of_rels_law law) files path fault other r t)
rel_wrong_like law files vsn path fault other (rel_refused r) (rel_of_other s says differs same) = absurd (rel_or_refused law files path s fault says r)
rel_wrong_like law files vsn path fault other (rel_of_other s says differs is) (rel_refused r) = absurd (rel_or_refused law files path s other says r)
rel_wrong_like law files vsn path fault other (rel_of_other s says differs is) (rel_of_other t also unlike same) = like_both fault other (File (Shape 2)) is same

pub rel_like : BytesLaw → (files : Contents) (vsn : List ℕ) → AreOne (RelFault files vsn)
rel_like law files vsn path other fault said (no_rel none at is) (no_rel also there same) = (at ∙ sym there, like_both fault said Missing is same)
rel_like law files vsn path other fault said (no_rel none at is) (wrong_rel first wrong) = absurd (none other first.stands first.named)
rel_like law files vsn path other fault said (wrong_rel first wrong) (no_rel none at is) = absurd (none path first.stands first.named)
rel_like law files vsn path other fault said (wrong_rel first wrong) (wrong_rel second also) =
    let same = rel_path_once (paths_of files) vsn other path second first in
    (sym same, rel_wrong_like law files vsn path fault said wrong (subst (λ p. RelWrong files vsn p said) same also))

-- What `.app` list

lists_once : BytesLaw → (files : Contents) (app : RelApp) (names others : List (List ℕ)) → Lists files app names → Lists files app others → names ≡ others
lists_once law files app names others (listed a is named) (listed b also said) = named ∙ ap (λ s. s.modules) (spec_once law files app a b is also) ∙ sym said
lists_once law files app names others (listed a is named) (unlisted path fault wrong none) = absurd (spec_apart law files app a path fault is wrong)
lists_once law files app names others (unlisted path fault wrong none) (listed b also said) = absurd (spec_apart law files app b path fault also wrong)
lists_once law files app names others (unlisted path fault wrong none) (unlisted at other too nothing) = none ∙ sym nothing

zip_once : {A B : Type 0} (R : A → B → Type 0) → ((x : A) (y z : B) → R x y → R x z → y ≡ z) → (xs : List A) (ys zs : List B) → AllZip R xs ys → AllZip R xs zs → ys ≡ zs
zip_once R once [] [] [] all each = refl
zip_once R once [] [] (z ∷ zs) all each = absurd each
zip_once R once [] (y ∷ ys) zs all each = absurd all
zip_once R once (x ∷ xs) [] zs all each = absurd all
zip_once R once (x ∷ xs) (y ∷ ys) [] all each = absurd each
zip_once R once (x ∷ xs) (y ∷ ys) (z ∷ zs) all each = ap (λ v. v ∷ ys) (once x y z all.0 each.0) ∙ ap (λ vs. z ∷ vs) (zip_once R once xs ys zs all.1 each.1)

pub all_lists_once : BytesLaw → (files : Contents) (apps : List RelApp) (lists others : List (List (List ℕ))) → AreListed files apps lists → AreListed files apps others → lists ≡ others
all_lists_once law files apps lists others each other = zip_once (Lists files) (lists_once law files) apps lists others each other
