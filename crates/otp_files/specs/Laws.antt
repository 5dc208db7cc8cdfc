-- The laws of the files of a release.
use Rattle.std.specs.Prelude.{◌≡◌, ◌++◌, ℕ, List, codes}
use Rattle.erl_term.specs.Tree.{Tree}
use Rattle.erl_term.specs.Text.{utf8, text}
use Rattle.otp_files.specs.declared.error.FileError.{FileError}
use Rattle.otp_files.specs.Apps.{AppRefused, IsApp}
use Rattle.otp_files.specs.Rels.{IsRel, RelRefused}
use Rattle.otp_files.specs.Texts.{IsAppupError, IsFile, IsFileError}
use Rattle.otp_files.specs.Upgrades.{AppupRefused, IsAppup, IsRelup, RelupRefused, relup_tree}
use Rattle.otp_files.specs.declared.upgrade.Upgrades.{Upgrades}
use Rattle.erl_term.specs.declared.term.Term.{Term}
use Rattle.low_instructions.specs.declared.low.Low.{Low}

-- something of which a record is what it says, or a fault what is wrong with it
pub data IsJudged {X A : Type 0} (Is : X → A → Type 0) (IsWrong : X → FileError → Type 0) (x : X) : Type 0 where
  is_record : (a : A) → Is x a → IsJudged Is IsWrong x
  is_none : (fault : FileError) → IsWrong x fault → IsJudged Is IsWrong x

-- It says just one record, or has just one fault where it says none.
pub record IsOneOf {X A : Type 0} (Is : X → A → Type 0) (IsWrong : X → FileError → Type 0) (x : X) : Type 0 where
  pub records : (a b : A) → Is x a → Is x b → a ≡ b
  pub faults : (fault other : FileError) → IsWrong x fault → IsWrong x other → fault ≡ other
  pub apart : (a : A) → (fault : FileError) → Is x a → IsWrong x fault → ⊥
  pub judged : IsJudged Is IsWrong x

-- All terms say one record of each kind of file, or have one fault.
pub record TermsAreOneOf (t : Tree) : Type 0 where
  pub app : IsOneOf IsApp AppRefused t
  pub rel : IsOneOf IsRel RelRefused t
  pub appup : IsOneOf IsAppup AppupRefused t
  pub relup : IsOneOf IsRelup RelupRefused t

-- And so do all bytes.
pub record BytesAreOneOf (bytes : List ℕ) : Type 0 where
  pub app : IsOneOf (IsFile IsApp) (IsFileError AppRefused) bytes
  pub rel : IsOneOf (IsFile IsRel) (IsFileError RelRefused) bytes
  pub appup : IsOneOf (IsFile IsAppup) (IsAppupError AppupRefused) bytes
  pub relup : IsOneOf (IsFile IsRelup) (IsFileError RelupRefused) bytes

-- what a relup is printed as
abbrev pub relup_text : Upgrades Term Low → List ℕ
relup_text relup = utf8 (text (relup_tree relup)) ++ codes ".\n"
