-- The files of a release as bytes: each holds one term.
use Rattle.std.specs.Prelude.{◌≡◌, ℕ, List, codes, take, drop}
use Rattle.erl_scan.specs.declared.error.Fault.TheVariants.{Unsupported}
use Rattle.erl_scan.specs.declared.error.ReadError.{ReadError}
use Rattle.erl_term.specs.Tree.{Tree, Trees, none, more}
use Rattle.erl_consult.specs.Faults.{IsTextOf, IsRefused}
use Rattle.otp_files.specs.declared.error.FileError.{FileError}
use Rattle.otp_files.specs.declared.error.FileError.TheVariants.{Text, NoTerm, ManyTerms, PatternVersion}

-- bytes that are the text of one term, which says a record
pub record IsFile {A : Type 0} (Is : Tree → A → Type 0) (bytes : List ℕ) (file : A) : Type 0 where
  pub term : Tree
  pub text : IsTextOf bytes (more term none)
  pub says : Is term file

-- bytes that are the text of more terms than one
pub record HasMany (bytes : List ℕ) : Type 0 where
  pub first : Tree
  pub second : Tree
  pub others : Trees
  pub text : IsTextOf bytes (more first (more second others))

-- Why bytes are not the text of one term
pub data IsTextError (bytes : List ℕ) (error : FileError) : Type 0 where
  no_text : (fault : ReadError) → IsRefused bytes fault.kind fault.at → error ≡ Text fault → IsTextError bytes error
  no_term : IsTextOf bytes none → error ≡ NoTerm → IsTextError bytes error
  many_terms : HasMany bytes → error ≡ ManyTerms → IsTextError bytes error

-- Why bytes are no file: they are not the text of one term, or the term is refused.
pub data IsFileError (Refused : Tree → FileError → Type 0) (bytes : List ℕ) (error : FileError) : Type 0 where
  text : IsTextError bytes error → IsFileError Refused bytes error
  term : (t : Tree) → IsTextOf bytes (more t none) → Refused t error → IsFileError Refused bytes error

-- bytes whose first fault is told at `<<`, where a pattern of versions would begin
pub record HasPattern (bytes : List ℕ) : Type 0 where
  pub at : ℕ
  pub refused : IsRefused bytes Unsupported at
  pub begins : take 2 (drop at bytes) ≡ codes "<<"

-- Why bytes are no appup: a pattern of versions is told as such.
pub data IsAppupError (Refused : Tree → FileError → Type 0) (bytes : List ℕ) (error : FileError) : Type 0 where
  pattern : HasPattern bytes → error ≡ PatternVersion → IsAppupError Refused bytes error
  no_pattern : (HasPattern bytes → ⊥) → IsFileError Refused bytes error → IsAppupError Refused bytes error
