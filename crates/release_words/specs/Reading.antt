-- The words of the files of a release, as they are read.
use Rattle.std.specs.Prelude.{ℕ, pos, negsuc, Bool, true, false, nat_lt, if◌then◌else◌, List, [], ◌∷◌, codes}
use Rattle.std.specs.Prelude.{Option, Some, None, option_map, Result, Ok, Err}
use Rattle.std.specs.Str.{bytes_eq}
use Rattle.erl_term.specs.Tree.{Tree, Trees, int, atom, pid, tuple, list}
use Rattle.erl_term.specs.Accessors.{atom_of, first_of, one_of, string_of}
use Rattle.erl_term.specs.Conversions.{given, rows_of}
use Rattle.release_words.specs.declared.fault.InstructionFault.{InstructionFault}
use Rattle.release_words.specs.declared.fault.InstructionFault.TheVariants.{Bad, OutOfProfile}
use Rattle.release_words.specs.declared.purge.Purge.{Purge}
use Rattle.release_words.specs.declared.purge.Purge.TheVariants.{Soft, Brutal}
use Rattle.release_words.specs.declared.start_type.StartType.{StartType}
use Rattle.release_words.specs.declared.start_type.StartType.TheVariants as types
use Rattle.release_words.specs.declared.timeout.Timeout.{Timeout}
use Rattle.release_words.specs.declared.timeout.Timeout.TheVariants.{Default, Infinity, Finite}
use Rattle.release_words.specs.Words.{is_version}

-- the first of two that is there
abbrev pub either_of : {A : Type 0} → Option A → Option A → Option A
either_of (Some x) o = Some x
either_of None o = o

-- what a name stands for in a table of names
abbrev pub named : {A : Type 0} → List (List ℕ × A) → List ℕ → Option A
named [] cs = None
named (entry ∷ others) cs = if bytes_eq cs entry.0 then Some entry.1 else named others cs

-- what an atom names in a table
abbrev pub word_of : {A : Type 0} → List (List ℕ × A) → Tree → Option A
word_of table t = given (atom_of t) (named table)

-- a row of one value
abbrev pub alone_of : {A : Type 0} → (Tree → Option A) → Trees → Option A
alone_of read ts = given (one_of ts) read

-- the value that stands first, and what stands behind it
abbrev pub leading_of : {A : Type 0} → (Tree → Option A) → Trees → Option (A × Trees)
leading_of read ts = given (first_of ts) (λ p. option_map (λ a. (a, p.1)) (read p.0))

-- the instruction that was read, or why there is none: it is out of the profile, or there is no such form
abbrev pub result_of : {I : Type 0} → Bool → Option I → Result I InstructionFault
result_of true o = Err OutOfProfile
result_of false (Some i) = Ok i
result_of false None = Err Bad

-- Words

abbrev pub purge_words : List (List ℕ × Purge)
purge_words = (codes "soft_purge", Soft) ∷ (codes "brutal_purge", Brutal) ∷ []

unfoldable pub purge_of : Tree → Option Purge
purge_of t = word_of purge_words t

abbrev pub start_type_words : List (List ℕ × StartType)
start_type_words =
    (codes "permanent", types.Permanent) ∷ (codes "transient", types.Transient) ∷ (codes "temporary", types.Temporary) ∷
    (codes "load", types.Load) ∷ (codes "none", types.None) ∷ []

unfoldable pub start_type_of : Tree → Option StartType
start_type_of t = word_of start_type_words t

abbrev pub timeout_words : List (List ℕ × Timeout)
timeout_words = (codes "default", Default) ∷ (codes "infinity", Infinity) ∷ []

-- the milliseconds of an integer that is above 0
abbrev pub finite_of : Tree → Option Timeout
finite_of (int (pos n)) = if nat_lt 0 n then Some (Finite n) else None
finite_of (int (negsuc n)) = None
finite_of (atom cs) = None
finite_of (pid n) = None
finite_of (tuple ts) = None
finite_of (list ts) = None

unfoldable pub timeout_of : Tree → Option Timeout
timeout_of t = either_of (word_of timeout_words t) (finite_of t)

unfoldable pub version_of : Tree → Option (List ℕ)
version_of t = given (string_of t) (λ cs. if is_version cs then Some cs else None)

-- `[name,..]`
abbrev pub names_of : Tree → Option (List (List ℕ))
names_of t = rows_of atom_of t
