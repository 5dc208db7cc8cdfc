-- Faults, as they are answered: `{error,{file,Path,Fault}}` of a file, `{error,{Kind,At}}` of a term.
use Rattle.std.specs.Prelude.{ℕ, pos, List, codes}
use Rattle.std.specs.Str.{chars}
use Rattle.erl_scan.specs.declared.error.Fault.{Fault}
use Rattle.erl_scan.specs.declared.error.Fault.TheVariants.{NotUtf8, BadChar, Unclosed, BadEscape, IntegerRange, Unsupported as NotRead, MissingDot, TooDeep}
use Rattle.erl_scan.specs.declared.error.Fault.TheVariants.{AtomTooLong, Syntax as NoText, Memory}
use Rattle.erl_parse.specs.declared.error.LangError.{LangError}
use Rattle.erl_parse.specs.declared.error.LangError.TheVariants.{Text, Syntax, Unsupported, DuplicateFunction, UnboundVariable, UndefinedLocal}
use Rattle.erl_term.specs.Rows.{integers}
use Rattle.erl_term.specs.Term.{tree}
use Rattle.erl_term.specs.Tree.{Tree, int, atom, list}
use Rattle.erl_term.specs.declared.term.Term.{Term}
use Rattle.shell_answers.specs.Answers.{pair, triple}
use Rattle.otp_files.specs.declared.error.FileError.{FileError}
use Rattle.otp_files.specs.declared.error.FileError.TheVariants as file
use Rattle.release_files.specs.declared.fault.FileFault.{FileFault}
use Rattle.release_files.specs.declared.fault.FileFault.TheVariants as fault

-- the word of a text's fault
abbrev pub kind_word : Fault → List ℕ
kind_word NotUtf8 = codes "not_utf8"
kind_word BadChar = codes "bad_char"
kind_word Unclosed = codes "unclosed"
kind_word BadEscape = codes "bad_escape"
kind_word IntegerRange = codes "integer_range"
kind_word NotRead = codes "unsupported"
kind_word MissingDot = codes "missing_dot"
kind_word TooDeep = codes "too_deep"
kind_word AtomTooLong = codes "atom_too_long"
kind_word NoText = codes "syntax"
kind_word Memory = codes "memory"

-- `{Kind,At}`
abbrev pub placed : List ℕ → ℕ → Tree
placed word at = pair (atom word) (int (pos at))

-- of a term
abbrev pub term_fault : Fault → ℕ → Tree
term_fault kind at = pair (atom (codes "error")) (placed (kind_word kind) at)

-- Of a source.

abbrev pub lang_fault : LangError → Tree
lang_fault (Text e) = placed (kind_word e.kind) e.at
lang_fault (Syntax at) = placed (codes "syntax") at
lang_fault (Unsupported at) = placed (codes "unsupported") at
lang_fault (DuplicateFunction at) = placed (codes "duplicate_function") at
lang_fault (UnboundVariable at) = placed (codes "unbound_variable") at
lang_fault (UndefinedLocal at) = placed (codes "undefined_local") at

-- of a file of one term
abbrev pub error_of : FileError → Tree
error_of (file.Text e) = placed (kind_word e.kind) e.at
error_of file.NoTerm = atom (codes "no_term")
error_of file.ManyTerms = atom (codes "many_terms")
error_of (file.Shape element) = placed (codes "shape") element
error_of file.DuplicateKey = atom (codes "duplicate_key")
error_of (file.BadInstruction index) = placed (codes "bad_instruction") index
error_of file.PatternVersion = atom (codes "pattern_version")
error_of (file.OutOfProfile index) = placed (codes "out_of_profile") index
error_of file.Memory = atom (codes "memory")

-- of any file
abbrev pub fault_of : FileFault → Tree
fault_of fault.Missing = atom (codes "missing")
fault_of (fault.File e) = error_of e
fault_of (fault.Lang e) = lang_fault e
fault_of fault.WrongModule = atom (codes "wrong_module")
fault_of fault.DuplicateModule = atom (codes "duplicate_module")
fault_of fault.Memory = atom (codes "memory")

abbrev pub file_fault : List ℕ → FileFault → Tree
file_fault path it =
    pair (atom (codes "error")) (triple (atom (codes "file")) (list (integers (chars path))) (fault_of it))

-- `{error,{start_failed,Id,Reason}}`
abbrev pub start_failed : Term → Term → Tree
start_failed child reason = pair (atom (codes "error")) (triple (atom (codes "start_failed")) (tree child) (tree reason))
