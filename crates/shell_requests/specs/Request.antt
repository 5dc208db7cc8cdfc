-- What lines ask for: the commands, each with its word and its operands, and how a line is read as one.
use Rattle.std.specs.Prelude.{ℕ, nat_lt, Bool, true, false, if◌then◌else◌, List, [], ◌∷◌, length, codes, Option, None, Some, option_and_then}
use Rattle.std.specs.Map.{lookup}
use Rattle.std.specs.Option.{option_map}
use Rattle.std.specs.Str.{all_ascii_digits, bytes_eq, chars, is_utf8}
use Rattle.shell_requests.specs.declared.request.ArrivalKind.{ArrivalKind}
use Rattle.shell_requests.specs.declared.request.ArrivalKind.TheVariants.{Call, Cast, Info}
use Rattle.shell_requests.specs.declared.request.CodeOperation.{CodeOperation}
use Rattle.shell_requests.specs.declared.request.CodeOperation.TheVariants.{Delete, Purge, SoftPurge}
use Rattle.shell_requests.specs.declared.request.MarkUse.{MarkUse}
use Rattle.shell_requests.specs.declared.request.MarkUse.TheVariants.{Undo, Forget}
use Rattle.shell_requests.specs.declared.request.Question.{Question}
use Rattle.shell_requests.specs.declared.request.Question.TheVariants.{Modules, Apps, Replies, Mark as MarkNow, Which}
use Rattle.shell_requests.specs.declared.request.ReleaseChange.{ReleaseChange}
use Rattle.shell_requests.specs.declared.request.ReleaseChange.TheVariants.{Remove, Install, MakePermanent, RebootOld}
use Rattle.shell_requests.specs.declared.request.Service.{Service}
use Rattle.shell_requests.specs.declared.request.Service.TheVariants.{Take, Retake, Show}
use Rattle.shell_requests.specs.declared.request.CommandOperands.{CommandOperands}
use Rattle.shell_requests.specs.declared.request.CommandOperands.TheVariants.{Nothing, Module, ModuleAndPath, Mark, Result, NameAndTerm, Process, AppAndChild, Unpack, Version, TwoVersions, Step, Sweep}
use Rattle.shell_requests.specs.Words.{behind_word, is_silent, number_of, only_word, two_words, with_rest, words_of}

-- A process, by its pid or by the characters of its name.
pub data Who : Type 0 where
  numbered : ℕ → Who
  named : List ℕ → Who

-- A request. Modules, processes, applications and children are named by their characters, a file and a version by its
-- bytes; a term stands as its text's bytes.
pub data Request : Type 0 where
  ask : Question → Request
  change : CodeOperation → List ℕ → Request
  load : List ℕ → List ℕ → Request
  undo : ℕ → Request
  forget : ℕ → Request
  commit : ℕ → Request
  arrive : ArrivalKind → List ℕ → List ℕ → Request
  serve : Service → Who → Request
  revive : List ℕ → List ℕ → Request
  unpack : List ℕ → Request
  release : ReleaseChange → List ℕ → Request
  -- of one version and another
  relup : List ℕ → List ℕ → Request
  -- whether processes that run are passed over
  advance : Bool → Request
  sweep : Request

-- the commands
abbrev pub commands : List (List ℕ × CommandOperands)
commands =
    (codes "modules", Nothing Modules) ∷ (codes "apps", Nothing Apps) ∷ (codes "replies", Nothing Replies)
    ∷ (codes "mark", Nothing MarkNow) ∷ (codes "delete", Module Delete) ∷ (codes "purge", Module Purge)
    ∷ (codes "soft_purge", Module SoftPurge) ∷ (codes "load", ModuleAndPath) ∷ (codes "undo", Mark Undo)
    ∷ (codes "forget", Mark Forget) ∷ (codes "commit", Result) ∷ (codes "call", NameAndTerm Call) ∷
    (codes "cast", NameAndTerm Cast)
    ∷ (codes "send", NameAndTerm Info) ∷ (codes "take", Process Take) ∷ (codes "retake", Process Retake)
    ∷ (codes "proc", Process Show) ∷ (codes "revive", AppAndChild) ∷ (codes "which", Nothing Which)
    ∷ (codes "unpack", Unpack) ∷ (codes "remove", Version Remove) ∷ (codes "install", Version Install)
    ∷ (codes "step", Step) ∷ (codes "permanent", Version MakePermanent) ∷ (codes "reboot", Version RebootOld)
    ∷ (codes "sweep", Sweep) ∷ (codes "relup", TwoVersions) ∷ []

abbrev pub operands_of : List ℕ → Option CommandOperands
operands_of verb = lookup (bytes_eq verb) commands

-- the name that a word is: its characters, of which there are at most 255
abbrev pub name_of : List ℕ → Option (List ℕ)
name_of word = if nat_lt 255 (length (chars word)) then None else Some (chars word)

-- the process that a word names: where it is digits, the one with this pid
abbrev pub process_of : List ℕ → Option Who
process_of word = if all_ascii_digits word then option_map numbered (number_of word) else option_map named (name_of word)

-- What a text asks for, behind a command with these operands.

abbrev pub alone : Question → List (List ℕ) → Option Request
alone question [] = Some (ask question)
alone question (w ∷ ws) = None

abbrev pub of_module : CodeOperation → List ℕ → Option Request
of_module kind word = option_map (change kind) (name_of word)

abbrev pub of_file : List ℕ × List ℕ → Option Request
of_file words = option_map (λ name. load name words.1) (name_of words.0)

abbrev pub mark_for : MarkUse → ℕ → Request
mark_for Undo mark = undo mark
mark_for Forget mark = forget mark

abbrev pub to_mark : MarkUse → List ℕ → Option Request
to_mark kind word = option_map (mark_for kind) (number_of word)

abbrev pub of_result : List ℕ → Option Request
of_result word = option_map commit (number_of word)

abbrev pub of_arrival : ArrivalKind → List ℕ × List ℕ → Option Request
of_arrival kind it = option_map (λ name. arrive kind name it.1) (name_of it.0)

abbrev pub of_process : Service → List ℕ → Option Request
of_process service word = option_map (serve service) (process_of word)

abbrev pub of_child : List ℕ × List ℕ → Option Request
of_child words = option_and_then (λ app. option_map (revive app) (name_of words.1)) (name_of words.0)

abbrev pub of_two_releases : List ℕ × List ℕ → Request
of_two_releases versions = relup versions.0 versions.1

-- the script goes on: no word, or `give_up`
abbrev pub to_advance : List (List ℕ) → Option Request
to_advance [] = Some (advance false)
to_advance (word ∷ []) = if bytes_eq word (codes "give_up") then Some (advance true) else None
to_advance (word ∷ other ∷ words) = None

abbrev pub to_sweep : List (List ℕ) → Option Request
to_sweep [] = Some sweep
to_sweep (word ∷ words) = None

abbrev pub request_by : CommandOperands → List ℕ → Option Request
request_by (Nothing question) rest = alone question (words_of rest)
request_by (Module kind) rest = option_and_then (of_module kind) (only_word (words_of rest))
request_by ModuleAndPath rest = option_and_then of_file (two_words (words_of rest))
request_by (Mark kind) rest = option_and_then (to_mark kind) (only_word (words_of rest))
request_by Result rest = option_and_then of_result (only_word (words_of rest))
request_by (NameAndTerm kind) rest = option_and_then (of_arrival kind) (with_rest (words_of rest) (behind_word rest))
request_by (Process service) rest = option_and_then (of_process service) (only_word (words_of rest))
request_by AppAndChild rest = option_and_then of_child (two_words (words_of rest))
request_by Unpack rest = option_map unpack (only_word (words_of rest))
request_by (Version kind) rest = option_map (release kind) (only_word (words_of rest))
request_by TwoVersions rest = option_map of_two_releases (two_words (words_of rest))
request_by Step rest = to_advance (words_of rest)
request_by Sweep rest = to_sweep (words_of rest)

-- what a text asks for, if it does: its first word is a command's, and its operands stand behind it
abbrev pub request_behind : List (List ℕ) → List ℕ → Option Request
request_behind [] rest = None
request_behind (verb ∷ words) rest = option_and_then (λ operands. request_by operands rest) (operands_of verb)

abbrev pub request_of : List ℕ → Option Request
request_of text = request_behind (words_of text) (behind_word text)

-- What a line says.
pub data Spoken : Type 0 where
  -- it has too many bytes
  too_long : Spoken
  -- it is blank, or a comment, and has no answer
  silent : Spoken
  -- it is no command
  unknown : Spoken
  asks : Request → Spoken

abbrev pub asked : Option Request → Spoken
asked None = unknown
asked (Some request) = asks request

-- A line: its length comes first, then whether it is silent, then whether it is UTF-8.
abbrev pub spoken : Option (List ℕ) → Spoken
spoken None = too_long
spoken (Some line) = if is_silent line then silent else (if is_utf8 line then asked (request_of line) else unknown)
