-- What lines ask for at the console, beside the commands of the shell: what only shows, and marks that have names.
use Rattle.std.specs.Prelude.{ℕ, Bool, true, false, if◌then◌else◌, List, [], ◌∷◌, codes, Option, None, Some, option_and_then}
use Rattle.std.specs.Map.{lookup}
use Rattle.std.specs.Option.{option_map}
use Rattle.std.specs.Str.{all_ascii_digits, bytes_eq, is_utf8}
use Rattle.shell_requests.specs.declared.console.ConsoleOperands.{ConsoleOperands}
use Rattle.shell_requests.specs.declared.console.ConsoleOperands.TheVariants.{Help, Alone, OneProcess, FromMark, OneMark, NewName, MarkName}
use Rattle.shell_requests.specs.declared.console.Listing.{Listing}
use Rattle.shell_requests.specs.declared.console.Listing.TheVariants.{Processes, Children, Jobs, Script, Releases}
use Rattle.shell_requests.specs.declared.request.MarkUse.{MarkUse}
use Rattle.shell_requests.specs.declared.request.MarkUse.TheVariants.{Undo, Forget}
use Rattle.shell_requests.specs.Request.{Who, name_of, process_of}
use Rattle.shell_requests.specs.Words.{behind_word, is_silent, number_of, only_word, words_of}

-- A mark, by its number or by the characters of a name.
pub data WhichMark : Type 0 where
  numbered : ℕ → WhichMark
  named : List ℕ → WhichMark

-- What only shows.
pub data Sight : Type 0 where
  help : Sight
  -- on the command of a word, by its bytes
  help_on : List ℕ → Sight
  listing : Listing → Sight
  queue : Who → Sight
  -- the steps from a mark on
  journal : ℕ → Sight
  preview : WhichMark → Sight

-- What a line asks for.
pub data ConsoleRequest : Type 0 where
  show : Sight → ConsoleRequest
  -- `mark NAME`
  name_mark : List ℕ → ConsoleRequest
  -- `undo NAME`, `forget NAME`
  to_named : MarkUse → List ℕ → ConsoleRequest

-- The commands. `mark` without a word, and `undo` and `forget` with a number, are the shell's.
abbrev pub console_commands : List (List ℕ × ConsoleOperands)
console_commands =
    (codes "help", Help) ∷ (codes "processes", Alone Processes) ∷ (codes "queue", OneProcess)
    ∷ (codes "children", Alone Children) ∷ (codes "jobs", Alone Jobs) ∷ (codes "journal", FromMark)
    ∷ (codes "script", Alone Script) ∷ (codes "releases", Alone Releases) ∷ (codes "preview", OneMark)
    ∷ (codes "mark", NewName) ∷ (codes "undo", MarkName Undo) ∷ (codes "forget", MarkName Forget) ∷ []

abbrev pub console_operands_of : List ℕ → Option ConsoleOperands
console_operands_of verb = lookup (bytes_eq verb) console_commands

-- the name of a mark that a word is: it has at most 255 characters, and is not all digits
abbrev pub mark_name_of : List ℕ → Option (List ℕ)
mark_name_of word = if all_ascii_digits word then None else name_of word

-- the mark that a word names: by its number if it is all digits
abbrev pub mark_of : List ℕ → Option WhichMark
mark_of word = if all_ascii_digits word then option_map numbered (number_of word) else option_map named (name_of word)

-- What the text after a command with these operands asks for.

abbrev pub of_help : List (List ℕ) → Option ConsoleRequest
of_help [] = Some (show help)
of_help (word ∷ []) = Some (show (help_on word))
of_help (word ∷ other ∷ words) = None

abbrev pub of_listing : Listing → List (List ℕ) → Option ConsoleRequest
of_listing it [] = Some (show (listing it))
of_listing it (word ∷ words) = None

abbrev pub of_queue : List ℕ → Option ConsoleRequest
of_queue word = option_map (λ who. show (queue who)) (process_of word)

abbrev pub of_journal : List (List ℕ) → Option ConsoleRequest
of_journal [] = Some (show (journal 0))
of_journal (word ∷ []) = option_map (λ mark. show (journal mark)) (number_of word)
of_journal (word ∷ other ∷ words) = None

abbrev pub of_preview : List ℕ → Option ConsoleRequest
of_preview word = option_map (λ mark. show (preview mark)) (mark_of word)

abbrev pub of_new_name : List ℕ → Option ConsoleRequest
of_new_name word = option_map name_mark (mark_name_of word)

abbrev pub of_mark_name : MarkUse → List ℕ → Option ConsoleRequest
of_mark_name kind word = option_map (to_named kind) (mark_name_of word)

abbrev pub console_request_by : ConsoleOperands → List (List ℕ) → Option ConsoleRequest
console_request_by Help words = of_help words
console_request_by (Alone it) words = of_listing it words
console_request_by OneProcess words = option_and_then of_queue (only_word words)
console_request_by FromMark words = of_journal words
console_request_by OneMark words = option_and_then of_preview (only_word words)
console_request_by NewName words = option_and_then of_new_name (only_word words)
console_request_by (MarkName kind) words = option_and_then (of_mark_name kind) (only_word words)

-- what a text asks for: its first word is a command's, and its operands are after it
abbrev pub console_request_behind : List (List ℕ) → List ℕ → Option ConsoleRequest
console_request_behind [] rest = None
console_request_behind (verb ∷ words) rest =
    option_and_then (λ operands. console_request_by operands (words_of rest)) (console_operands_of verb)

abbrev pub console_request_of : List ℕ → Option ConsoleRequest
console_request_of text = console_request_behind (words_of text) (behind_word text)

-- What a line asks for of the console alone. Of any other line the console is the shell.
abbrev pub console_request : List ℕ → Option ConsoleRequest
console_request line = if is_silent line then None else (if is_utf8 line then console_request_of line else None)
