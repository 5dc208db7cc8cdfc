-- What a line adds to the list of the seat that asks, and what is told of it: a table by the command.
use Rattle.std.specs.Prelude.{◌≡◌, ◌≢◌, ℕ, Bool, true, false, List, [], ◌∷◌, ◌++◌, reverse, Option, None, Some, Ok}
use Rattle.std.specs.Str.{chars}
use Rattle.erl_parse.specs.Sources.{IsNoSource, IsSource}
use Rattle.erl_parse.specs.Telling.{Says}
use Rattle.erl_parse.specs.declared.error.LangError.{LangError}
use Rattle.erl_ir.specs.Module.{Forms}
use Rattle.erl_scan.specs.declared.error.Fault.{Fault as TextFault}
use Rattle.erl_term.specs.Term.{tree}
use Rattle.erl_term.specs.Tree.{Tree}
use Rattle.erl_term.specs.declared.term.Term.{Term}
use Rattle.erl_term.specs.declared.term.Term.TheVariants.{Atom}
use Rattle.process_effects.specs.declared.told.Reply.{Reply}
use Rattle.process_table.specs.declared.body.ClientMessage.TheVariants as body
use Rattle.release_files.specs.Faults.{IsFirstFault}
use Rattle.release_files.specs.Files.{Contents, file_of}
use Rattle.release_files.specs.Releases.{IsRelease}
use Rattle.release_files.specs.declared.fault.FileFault.{FileFault}
use Rattle.release_files.specs.declared.fault.FileFault.TheVariants as file
use Rattle.release_statuses.specs.declared.listed.Listed.{Listed}
use Rattle.release_table.specs.declared.table.Release.{Release}
use Rattle.node_types.specs.declared.event.Event.{Event}
use Rattle.node_types.specs.declared.event.Event.TheVariants as event
use Rattle.node_types.specs.declared.event.Answer.{Answer}
use Rattle.node_types.specs.declared.event.Refusal.{Refusal}
use Rattle.node_types.specs.declared.event.Refusal.TheVariants as refusal
use Rattle.install_checks.specs.declared.installing.InstallError.TheVariants as install
use Rattle.undo_journal.specs.declared.error.JournalError.TheVariants as error
use Rattle.workers.specs.LockError.TheVariants as lock
use Rattle.node_history.specs.declared.command.Command.TheVariants as command
use Rattle.node_history.specs.declared.command.Said.TheVariants as said
use Rattle.node_history.specs.declared.entry.Line.{Line}
use Rattle.workers.specs.Core.{SeatState}
use Rattle.shell_answers.specs.Answers.{finished, fixed, line_of, loaded, recovered, replied, restarted, set_unpacked}
use Rattle.shell_answers.specs.Faults.{file_fault, term_fault}
use Rattle.shell_answers.specs.Refusals.{Subject, naming, naming_nothing}
use Rattle.shell_answers.specs.declared.fixed.Fixed.TheVariants as words
use Rattle.shell_exec.specs.Execution.{change_event}
use Rattle.shell_requests.specs.Terms.{IsRead, one, not_one, faulty}
use Rattle.shell_exec.specs.Performing.{revived_in, swept_in, truth_in}
use Rattle.shell_exec.specs.Relups.{RelupTold}
use Rattle.shell_requests.specs.Request.{Request, Spoken, ask, change, load, undo, forget, commit, arrive, serve, revive, unpack, release, relup, advance, sweep, too_long, silent, unknown, asks}
use Rattle.shell_requests.specs.declared.request.ArrivalKind.{ArrivalKind}
use Rattle.shell_requests.specs.declared.request.ArrivalKind.TheVariants as arrivals
use Rattle.shell_requests.specs.declared.request.Question.{Question}
use Rattle.shell_requests.specs.declared.request.Question.TheVariants as questions
use Rattle.shell_requests.specs.declared.request.ReleaseChange.{ReleaseChange}
use Rattle.shell_requests.specs.declared.request.ReleaseChange.TheVariants as releases
use Rattle.shell_exec.specs.Fate.{Fate}
use Rattle.shell_exec.specs.Fate.TheVariants.{Refused}
use Rattle.shell_exec.specs.Upgrades.{release_event, subject_in}
use Rattle.worker_lines.specs.Asking.{Holds, done, event_told, floor_told, mark_told, releases_told, replies_told, undone_told}
use Rattle.worker_lines.specs.Telling.{work_fate, work_told}
use Rattle.workers.specs.Calling.{CallFails, Calls}
use Rattle.workers.specs.Installing.{Drives, InstallFails}
use Rattle.workers.specs.Lines.{line, with_lines}
use Rattle.workers.specs.declared.error.WorkError.{WorkError}
use Rattle.workers.specs.declared.error.WorkError.TheVariants as work
use Rattle.workers.specs.declared.installing.InstallEnd.{InstallEnd}
use Rattle.workers.specs.declared.installing.InstallEnd.TheVariants as ends

-- Nothing is asked of the node, and this is told.
abbrev pub TellsAlone : Tree → Option Fate → List Line → List ℕ → Type 0
TellsAlone answer fate lines text = (fate ≡ None) × (lines ≡ []) × (text ≡ line_of answer)

abbrev pub SteppedOnly : Option Fate → List Line → List ℕ → Type 0
SteppedOnly fate lines text = TellsAlone (fixed words.SteppedOnly) fate lines text

-- An event is asked for, in one holding.
abbrev pub Performs : Event → Subject → (Answer → Tree) → Option Fate → List Line → List ℕ → Type 0
Performs e about tell fate lines text = Holds (command.Perform e) about (event_told tell) fate lines text

-- `mark`, `replies`, `which`; `modules` and `apps` are told in the stepped mode alone
abbrev pub Asks : Question → Option Fate → List Line → List ℕ → Type 0
Asks questions.Modules fate lines text = SteppedOnly fate lines text
Asks questions.Apps fate lines text = SteppedOnly fate lines text
Asks questions.Replies fate lines text = Holds (command.Replies 0) naming_nothing replies_told fate lines text
Asks questions.Mark fate lines text = Holds command.Mark naming_nothing mark_told fate lines text
Asks questions.Which fate lines text = Holds command.Which naming_nothing releases_told fate lines text

-- `load MOD PATH`: what stands against the file is told first.
pub data Loads (files : Contents) (name path : List ℕ) : Option Fate → List Line → List ℕ → Type 0 where
  missing : file_of path files ≡ None → Loads files name path None [] (line_of (file_fault path file.Missing))
  no_source : (bytes : List ℕ) (why : LangError) → file_of path files ≡ Some bytes → Says bytes why → IsNoSource bytes →
      Loads files name path None [] (line_of (file_fault path (file.Lang why)))
  another : (bytes : List ℕ) (m : Forms) → file_of path files ≡ Some bytes → IsSource bytes m → m.name ≢ name →
      Loads files name path None [] (line_of (file_fault path file.WrongModule))
  read : (bytes : List ℕ) (m : Forms) (fate : Option Fate) (lines : List Line) (text : List ℕ) → file_of path files ≡ Some bytes →
      IsSource bytes m → m.name ≡ name → Performs (event.Load m) naming_nothing (λ _. loaded m.name) fate lines text →
      Loads files name path fate lines text
  no_memory_to_load : Loads files name path (Some Refused) [] (line_of (fixed words.Memory))

-- how many waits a call waits for its reply
abbrev pub call_waits : ℕ
call_waits = 1000000

-- `call NAME TERM`, by the term: its reply is told; or why there is none.
pub data Waits (seat : SeatState) (name : List ℕ) (t : Term) : Option Fate → List Line → List ℕ → Type 0 where
  came : (lines : List Line) (reply : Reply) → Calls name t seat (with_lines seat lines) reply →
      Waits seat name t None lines (line_of (replied reply))
  never : (lines : List Line) (why : WorkError) → CallFails name t call_waits seat (with_lines seat lines) why →
      Waits seat name t (work_fate why) lines (line_of (work_told naming_nothing why))
  no_memory_to_call : Waits seat name t (Some Refused) [] (line_of (fixed words.Memory))

-- `call`, `cast`, `send NAME TERM`, by the term
abbrev pub Sends : SeatState → ArrivalKind → List ℕ → Term → Option Fate → List Line → List ℕ → Type 0
Sends seat arrivals.Call name t fate lines text = Waits seat name t fate lines text
Sends seat arrivals.Cast name t fate lines text = Performs (event.Arrive seat.number name (body.Cast t)) naming_nothing done
    fate lines text
Sends seat arrivals.Info name t fate lines text = Performs (event.Arrive seat.number name (body.Info t)) naming_nothing done
    fate lines text

-- and by its text: what stands against that is told first
pub data Arrives (seat : SeatState) (kind : ArrivalKind) (name term : List ℕ) : Option Fate → List Line → List ℕ → Type 0 where
  no_text : (fault : TextFault) (at : ℕ) → IsRead term (faulty fault at) →
      Arrives seat kind name term None [] (line_of (term_fault fault at))
  several : IsRead term not_one → Arrives seat kind name term None [] (line_of (fixed words.BadCommand))
  read : (t : Term) (fate : Option Fate) (lines : List Line) (text : List ℕ) → IsRead term (one (tree t)) →
      Sends seat kind name t fate lines text → Arrives seat kind name term fate lines text
  no_memory_to_read : Arrives seat kind name term (Some Refused) [] (line_of (fixed words.Memory))

-- `unpack VSN`: what stands against the files of the release is told first.
pub data Unpacks (files : Contents) (vsn : List ℕ) : Option Fate → List Line → List ℕ → Type 0 where
  no_release : (path : List ℕ) (why : FileFault) → IsFirstFault files vsn path why →
      Unpacks files vsn None [] (line_of (file_fault path why))
  release_read : (r : Release) (fate : Option Fate) (lines : List Line) (text : List ℕ) → IsRelease files vsn r →
      Performs (event.SetUnpacked r) (naming (chars vsn)) (λ _. set_unpacked (chars vsn)) fate lines text →
      Unpacks files vsn fate lines text
  no_memory_to_unpack : Unpacks files vsn (Some Refused) [] (line_of (fixed words.Memory))

-- the end of an install
abbrev pub end_told : InstallEnd → Tree
end_told (ends.Installed vsn description) = finished vsn description
end_told (ends.Recovered reason) = recovered reason
end_told (ends.Restarted reason) = restarted reason

-- how often processes that run are waited for before an install passes them over
abbrev pub patience : ℕ
patience = 1000

-- why an install is refused is told by the releases that the node knows: by the one that runs, and the script that leads from it

abbrev pub is_by_releases : Refusal → Bool
is_by_releases (refusal.OfInstall install.NoMatchingRelup) = true
is_by_releases (refusal.OfInstall (install.OldProcesses index)) = true
is_by_releases _ = false

abbrev pub wants_releases : WorkError → Bool
wants_releases (work.Lock (lock.Journal (error.Step why))) = is_by_releases why
wants_releases _ = false

-- An install has not come to its end, and why is told by the releases, or by the version alone.
abbrev pub Uninstalled : Bool → SeatState → List ℕ → List Line → WorkError → Type 0
Uninstalled by_releases seat vsn lines why =
    (wants_releases why ≡ by_releases) × InstallFails vsn patience seat (with_lines seat lines) why

-- `install VSN`: its end is told; or why it has not come to one. Where that is told by the releases that the node knows, they are
-- asked for behind it, `known` in the order in which the node came to know them; if there is no memory for that, memory is told.
pub data Installs (seat : SeatState) (vsn : List ℕ) : Option Fate → List Line → List ℕ → Type 0 where
  ended : (lines : List Line) (end : InstallEnd) → Drives vsn patience seat (with_lines seat lines) end →
      Installs seat vsn None lines (line_of (end_told end))
  told_by_vsn : (lines : List Line) (why : WorkError) → Uninstalled false seat vsn lines why →
      Installs seat vsn (work_fate why) lines (line_of (work_told (naming vsn) why))
  told_by_releases : (lines : List Line) (known : List Listed) (why : WorkError) → Uninstalled true seat vsn lines why →
      Installs seat vsn (work_fate why) (lines ++ line command.Which (Ok (said.Releases (reverse known))) ∷ [])
      (line_of (work_told (subject_in vsn known) why))
  releases_unread : (lines : List Line) (why : WorkError) → Uninstalled true seat vsn lines why →
      Installs seat vsn (Some Refused) lines (line_of (fixed words.Memory))
  releases_unwritten : (lines : List Line) (known : List Listed) (why : WorkError) → Uninstalled true seat vsn lines why →
      Installs seat vsn (Some Refused) (lines ++ line command.Which (Ok (said.Releases known)) ∷
      []) (line_of (fixed words.Memory))
  no_memory_to_install : Installs seat vsn (Some Refused) [] (line_of (fixed words.Memory))

-- `remove`, `install`, `permanent`, `reboot VSN`
abbrev pub Alters : SeatState → ReleaseChange → List ℕ → Option Fate → List Line → List ℕ → Type 0
Alters seat releases.Install vsn fate lines text = Installs seat vsn fate lines text
Alters seat kind vsn fate lines text = Performs (release_event kind vsn) (naming vsn) done fate lines text

-- `relup FROM TO`
abbrev pub TellsRelup : Contents → List ℕ → List ℕ → Option Fate → List Line → List ℕ → Type 0
TellsRelup files from to fate lines text =
    (answer : Tree) × RelupTold files from to fate answer × (lines ≡ []) × (text ≡ line_of answer)

-- The table: what a request adds to the seat's list, and what is told of it. Where memory was refused before the node was
-- asked, that is told, and nothing is listed.
abbrev pub Executes : Contents → SeatState → Request → Option Fate → List Line → List ℕ → Type 0
Executes files seat (ask question) fate lines text = Asks question fate lines text
Executes files seat (change kind name) fate lines text = Performs (change_event kind name) naming_nothing truth_in fate lines text
Executes files seat (load name path) fate lines text = Loads files name path fate lines text
Executes files seat (undo mark) fate lines text = Holds (command.Undo mark) naming_nothing undone_told fate lines text
Executes files seat (forget mark) fate lines text = Holds (command.Forget mark) naming_nothing (floor_told mark) fate lines text
Executes files seat (commit job) fate lines text = SteppedOnly fate lines text
Executes files seat (arrive kind name term) fate lines text = Arrives seat kind name term fate lines text
Executes files seat (serve service who) fate lines text = SteppedOnly fate lines text
Executes files seat (revive app id) fate lines text =
    Performs (event.Revive app (Atom id)) naming_nothing revived_in fate lines text
Executes files seat (unpack vsn) fate lines text = Unpacks files vsn fate lines text
Executes files seat (release kind vsn) fate lines text = Alters seat kind (chars vsn) fate lines text
Executes files seat (relup from to) fate lines text = TellsRelup files from to fate lines text
Executes files seat (advance give_up) fate lines text = SteppedOnly fate lines text
Executes files seat sweep fate lines text = Performs event.Sweep naming_nothing swept_in fate lines text

-- and what a line does
abbrev pub ExecutesLine : Contents → SeatState → Spoken → Option Fate → List Line → List ℕ → Type 0
ExecutesLine files seat too_long fate lines text = TellsAlone (fixed words.LineTooLong) fate lines text
ExecutesLine files seat silent fate lines text = (fate ≡ None) × (lines ≡ []) × (text ≡ [])
ExecutesLine files seat unknown fate lines text = TellsAlone (fixed words.BadCommand) fate lines text
ExecutesLine files seat (asks request) fate lines text = Executes files seat request fate lines text
