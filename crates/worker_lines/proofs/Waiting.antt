-- What calls and installs have come to is told.
use Rattle.std.proofs.Common.{◌≡◌, ℕ, true, false, List, [], ◌∷◌, ◌++◌, Option, None, Some, Ok, Err, reverse, refl, sym, ap, subst, ◌∙◌}
use Rattle.std.proofs.lemmas.List.{reverse-reverse}
use Rattle.erl_term.specs.declared.atom.Atom.{Atom}
use Rattle.erl_term.specs.declared.term.Term.{Term}
use Rattle.undo_journal.specs.declared.error.JournalError.{JournalError}
use Rattle.undo_journal.specs.declared.error.JournalError.TheVariants as error
use Rattle.process_effects.specs.declared.told.Reply.{Reply}
use Rattle.process_table.specs.declared.body.ClientMessage.TheVariants as body
use Rattle.node_types.specs.Note.{Note}
use Rattle.node_types.specs.declared.event.Event.TheVariants as event
use Rattle.node_types.specs.declared.event.Refusal.{Refusal}
use Rattle.node_history.specs.declared.command.Command.{Command}
use Rattle.node_history.specs.declared.command.Command.TheVariants as command
use Rattle.node_history.specs.declared.command.Said.TheVariants as said
use Rattle.node_history.specs.declared.entry.Line.{Line}
use Rattle.workers.specs.Core.{AddsLine, SeatState}
use Rattle.workers.specs.Seats.{Lists, ListsFault}
use Rattle.workers.specs.LockError.{LockError}
use Rattle.workers.specs.LockError.TheVariants as lock
use Rattle.release_statuses.specs.declared.listed.Listed.{Listed}
use Rattle.shell_answers.specs.Answers.{fixed, line_of, replied}
use Rattle.shell_answers.specs.Refusals.{Subject, naming, naming_nothing}
use Rattle.shell_answers.specs.declared.fixed.Fixed.TheVariants as words
use Rattle.shell_requests.specs.declared.request.ArrivalKind.{ArrivalKind}
use Rattle.shell_requests.specs.declared.request.ArrivalKind.TheVariants as arrivals
use Rattle.shell_requests.specs.declared.request.ReleaseChange.{ReleaseChange}
use Rattle.shell_requests.specs.declared.request.ReleaseChange.TheVariants as releases
use Rattle.shell_exec.specs.Fate.{Fate}
use Rattle.shell_exec.specs.Fate.TheVariants.{Refused}
use Rattle.workers.specs.Calling.{CallFails, Calls}
use Rattle.workers.specs.Installing.{Drives, InstallFails}
use Rattle.shell_exec.specs.Upgrades.{subject_in}
use Rattle.workers.specs.Lines.{HasGrown, line, with_lines}
use Rattle.workers.specs.declared.error.WorkError.{WorkError}
use Rattle.workers.specs.declared.installing.InstallEnd.{InstallEnd}
use Rattle.workers.proofs.Behind.{behind}
use Rattle.workers.proofs.Growth.{grown_by_call, grown_by_install}
use Rattle.workers.proofs.Halted.{grown_halted}
use Rattle.workers.proofs.Unanswered.{grown_unanswered}
use Rattle.worker_lines.specs.Asking.{IsAnswered, done, event_told}
use Rattle.worker_lines.specs.Execution.{Alters, Installs, Sends, Uninstalled, Waits, call_waits, came, end_told, ended, never, no_memory_to_call, no_memory_to_install, patience, releases_unread, releases_unwritten, told_by_releases, told_by_vsn, wants_releases}
use Rattle.worker_lines.specs.Telling.{error_fate, error_told, work_fate, work_told}
use Rattle.worker_lines.proofs.Heard.{memory-told, told-alone}

-- lines came, and this was told of them
pub grown-told : (may : List Line → List ℕ → Type 0) (seat after : SeatState) (text appended answer : List ℕ) (grown : HasGrown seat after) → may grown.0 answer → appended ≡ text ++ answer → IsAnswered may seat after text appended
grown-told may seat after text appended answer grown may_be written =
    record { lines = grown.0; answer = answer; may_be = may_be; listed = grown.1; written = written }

-- asking for the releases is no undo, so it's not refused
abbrev AsksReleases : Command → Type 0
AsksReleases command.Which = Unit {0}
AsksReleases _ = ⊥

which-unrefused : (e : JournalError Refusal Note) (seat after : SeatState) → ListsFault command.Which e seat after → ⊥
which-unrefused (error.Step why) seat after lists = lists.0
which-unrefused error.Forgotten seat after lists = lists.0
which-unrefused error.DeadMark seat after lists = lists.0
which-unrefused error.SerialEnd seat after lists = lists.0
which-unrefused (error.Memory reached reports) seat after lists = subst AsksReleases lists.undo tt

module _ (name : Atom) (t : Term) (seat after : SeatState) (text appended : List ℕ) (fate : Option Fate) where
  pub call-told : (reply : Reply) → Calls name t seat after reply → (fate ≡ None) × (appended ≡ text ++ line_of (replied reply)) → IsAnswered (Waits seat name t fate) seat after text appended
  call-told reply calls said =
      let grown = grown_by_call name t seat after reply calls in
      subst (λ f. IsAnswered (Waits seat name t f) seat after text appended) (sym said.0)
      (grown-told (Waits seat name t None) seat after text appended (line_of (replied reply)) grown (came grown.0 reply (subst (λ (s : SeatState). Calls name t seat s reply) grown.1 calls)) said.1)

  pub uncalled-told : (why : WorkError) → CallFails name t call_waits seat after why → (fate ≡ work_fate why) × (appended ≡ text ++ line_of (work_told naming_nothing why)) → IsAnswered (Waits seat name t fate) seat after text appended
  uncalled-told why fails said =
      let grown = grown_unanswered name t call_waits why seat after fails in
      subst (λ f. IsAnswered (Waits seat name t f) seat after text appended) (sym said.0)
      (grown-told (Waits seat name t (work_fate why)) seat after text appended (line_of (work_told naming_nothing why)) grown (never grown.0 why (subst (λ (s : SeatState). CallFails name t call_waits seat s why) grown.1 fails)) said.1)

module _ (vsn : List ℕ) (seat after : SeatState) (text appended : List ℕ) (fate : Option Fate) where
  pub install-told : (end : InstallEnd) → Drives vsn patience seat after end → (fate ≡ None) × (appended ≡ text ++ line_of (end_told end)) → IsAnswered (Installs seat vsn fate) seat after text appended
  install-told end drives said =
      let grown = grown_by_install vsn patience seat after end drives in
      subst (λ f. IsAnswered (Installs seat vsn f) seat after text appended) (sym said.0)
      (grown-told (Installs seat vsn None) seat after text appended (line_of (end_told end)) grown (ended grown.0 end (subst (λ (s : SeatState). Drives vsn patience seat s end) grown.1 drives)) said.1)

  pub uninstalled-told : (why : WorkError) → wants_releases why ≡ false → InstallFails vsn patience seat after why → (fate ≡ work_fate why) × (appended ≡ text ++ line_of (work_told (naming vsn) why)) → IsAnswered (Installs seat vsn fate) seat after text appended
  uninstalled-told why by_vsn fails said =
      let grown = grown_halted vsn patience why seat after fails in
      subst (λ f. IsAnswered (Installs seat vsn f) seat after text appended) (sym said.0)
      (grown-told (Installs seat vsn (work_fate why)) seat after text appended (line_of (work_told (naming vsn) why)) grown (told_by_vsn grown.0 why (by_vsn, subst (λ (s : SeatState). InstallFails vsn patience seat s why) grown.1 fails)) said.1)

-- An install has not come to its end; `mid` is the seat then, and the releases that the node knows are asked for.
module _ (vsn : List ℕ) (start mid after : SeatState) (why : WorkError) (text appended : List ℕ) (fate : Option Fate) (by_releases : wants_releases why ≡ true) (fails : InstallFails vsn patience start mid why) where
  grown : HasGrown start mid
  grown = grown_halted vsn patience why start mid fails

  fails-by : Uninstalled true start vsn grown.0 why
  fails-by = (by_releases, subst (λ (s : SeatState). InstallFails vsn patience start s why) grown.1 fails)

  abbrev with-releases : (listed : List Listed) → AddsLine command.Which (Ok (said.Releases listed)) mid after → HasGrown start after
  with-releases listed adds =
      let which = line command.Which (Ok (said.Releases listed)) ∷ [] in
      (grown.0 ++ which, behind start mid after grown.0 which grown.1 adds)

  -- it's told by them
  pub refused-told : (listed known : List Listed) → known ≡ reverse listed → AddsLine command.Which (Ok (said.Releases listed)) mid after → (fate ≡ work_fate why) × (appended ≡ text ++ line_of (work_told (subject_in vsn known) why)) → IsAnswered (Installs start vsn fate) start after text appended
  refused-told listed known is adds told =
      let all = with-releases listed adds in
      let same : reverse known ≡ listed = ap reverse is ∙ reverse-reverse listed in
      let may : Installs start vsn (work_fate why) all.0 (line_of (work_told (subject_in vsn known) why)) =
      subst (λ (ls : List Listed). Installs start vsn (work_fate why) (grown.0 ++ line command.Which (Ok (said.Releases ls)) ∷ []) (line_of (work_told (subject_in vsn known) why))) same (told_by_releases grown.0 known why fails-by) in
      subst (λ f. IsAnswered (Installs start vsn f) start after text appended) (sym told.0) (grown-told (Installs start vsn (work_fate why)) start after text appended (line_of (work_told (subject_in vsn known) why)) all may told.1)

  -- there was no memory to tell by them
  pub unwritten-told : (listed : List Listed) → AddsLine command.Which (Ok (said.Releases listed)) mid after → (fate ≡ Some Refused) × (appended ≡ text ++ line_of (fixed words.Memory)) → IsAnswered (Installs start vsn fate) start after text appended
  unwritten-told listed adds told =
      subst (λ f. IsAnswered (Installs start vsn f) start after text appended) (sym told.0) (grown-told (Installs start vsn (Some Refused)) start after text appended (line_of (fixed words.Memory)) (with-releases listed adds) (releases_unwritten grown.0 listed why fails-by) told.1)

  -- they weren't told, for lack of memory
  pub unread-told : (unread : LockError) (about : Subject) → Lists command.Which (Err unread) mid after → (fate ≡ error_fate unread) × (appended ≡ text ++ line_of (error_told about unread)) → IsAnswered (Installs start vsn fate) start after text appended
  unread-told (lock.Journal e) about lists told = absurd (which-unrefused e mid after lists)
  unread-told lock.Memory about lists told =
      subst (λ f. IsAnswered (Installs start vsn f) start after text appended) (sym told.0) (grown-told (Installs start vsn (Some Refused)) start after text appended (line_of (fixed words.Memory)) (grown.0, lists ∙ grown.1) (releases_unread grown.0 why fails-by) told.1)

-- memory was refused before anything arrived
pub unsent-told : (kind : ArrivalKind) (name : Atom) (t : Term) (seat : SeatState) (text appended : List ℕ) (fate : Option Fate) → (fate ≡ Some Refused) × (appended ≡ text ++ line_of (fixed words.Memory)) → IsAnswered (Sends seat kind name t fate) seat seat text appended
unsent-told arrivals.Call name t seat text appended fate said =
    subst (λ f. IsAnswered (Waits seat name t f) seat seat text appended) (sym said.0) (told-alone (Waits seat name t (Some Refused)) seat text appended _ no_memory_to_call said.1)
unsent-told arrivals.Cast name t seat text appended fate said =
    memory-told (command.Perform (event.Arrive seat.number name (body.Cast t))) naming_nothing (event_told done) seat text appended fate said
unsent-told arrivals.Info name t seat text appended fate said =
    memory-told (command.Perform (event.Arrive seat.number name (body.Info t))) naming_nothing (event_told done) seat text appended fate said

-- and before the releases were changed
pub unaltered-told : (kind : ReleaseChange) (vsn : List ℕ) (seat : SeatState) (text appended : List ℕ) (fate : Option Fate) → (fate ≡ Some Refused) × (appended ≡ text ++ line_of (fixed words.Memory)) → IsAnswered (Alters seat kind vsn fate) seat seat text appended
unaltered-told releases.Install vsn seat text appended fate said =
    subst (λ f. IsAnswered (Installs seat vsn f) seat seat text appended) (sym said.0) (told-alone (Installs seat vsn (Some Refused)) seat text appended _ no_memory_to_install said.1)
unaltered-told releases.Remove vsn seat text appended fate said =
    memory-told (command.Perform (event.Remove vsn)) (naming vsn) (event_told done) seat text appended fate said
unaltered-told releases.MakePermanent vsn seat text appended fate said =
    memory-told (command.Perform (event.MakePermanent vsn)) (naming vsn) (event_told done) seat text appended fate said
unaltered-told releases.RebootOld vsn seat text appended fate said =
    memory-told (command.Perform (event.RebootOld vsn)) (naming vsn) (event_told done) seat text appended fate said
