-- Entries that are made.
use Rattle.std.proofs.Common.{◌≡◌, ◌+◌, ℕ, length, List, [], ◌∷◌, ◌++◌, None, Result, Ok, Err, refl, sym, ap, ◌∙◌, subst}
use Rattle.release_table.specs.declared.table.Release.{Release}
use Rattle.std.proofs.lemmas.List.{length-append}
use Rattle.undo_journal.specs.Timeline.{opened}
use Rattle.node_history.proofs.Longer.{Legal-push}
use Rattle.node_history.specs.History.{Gives, Legal, NodeTimeline}
use Rattle.node_history.specs.declared.command.Command.{Command}
use Rattle.node_history.specs.declared.command.Command.TheVariants as command
use Rattle.node_history.specs.declared.command.Fault.{Fault}
use Rattle.node_history.specs.declared.command.Fault.TheVariants as fault
use Rattle.node_history.specs.declared.command.Said.{Said}
use Rattle.node_history.specs.declared.command.Said.TheVariants as said
use Rattle.node_history.specs.declared.entry.Entry.{Entry}
use Rattle.node_history.specs.declared.entry.Line.{Line}
use Rattle.node_commands.specs.Acting.{IsDone}
use Rattle.node_lock.specs.Entering.{Puts, result_of}
use Rattle.node_lock.specs.Core.{Adds, AddsStop, CoreState, Enters, HasLegalHistory, SeatState}
use Rattle.node_lock.specs.declared.error.LockError.{LockError}
use Rattle.node_commands.specs.declared.given.Acted.{Acted}
use Rattle.node_commands.specs.declared.given.Acted.TheVariants as acted

abbrev with_entries : CoreState → List Entry → NodeTimeline → CoreState
with_entries old entries t = record { booted = old.booted; history = entries; timeline = t }

abbrev with_lines : SeatState → List Line → SeatState
with_lines seat lines = record { number = seat.number; lines = lines }

-- an entry that is what its command gives makes the history longer, which stays legal
legal-one : (release : Release) (old : CoreState) (t : NodeTimeline) (e : Entry) (entries : List Entry) → HasLegalHistory release old → Gives old.timeline old.history e.seat e.command e.answer e.note t → entries ≡ old.history ++ e ∷ [] → HasLegalHistory release (with_entries old entries t)
legal-one release old t e entries kept gives is = record {
  booted = kept.booted;
  legal = subst (λ (es : List Entry). Legal (opened old.booted) [] es t) (sym is) (Legal-push (opened old.booted) [] old.history old.timeline t e kept.legal gives);
}

pub legal : (release : Release) (c listed : Command) (it : Acted) (old : CoreState) (seat : SeatState) (r : Result Said LockError) (entries : List Entry) (lines : List Line) (t : NodeTimeline) → HasLegalHistory release old → IsDone old.timeline old.history seat.number c it t → Puts seat.number c listed it old.history seat.lines r entries lines → HasLegalHistory release (with_entries old entries t)
legal release c listed (acted.Whole g) old seat r entries lines t kept done puts =
    legal-one release old t record { seat = seat.number; command = c; answer = g.entered; note = g.note } entries kept done.0 puts.0
legal release c listed (acted.Stopped s) old seat r entries lines t kept (mark, is, stopped) puts =
    let gives = subst (λ (told : Result Said Fault). Gives old.timeline old.history seat.number (command.Undo s.reached) told None t) (ap (λ report. Ok (said.Undone report)) (sym stopped.entered)) (stopped.gives old.history seat.number) in
    legal-one release old t record { seat = seat.number; command = command.Undo s.reached; answer = Ok (said.Undone s.entered); note = None } entries kept gives puts.0

told-whole : (c : Command) (answer : Result Said Fault) (old : CoreState) (seat : SeatState) (new : CoreState) (after : SeatState) → Adds c answer old seat new after → Enters c (result_of answer) old seat new after
told-whole c (Ok it) old seat new after adds = adds
told-whole c (Err (fault.Refused why)) old seat new after adds = adds
told-whole c (Err fault.Forgotten) old seat new after adds = adds
told-whole c (Err fault.DeadMark) old seat new after adds = adds
told-whole c (Err fault.SerialEnd) old seat new after adds = adds

line-of : (c listed : Command) (answer other : Result Said Fault) → listed ≡ c → other ≡ answer → (lines more : List Line) → more ≡ lines ++ record { command = listed; answer = other } ∷ [] → more ≡ lines ++ record { command = c; answer = answer } ∷ []
line-of c listed answer other same told lines more is =
    is ∙ (λ i. lines ++ record { command = same i; answer = told i } ∷ [])

pub enters : (c listed : Command) (it : Acted) (old : CoreState) (seat : SeatState) (r : Result Said LockError) (entries : List Entry) (lines : List Line) (t : NodeTimeline) → listed ≡ c → IsDone old.timeline old.history seat.number c it t → Puts seat.number c listed it old.history seat.lines r entries lines → Enters c r old seat (with_entries old entries t) (with_lines seat lines)
enters c listed (acted.Whole g) old seat r entries lines t same done puts =
    let new = with_entries old entries t in
    let after = with_lines seat lines in
    let adds : Adds c g.entered old seat new after = record {
      note = g.note;
      gives = done.0;
      history = puts.0;
      booted = refl;
      line = ap (λ ls. with_lines seat ls) (line-of c listed g.entered g.listed same done.1.0 seat.lines lines puts.1);
    } in
    subst (λ (x : Result Said LockError). Enters c x old seat new after) (sym (puts.2 ∙ ap (λ a. result_of a) done.1.1)) (told-whole c g.entered old seat new after adds)
enters c listed (acted.Stopped s) old seat r entries lines t same (mark, is, stopped) puts =
    let new = with_entries old entries t in
    let after = with_lines seat lines in
    let undo = command.Undo s.reached in
    let adds : Adds undo (Ok (said.Undone stopped.report)) old seat new after = record {
      note = None;
      gives = stopped.gives old.history seat.number;
      history = puts.0 ∙ (λ i. old.history ++ record { seat = seat.number; command = undo; answer = Ok (said.Undone (stopped.entered i)); note = None } ∷ []);
      booted = refl;
      line = ap (λ ls. with_lines seat ls) (line-of undo undo (Ok (said.Undone stopped.report)) (Ok (said.Undone s.listed)) refl (ap (λ report. Ok (said.Undone report)) stopped.listed) seat.lines lines puts.1);
    } in
    let stops : AddsStop c s.reached s.told.items old seat new after = record {
      mark = mark;
      undo = is;
      report = stopped.report;
      told = stopped.told;
      stops = stopped.stops;
      adds = adds;
    } in
    subst (λ (x : Result Said LockError). Enters c x old seat new after) (sym puts.2) stops

one-more : {A : Type 0} (xs ys : List A) (x : A) → ys ≡ xs ++ x ∷ [] → length ys ≡ length xs + 1
one-more xs ys x is = ap (λ zs. length zs) is ∙ length-append xs (x ∷ [])

-- one entry more, and one line
pub longer : (seat : ℕ) (c listed : Command) (it : Acted) (entries : List Entry) (lines : List Line) (r : Result Said LockError) (more_entries : List Entry) (more_lines : List Line) → Puts seat c listed it entries lines r more_entries more_lines → (length more_entries ≡ length entries + 1) × (length more_lines ≡ length lines + 1)
longer seat c listed (acted.Whole g) entries lines r more_entries more_lines puts =
    (one-more entries more_entries _ puts.0, one-more lines more_lines _ puts.1)
longer seat c listed (acted.Stopped s) entries lines r more_entries more_lines puts =
    (one-more entries more_entries _ puts.0, one-more lines more_lines _ puts.1)
