-- What of an entry a seat has: a line, whose answer is one to its command.
use Rattle.std.proofs.Common.{◌≡◌, ℕ, List, length, sym, subst, None, Some, Option, Result, Ok, Err, ap}
use Rattle.std.specs.Prelude.{⊤}
use Rattle.undo_journal.specs.declared.error.JournalError.TheVariants as error
use Rattle.node_types.specs.Note.{Note}
use Rattle.node_types.specs.declared.event.Event.{Event}
use Rattle.node_types.specs.declared.event.Event.TheVariants as event
use Rattle.process_table.specs.declared.body.ClientMessage.TheVariants as body
use Rattle.node_history.specs.History.{Gives, LacksStation, NodeTimeline, RefusesBy, TakesOf}
use Rattle.node_history.specs.declared.command.Command.{Command}
use Rattle.node_history.specs.declared.command.Command.TheVariants as command
use Rattle.node_history.specs.declared.command.Fault.{Fault}
use Rattle.node_history.specs.declared.command.Fault.TheVariants as fault
use Rattle.node_history.specs.declared.command.Said.{Said}
use Rattle.node_history.specs.declared.command.Said.TheVariants as said
use Rattle.node_history.specs.declared.entry.Entry.{Entry}
use Rattle.node_lock.specs.Core.{Adds, CoreState, Enters, SeatState}
use Rattle.node_lock.specs.Seats.{IsFaultOf, IsFor, IsOfEvent, IsOfMark, Lists, ListsFaultOf}
use Rattle.node_lock.specs.declared.error.LockError.{LockError}
use Rattle.node_lock.specs.declared.error.LockError.TheVariants as lock

abbrev said_or : Said → Result Said Fault → Said
said_or it (Ok other) = other
said_or it (Err why) = it

abbrev answer-of : Said → Result Said Fault
answer-of it = Ok it

told : (it other : Said) → answer-of it ≡ answer-of other → it ≡ other
told it other same = ap (λ r. said_or it r) same

taken : (who : Option ℕ) (t : NodeTimeline) (it : Said) (sent : Option Note) (after : NodeTimeline) → TakesOf who t (Ok it) sent after → IsFor (command.TakeAny 0) it
taken None t it sent after takes = (None, told it (said.Taken None) takes.0)
taken (Some pid) t it sent after takes = (Some takes.3.0, takes.3.2)

kind : (t : NodeTimeline) (before : List Entry) (seat : ℕ) (c : Command) (it : Said) (sent : Option Note) (after : NodeTimeline) → Gives t before seat c (Ok it) sent after → IsFor c it
kind t before seat (command.Perform e) it sent after gives = (gives.0.answer, gives.3)
kind t before seat (command.Call name term) it sent after gives = (_, gives.3)
kind t before seat (command.TakeAny above) it sent after gives = taken gives.0 t it sent after gives.2
kind t before seat command.Mark it sent after gives = (_, told it _ gives.0)
kind t before seat (command.Undo mark) it sent after gives = (_, gives.1)
kind t before seat (command.Forget mark) it sent after gives = gives.1
kind t before seat (command.Retake pid) it sent after gives = (gives.0.0, gives.0.2)
kind t before seat (command.Replies from) it sent after gives = (_, told it _ gives.0)
kind t before seat command.Which it sent after gives = (_, told it _ gives.0)

abbrev is_answered : Result Said Fault → Type 0
is_answered (Ok it) = ⊤
is_answered (Err why) = ⊥

abbrev refused : Fault → Result Said Fault
refused why = Err why

unread : (why : Fault) (it : Said) → refused why ≡ answer-of it → ⊥
unread why it same = subst is_answered (sym same) tt

-- a fault is one of its command
of_event : (t : NodeTimeline) (e : Event) (why : Fault) → RefusesBy t e why → IsOfEvent why
of_event t e (fault.Refused why) refuses = tt
of_event t e fault.Forgotten refuses = refuses
of_event t e fault.DeadMark refuses = refuses
of_event t e fault.SerialEnd refuses = tt

of_mark : (mark : ℕ) (t : NodeTimeline) (why : Fault) → LacksStation mark t why → IsOfMark why
of_mark mark t (fault.Refused why) lacks = lacks
of_mark mark t fault.Forgotten lacks = tt
of_mark mark t fault.DeadMark lacks = tt
of_mark mark t fault.SerialEnd lacks = lacks

untaken : (who : Option ℕ) (t : NodeTimeline) (why : Fault) (sent : Option Note) (after : NodeTimeline) → TakesOf who t (Err why) sent after → IsOfEvent why
untaken None t why sent after takes = absurd (unread why _ takes.0)
untaken (Some pid) t why sent after takes = of_event t (event.Take pid) why takes.0

fault_kind : (t : NodeTimeline) (before : List Entry) (seat : ℕ) (c : Command) (why : Fault) (sent : Option Note) (after : NodeTimeline) → Gives t before seat c (Err why) sent after → IsFaultOf c why
fault_kind t before seat (command.Perform e) why sent after gives = of_event t e why gives.0
fault_kind t before seat (command.Call name term) why sent after gives = of_event t (event.Arrive seat name (body.Call (length before) term)) why gives.0
fault_kind t before seat (command.TakeAny above) why sent after gives = untaken gives.0 t why sent after gives.2
fault_kind t before seat command.Mark why sent after gives = unread why _ gives.0
fault_kind t before seat (command.Undo mark) why sent after gives = of_mark mark t why gives.0
fault_kind t before seat (command.Forget mark) why sent after gives = of_mark mark t why gives.0
fault_kind t before seat (command.Retake pid) why sent after gives = (_, gives.0.2)
fault_kind t before seat (command.Replies from) why sent after gives = unread why _ gives.0
fault_kind t before seat command.Which why sent after gives = unread why _ gives.0

faults : (c : Command) (why : Fault) (old : CoreState) (seat : SeatState) (new : CoreState) (after : SeatState) → Adds c (Err why) old seat new after → ListsFaultOf c why seat after
faults c why old seat new after adds = (fault_kind old.timeline old.history seat.number c why adds.note new.timeline adds.gives, adds.line)

pub lists : (c : Command) (r : Result Said LockError) (old : CoreState) (seat : SeatState) (new : CoreState) (after : SeatState) → Enters c r old seat new after → Lists c r seat after
lists c (Ok it) old seat new after adds = (kind old.timeline old.history seat.number c it adds.note new.timeline adds.gives, adds.line)
lists c (Err (lock.Journal (error.Step why))) old seat new after adds = faults c (fault.Refused why) old seat new after adds
lists c (Err (lock.Journal error.Forgotten)) old seat new after adds = faults c fault.Forgotten old seat new after adds
lists c (Err (lock.Journal error.DeadMark)) old seat new after adds = faults c fault.DeadMark old seat new after adds
lists c (Err (lock.Journal error.SerialEnd)) old seat new after adds = faults c fault.SerialEnd old seat new after adds
lists c (Err (lock.Journal (error.Memory reached reports))) old seat new after stop = record {
  mark = stop.mark;
  undo = stop.undo;
  behind = stop.stops.behind;
  report = stop.report;
  told = stop.told;
  cut = stop.stops.cut;
  line = stop.adds.line;
}
lists c (Err lock.Memory) old seat new after same = same.1
