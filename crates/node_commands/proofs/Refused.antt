-- Commands that the journal refuses, and undos that stop.
use Rattle.std.proofs.Common.{◌≡◌, ◌<◌, ◌≤◌, ◌-◌, ◌^◌, ◌⊎◌, ℕ, inl, inr, List, [], ◌∷◌, ◌++◌, None, Some, IfOk, IsErr, OnErr, Result, Ok, Err, refl, sym, ap, ◌∙◌, subst, arith}
use Rattle.std.proofs.Math.Arith.{lt_of_le-ne}
use Rattle.std.proofs.Math.Seq.{drop-length}
use Rattle.std.proofs.lemmas.Bool.{false≢true}
use Rattle.std.proofs.lemmas.List.{append-nil}
use Rattle.undo_journal.specs.Journal.{HasNoStation, PerformFails, Stopped, UndoFails, stopped_reports}
use Rattle.undo_journal.specs.Timeline.{IsFront, Station, cut_stations, here, report_of}
use Rattle.undo_journal.specs.declared.error.JournalError.{JournalError}
use Rattle.undo_journal.specs.declared.error.JournalError.TheVariants as error
use Rattle.undo_journal.specs.declared.report.Report.{Report}
use Rattle.node_core.specs.Node.{NodeState}
use Rattle.node_core.specs.Step.{MayRunOut, Step}
use Rattle.node_types.specs.Note.{Note}
use Rattle.node_types.specs.declared.event.Event.{Event}
use Rattle.node_types.specs.declared.event.Refusal.{Refusal}
use Rattle.node_history.specs.History.{Cuts, IsFull, LacksStation, NodeTimeline, RefusesBy}
use Rattle.node_history.specs.declared.command.Fault.{Fault}
use Rattle.node_history.specs.declared.command.Fault.TheVariants as fault
use Rattle.node_history.specs.declared.command.Said.TheVariants as said
use Rattle.node_commands.specs.Acting.{IsCut, TellsFault, TellsStop}
use Rattle.node_commands.specs.Telling.{Stops, error_of}
use Rattle.node_commands.specs.declared.given.Acted.{Acted}
use Rattle.node_commands.specs.declared.given.Acted.TheVariants as acted

-- an event that the journal doesn't perform is refused
pub refuses_by : {X : Type 0} (t : NodeTimeline) (e : Event) (r : Result X (JournalError Refusal Note)) (why : Fault) → r ≡ Err (error_of why) → (IsFull t → r ≡ Err error.SerialEnd) → PerformFails (Step (here t).node e) (MayRunOut (here t).node e) t (error_of why) → RefusesBy t e why
refuses_by t e r (fault.Refused why) is at_end fails = ((λ full. let ends = at_end full in let never : ⊥ = cc in never), fails)
refuses_by t e r fault.Forgotten is at_end fails = fails
refuses_by t e r fault.DeadMark is at_end fails = fails
refuses_by t e r fault.SerialEnd is at_end fails = fails

-- an undo whose mark has no station leaves all as it was
pub lacks_undone : (mark n : ℕ) (old new : NodeTimeline) (why : Fault) → UndoFails mark n old new (error_of why) → LacksStation mark old why × (new ≡ old)
lacks_undone mark n old new (fault.Refused why) fails = absurd fails
lacks_undone mark n old new fault.Forgotten fails = fails
lacks_undone mark n old new fault.DeadMark fails = fails
lacks_undone mark n old new fault.SerialEnd fails = absurd fails

pub lacks : (mark : ℕ) (t : NodeTimeline) (why : Fault) → HasNoStation mark t (error_of why) → LacksStation mark t why
lacks mark t (fault.Refused why) none = none
lacks mark t fault.Forgotten none = none
lacks mark t fault.DeadMark none = none
lacks mark t fault.SerialEnd none = none

-- where nothing was cut, all is as it was
uncut : (old new : NodeTimeline) → IsFront old new → cut_stations old new ≡ [] → new ≡ old
uncut old new front none =
    let later : new.later ≡ old.later = sym (front.front ∙ ap (λ cut. new.later ++ cut) none ∙ append-nil new.later) in
    λ i. record { first = front.same_first i; later = later i; last = front.same_last i }

abbrev Reports : Type 0
Reports = List (Report Note)

-- what an undo that stopped has done of three reports: it's told so, where it cut something, and else nothing has changed
abbrev pub StopsOrStays : ℕ → NodeTimeline → NodeTimeline → ℕ → Reports → Type 0
StopsOrStays mark old new reached reports = ((reports ≡ []) × (new ≡ old)) ⊎ ((r : Report Note) × (reports ≡ r ∷ r ∷ r ∷ []) ×
    Stops mark reached r old new × Cuts reached old (Ok (said.Undone r)) None new)

stops-cut : (mark reached : ℕ) (old new : NodeTimeline) (cut : List (Station NodeState Note)) (reports : Reports) → cut ≡ cut_stations old new → reports ≡ stopped_reports 3 cut → Stopped mark 3 old new reached reports → IsFront old new → StopsOrStays mark old new reached reports
stops-cut mark reached old new [] reports at told stop front = inl (told, uncut old new front (sym at))
stops-cut mark reached old new (s ∷ ss) reports at told stop front =
    let r : Report Note = report_of (s ∷ ss) in
    let apart : mark ≡ reached → ⊥ = (λ same.
    let none : s ∷ ss ≡ [] = at ∙ ap (λ u. cut_stations old u) (stop.at_mark (sym same)) ∙ drop-length old.later in
    let never : ⊥ = cc in never) in
    let stops : Stops mark reached r old new =
    record { alive = stop.alive; behind = lt_of_le-ne stop.after_mark apart; cut = omega (arith); same_end = stop.same_end } in
    inr (r, told, stops, (stop.at_reached, ap (λ c. said.Undone (report_of c)) at, refl))

pub stops_or_stays : (mark reached : ℕ) (old new : NodeTimeline) (reports : Reports) → Stopped mark 3 old new reached reports → IsFront old new → StopsOrStays mark old new reached reports
stops_or_stays mark reached old new reports stop front = stops-cut mark reached old new (cut_stations old new) reports refl stop.reported stop front

-- what is told of an undo that ran out of memory
pub told_stop : {E : Type 0} (mark reached : ℕ) (old new : NodeTimeline) (reports : Reports) (r : Result Acted E) → StopsOrStays mark old new reached reports → (reports ≡ [] → IsErr r) → ((x : Report Note) → reports ≡ x ∷ x ∷ x ∷ [] → TellsStop reached x r) → IfOk r (λ it. IsCut mark old it new)
told_stop mark reached old new reports (Err e) done none three = tt
told_stop mark reached old new reports (Ok (acted.Whole g)) (inl stays) none three = absurd (false≢true (none stays.0))
told_stop mark reached old new reports (Ok (acted.Whole g)) (inr (x, told, stops, cuts)) none three = absurd (three x told)
told_stop mark reached old new reports (Ok (acted.Stopped s)) (inl stays) none three = absurd (false≢true (none stays.0))
told_stop mark reached old new reports (Ok (acted.Stopped s)) (inr (x, told, stops, cuts)) none three =
    let tells = three x told in
    record {
      report = x;
      stops = subst (λ m. Stops mark m x old new) (sym tells.0) stops;
      gives = λ before seat. subst (λ m. Cuts m old (Ok (said.Undone x)) None new) (sym tells.0) cuts;
      entered = tells.1;
      listed = tells.2;
      told = tells.3;
    }

-- where nothing is told, nothing has changed
pub untold_stop : {E : Type 0} (mark reached : ℕ) (old new : NodeTimeline) (reports : Reports) (r : Result Acted E) → StopsOrStays mark old new reached reports → ((x : Report Note) → reports ≡ x ∷ x ∷ x ∷ [] → TellsStop reached x r) → OnErr r (new ≡ old)
untold_stop mark reached old new reports (Ok it) done three = tt
untold_stop mark reached old new reports (Err e) (inl stays) three = stays.1
untold_stop mark reached old new reports (Err e) (inr (x, told, stops, cuts)) three = absurd (three x told)

-- what is told of an undo that was refused
pub told_fault : (mark : ℕ) (old new : NodeTimeline) (e : JournalError Refusal Note) (it : Acted) → TellsFault e it → UndoFails mark 3 old new e → IsCut mark old it new
told_fault mark old new e (acted.Stopped s) tells fails = absurd tells
told_fault mark old new e (acted.Whole g) (why, is, entered, noted, one) fails =
    let lacking = lacks_undone mark 3 old new why (subst (λ x. UndoFails mark 3 old new x) (sym is) fails) in
    (subst (λ r. Cuts mark old r g.note new) (sym entered) (lacking.0, noted, lacking.1), one)
