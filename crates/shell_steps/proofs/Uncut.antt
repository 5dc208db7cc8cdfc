-- Undos that cut nothing.
use Rattle.std.proofs.Common.{◌≡◌, ℕ, List, [], ◌∷◌, ◌++◌, Result, Ok, Err, IfErr, Vec, Global, refl, sym, ap, ◌∙◌}
use Rattle.undo_journal.specs.declared.error.JournalError.{JournalError}
use Rattle.undo_journal.specs.declared.error.JournalError.TheVariants as error
use Rattle.undo_journal.specs.declared.report.Report.{Report}
use Rattle.undo_journal.specs.Journal.{UndoFails, stopped_reports}
use Rattle.undo_journal.specs.Timeline.{IsFront, Station, cut_stations}
use Rattle.std.proofs.lemmas.List.{append-nil}
use Rattle.node_core.specs.Node.{NodeState}
use Rattle.node_types.specs.Note.{Note}
use Rattle.node_types.specs.declared.event.Refusal.{Refusal}
use Rattle.shell_steps.specs.State.{NodeTimeline}
use Rattle.shell_steps.specs.Undone.{IsUnbegun}

-- an undo that cut nothing leaves the timeline as it was

none_cut : (cut : List (Station NodeState Note)) → [] ≡ stopped_reports 1 cut → cut ≡ []
none_cut [] e = refl
none_cut (s ∷ ss) e = absurd (let no : ⊥ = cc in no)

pub as_it_was : (mark : ℕ) (old new : NodeTimeline) (r : Result (Vec (Report Note) Global) (JournalError Refusal Note)) → IsUnbegun r → IfErr r (UndoFails mark 1 old new) → IsFront old new → new ≡ old
as_it_was mark old new (Ok reports) unbegun fails front = absurd unbegun
as_it_was mark old new (Err (error.Step why)) unbegun fails front = absurd unbegun
as_it_was mark old new (Err error.Forgotten) unbegun fails front = absurd unbegun
as_it_was mark old new (Err error.DeadMark) unbegun fails front = absurd unbegun
as_it_was mark old new (Err error.SerialEnd) unbegun fails front = absurd unbegun
as_it_was mark old new (Err (error.Memory reached reports)) unbegun fails front =
    let none = none_cut (cut_stations old new) (sym unbegun ∙ fails.reported) in
    let later : new.later ≡ old.later = sym (front.front ∙ ap (λ cut. new.later ++ cut) none ∙ append-nil new.later) in
    λ i. record { first = front.same_first i; later = later i; last = front.same_last i }
