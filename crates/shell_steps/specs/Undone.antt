-- How an undo or a forget ends, and what is told of it.
use Rattle.std.specs.Prelude.{◌≡◌, ℕ, List, [], ◌∷◌, Option, None, Some, Result, Ok, Err, Vec}
use Rattle.std.specs.Global.{Global}
use Rattle.erl_term.specs.Tree.{Tree}
use Rattle.undo_journal.specs.declared.report.Report.{Report}
use Rattle.undo_journal.specs.declared.error.JournalError.{JournalError}
use Rattle.undo_journal.specs.declared.error.JournalError.TheVariants as error
use Rattle.node_types.specs.Note.{Note}
use Rattle.node_types.specs.declared.event.Refusal.{Refusal}
use Rattle.shell_answers.specs.Answers.{fixed, floor_at, stopped_undo, undone_steps}
use Rattle.shell_answers.specs.declared.fixed.Fixed.TheVariants as words
use Rattle.shell_steps.specs.declared.fate.Fate.{Fate}
use Rattle.shell_steps.specs.declared.fate.Fate.TheVariants as fates

-- the first of reports, or, of none, that of an undo that cut nothing
abbrev pub first_of : List (Report Note) → Report Note
first_of [] = record { cut = 0; notes = [] }
first_of (r ∷ rs) = r

-- what became of an undo that did not reach its mark

abbrev pub unfinished_fate : JournalError Refusal Note → Option Fate
unfinished_fate (error.Step why) = None
unfinished_fate error.Forgotten = None
unfinished_fate error.DeadMark = None
unfinished_fate error.SerialEnd = None
unfinished_fate (error.Memory mark reports) = Some (fates.StoppedAt mark)

abbrev pub unfinished_answer : JournalError Refusal Note → Tree
unfinished_answer (error.Step why) = fixed words.DeadMark
unfinished_answer error.Forgotten = fixed words.Forgotten
unfinished_answer error.DeadMark = fixed words.DeadMark
unfinished_answer error.SerialEnd = fixed words.DeadMark
unfinished_answer (error.Memory mark reports) = stopped_undo mark (first_of reports.items)

-- and of any undo

abbrev pub undo_fate : Result (Vec (Report Note) Global) (JournalError Refusal Note) → Option Fate
undo_fate (Ok reports) = None
undo_fate (Err e) = unfinished_fate e

abbrev pub undo_answer : Result (Vec (Report Note) Global) (JournalError Refusal Note) → Tree
undo_answer (Ok reports) = undone_steps (first_of reports.items)
undo_answer (Err e) = unfinished_answer e

-- Of an undo that was to report once: it found no memory and cut nothing, for it has no report.
abbrev pub IsUnbegun : Result (Vec (Report Note) Global) (JournalError Refusal Note) → Type 0
IsUnbegun (Ok reports) = ⊥
IsUnbegun (Err (error.Step why)) = ⊥
IsUnbegun (Err error.Forgotten) = ⊥
IsUnbegun (Err error.DeadMark) = ⊥
IsUnbegun (Err error.SerialEnd) = ⊥
IsUnbegun (Err (error.Memory mark reports)) = reports.items ≡ []

-- of a forget up to a mark

abbrev pub forget_fate : {T : Type 0} → Result T (JournalError Refusal Note) → Option Fate
forget_fate (Ok done) = None
forget_fate (Err e) = unfinished_fate e

abbrev pub forget_answer : {T : Type 0} → ℕ → Result T (JournalError Refusal Note) → Tree
forget_answer mark (Ok done) = floor_at mark
forget_answer mark (Err e) = unfinished_answer e
