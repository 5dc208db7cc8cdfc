-- Lemmas on effects of lines.
use Rattle.std.proofs.Common.{◌≡◌, ℕ, List, [], ◌∷◌, ◌++◌, replicate, Option, None, Some, Result, Ok, Err, IfErr, IfOk, OnErr, OnOk, Vec, Global, refl, sym, ap, subst, ◌∙◌}
use Rattle.undo_journal.specs.declared.error.JournalError.{JournalError}
use Rattle.undo_journal.specs.declared.error.JournalError.TheVariants as error
use Rattle.undo_journal.specs.declared.report.Report.{Report}
use Rattle.undo_journal.specs.Journal.{HasNoStation, UndoFails, stopped_reports}
use Rattle.undo_journal.specs.Timeline.{Station, cut_stations, cut_to, forgotten_to, report_of}
use Rattle.erl_term.specs.Rows.{append_trees}
use Rattle.erl_term.specs.Tree.{more}
use Rattle.process_effects.specs.declared.told.Reply.{Reply}
use Rattle.shell_answers.specs.Answers.{line_of, replied, replies_in, rows_of, stopped_undo, undone_steps}
use Rattle.shell_steps.specs.Node.{NodeState}
use Rattle.node_types.specs.Note.{Note}
use Rattle.node_types.specs.declared.event.Refusal.{Refusal}
use Rattle.shell_requests.specs.declared.request.Question.{Question}
use Rattle.shell_state.specs.Serving.{Asks, Forgets, Undoes, below, cut, dead, floored, forgotten, is_told, nowhere, stopped, told}
use Rattle.shell_state.specs.Done.{IsDone}
use Rattle.shell_steps.specs.Undone.{first_of, forget_answer, forget_fate, undo_answer, undo_fate, unfinished_answer, unfinished_fate}
use Rattle.shell_steps.specs.State.{NodeTimeline, ShellState, joined, with_timeline}
use Rattle.shell_steps.specs.declared.fate.Fate.{Fate}

pub IfOk-then : {T E : Type 0} (r : Result T E) (P Q : T → Type 0) → IfOk r P → ((x : T) → P x → Q x) → IfOk r Q
IfOk-then (Ok x) P Q p step = step x p
IfOk-then (Err e) P Q p step = tt

-- an undo that reached its mark
pub undone : (s : ShellState) (mark : ℕ) (end : NodeTimeline) (reports : List (Report Note)) (fate : Option Fate) (text appended : List ℕ) → cut_to mark s.timeline ≡ Some end → reports ≡ replicate 1 (report_of (cut_stations s.timeline end)) → (fate ≡ None) × (appended ≡ text ++ line_of (undone_steps (first_of reports))) → IsDone (Undoes s mark fate) (with_timeline end s) text appended
undone s mark end reports fate text appended is reported told =
    subst (λ f. IsDone (Undoes s mark f) (with_timeline end s) text appended) (sym told.0) (_, cut end is, refl, told.1 ∙ ap (λ rs. text ++ line_of (undone_steps (first_of rs))) reported)

first_stopped : (cut : List (Station NodeState Note)) → first_of (stopped_reports 1 cut) ≡ report_of cut
first_stopped [] = refl
first_stopped (s ∷ ss) = refl

-- an undo that did not
pub unfinished : (s : ShellState) (mark : ℕ) (new : NodeTimeline) (e : JournalError Refusal Note) (fate : Option Fate) (text appended : List ℕ) → UndoFails mark 1 s.timeline new e → (fate ≡ unfinished_fate e) × (appended ≡ text ++ line_of (unfinished_answer e)) → IsDone (Undoes s mark fate) (with_timeline new s) text appended
unfinished s mark new (error.Step why) fate text appended fails told = absurd fails
unfinished s mark new error.SerialEnd fate text appended fails told = absurd fails
unfinished s mark new error.Forgotten fate text appended fails told =
    subst (λ f. IsDone (Undoes s mark f) (with_timeline new s) text appended) (sym told.0) (_, forgotten fails.0, ap (λ t. with_timeline t s) fails.1, told.1)
unfinished s mark new error.DeadMark fate text appended fails told =
    subst (λ f. IsDone (Undoes s mark f) (with_timeline new s) text appended) (sym told.0) (_, dead fails.0, ap (λ t. with_timeline t s) fails.1, told.1)
unfinished s mark new (error.Memory reached reports) fate text appended fails told =
    subst (λ f. IsDone (Undoes s mark f) (with_timeline new s) text appended) (sym told.0) (_, stopped reached new fails.alive fails.after_mark fails.at_reached fails.at_mark, refl, told.1 ∙ ap (λ r. text ++ line_of (stopped_undo reached r)) (ap first_of fails.reported ∙ first_stopped (cut_stations s.timeline new)))

pub undo-done : (s : ShellState) (mark : ℕ) (new : NodeTimeline) (r : Result (Vec (Report Note) Global) (JournalError Refusal Note)) (fate : Option Fate) (text appended : List ℕ) → OnOk r (cut_to mark s.timeline ≡ Some new) → IfOk r (λ reports. reports.items ≡ replicate 1 (report_of (cut_stations s.timeline new))) → IfErr r (UndoFails mark 1 s.timeline new) → (fate ≡ undo_fate r) × (appended ≡ text ++ line_of (undo_answer r)) → IsDone (Undoes s mark fate) (with_timeline new s) text appended
undo-done s mark new (Ok reports) fate text appended is reported fails told = undone s mark new reports.items fate text appended is reported told
undo-done s mark new (Err e) fate text appended is reported fails told = unfinished s mark new e fate text appended fails told

-- what stands before a mark was forgotten, or the mark has no station

unfloored : (s : ShellState) (mark : ℕ) (e : JournalError Refusal Note) (fate : Option Fate) (text appended : List ℕ) → HasNoStation mark s.timeline e → (fate ≡ unfinished_fate e) × (appended ≡ text ++ line_of (unfinished_answer e)) → IsDone (Forgets s mark fate) s text appended
unfloored s mark (error.Step why) fate text appended none told = absurd none
unfloored s mark error.SerialEnd fate text appended none told = absurd none
unfloored s mark error.Forgotten fate text appended none told =
    subst (λ f. IsDone (Forgets s mark f) s text appended) (sym told.0) (_, below none, refl, told.1)
unfloored s mark error.DeadMark fate text appended none told =
    subst (λ f. IsDone (Forgets s mark f) s text appended) (sym told.0) (_, nowhere none, refl, told.1)
unfloored s mark (error.Memory reached reports) fate text appended none told = absurd none

pub forget-done : {T : Type 0} (s : ShellState) (mark : ℕ) (new : NodeTimeline) (r : Result T (JournalError Refusal Note)) (fate : Option Fate) (text appended : List ℕ) → OnOk r (forgotten_to mark s.timeline ≡ Some new) → IfErr r (HasNoStation mark s.timeline) → OnErr r (new ≡ s.timeline) → (fate ≡ forget_fate r) × (appended ≡ text ++ line_of (forget_answer mark r)) → IsDone (Forgets s mark fate) (with_timeline new s) text appended
forget-done s mark new (Ok done) fate text appended is none same told =
    subst (λ f. IsDone (Forgets s mark f) (with_timeline new s) text appended) (sym told.0) (_, floored new is, refl, told.1)
forget-done s mark new (Err e) fate text appended is none same told =
    subst (λ (t : NodeTimeline). IsDone (Forgets s mark fate) (with_timeline t s) text appended) (sym same) (unfloored s mark e fate text appended none told)

-- the replies of rows are told as those of one row

replies_in-append : (xs ys : List Reply) → replies_in (xs ++ ys) ≡ append_trees (replies_in xs) (replies_in ys)
replies_in-append [] ys = refl
replies_in-append (x ∷ xs) ys = ap (more (replied x)) (replies_in-append xs ys)

pub rows-joined : (rows : List (List Reply)) → rows_of rows ≡ replies_in (joined rows)
rows-joined [] = refl
rows-joined (row ∷ rows) = ap (append_trees (replies_in row)) (rows-joined rows) ∙ sym (replies_in-append row (joined rows))

-- nothing is appended
pub nothing : (text : List ℕ) → text ≡ text ++ []
nothing [] = refl
nothing (b ∷ bs) = ap (λ rest. b ∷ rest) (nothing bs)

-- a question that is told at once
pub told-done : (s : ShellState) (asked question : Question) (text appended : List ℕ) → asked ≡ question → appended ≡ text ++ line_of (told s question) → IsDone (Asks s asked None) s text appended
told-done s asked question text appended same is =
    subst (λ (q : Question). IsDone (Asks s q None) s text appended) (sym same) (_, is_told, refl, is)
