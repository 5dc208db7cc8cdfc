-- What a holding came to was told.
use Rattle.std.proofs.Common.{◌≡◌, ℕ, List, [], ◌∷◌, ◌++◌, Option, None, Some, Result, Ok, Err, IfOk, refl, ap, subst, sym, ◌∙◌}
use Rattle.std.proofs.lemmas.List.{append-nil}
use Rattle.erl_term.specs.Tree.{Tree}
use Rattle.undo_journal.specs.declared.error.JournalError.TheVariants as error
use Rattle.node_history.specs.declared.command.Command.{Command}
use Rattle.node_history.specs.declared.command.Fault.{Fault}
use Rattle.node_history.specs.declared.command.Fault.TheVariants as fault
use Rattle.node_history.specs.declared.command.Said.{Said}
use Rattle.node_history.specs.declared.command.Said.TheVariants as said
use Rattle.node_history.specs.declared.entry.Line.{Line}
use Rattle.workers.specs.Core.{AddsLine, SeatState}
use Rattle.workers.specs.Seats.{IsFor, Lists, ListsFaultOf}
use Rattle.workers.specs.LockError.{LockError}
use Rattle.workers.specs.LockError.TheVariants as lock
use Rattle.shell_answers.specs.Answers.{fixed, line_of, stopped_undo}
use Rattle.shell_answers.specs.Refusals.{Subject}
use Rattle.shell_exec.specs.Undone.{first_of}
use Rattle.shell_answers.specs.declared.fixed.Fixed.TheVariants as words
use Rattle.shell_exec.specs.Fate.{Fate}
use Rattle.shell_exec.specs.Fate.TheVariants.{Refused}
use Rattle.worker_lines.specs.Execution.{TellsAlone}
use Rattle.worker_lines.specs.Asking.{Holds, IsAnswered, heard, no_memory, refused, stopped, unwritten}
use Rattle.worker_lines.specs.Telling.{error_fate, error_told, fault_told}
use Rattle.workers.specs.Lines.{line, with_lines}

-- no line came
pub no-lines : (seat : SeatState) → seat ≡ with_lines seat []
no-lines seat = λ i. record { number = seat.number; lines = sym (append-nil seat.lines) i }

module _ (c : Command) (about : Subject) (tell : Said → Tree) (seat after : SeatState) (text appended : List ℕ) where
  pub heard-told : (it : Said) (fate : Option Fate) → IsFor c it × AddsLine c (Ok it) seat after →
      (fate ≡ None) × (appended ≡ text ++ line_of (tell it)) → IsAnswered (Holds c about tell fate) seat after text appended
  heard-told it fate lists told =
      subst (λ f. IsAnswered (Holds c about tell f) seat after text appended) (sym told.0) (record {
        lines = line c (Ok it) ∷ [];
        answer = line_of (tell it);
        may_be = heard it lists.0;
        listed = lists.1;
        written = told.1;
      })

  by-fault : (why : Fault) (fate : Option Fate) → ListsFaultOf c why seat after →
      (fate ≡ None) × (appended ≡ text ++ line_of (fault_told about why)) → IsAnswered (Holds c about tell fate) seat after text appended
  by-fault why fate lists told =
      subst (λ f. IsAnswered (Holds c about tell f) seat after text appended) (sym told.0) (record {
        lines = line c (Err why) ∷ [];
        answer = line_of (fault_told about why);
        may_be = refused why lists.0;
        listed = lists.1;
        written = told.1;
      })

  pub unheard-told : (e : LockError) (fate : Option Fate) → Lists c (Err e) seat after →
      (fate ≡ error_fate e) × (appended ≡ text ++ line_of (error_told about e)) → IsAnswered (Holds c about tell fate) seat after text appended
  unheard-told (lock.Journal (error.Step why)) fate lists told = by-fault (fault.Refused why) fate lists told
  unheard-told (lock.Journal error.Forgotten) fate lists told = by-fault fault.Forgotten fate lists told
  unheard-told (lock.Journal error.DeadMark) fate lists told = by-fault fault.DeadMark fate lists told
  unheard-told (lock.Journal error.SerialEnd) fate lists told = by-fault fault.SerialEnd fate lists told
  unheard-told (lock.Journal (error.Memory reached reports)) fate lists told =
      subst (λ f. IsAnswered (Holds c about tell f) seat after text appended) (sym told.0) (record {
        lines = _;
        answer = line_of (stopped_undo reached lists.report);
        may_be = stopped lists.mark reached lists.report lists.undo lists.behind lists.cut;
        listed = lists.line;
        written = told.1 ∙ ap (λ rs. text ++ line_of (stopped_undo reached (first_of rs))) lists.told;
      })
  unheard-told lock.Memory fate lists told =
      subst (λ f. IsAnswered (Holds c about tell f) seat after text appended) (sym told.0) (record {
        lines = [];
        answer = _;
        may_be = no_memory;
        listed = lists ∙ no-lines seat;
        written = told.1;
      })

-- memory was refused before the node was asked
pub memory-told : (c : Command) (about : Subject) (tell : Said → Tree) (seat : SeatState) (text appended : List ℕ) (fate : Option Fate) → (fate ≡ Some Refused) × (appended ≡ text ++ line_of (fixed words.Memory)) → IsAnswered (Holds c about tell fate) seat seat text appended
memory-told c about tell seat text appended fate told = unheard-told c about tell seat seat text appended lock.Memory fate refl told

-- nothing was asked of it
pub told-alone : (may : List Line → List ℕ → Type 0) (seat : SeatState) (text appended answer : List ℕ) → may [] answer → appended ≡ text ++ answer → IsAnswered may seat seat text appended
told-alone may seat text appended answer may_be written =
    record { lines = []; answer = answer; may_be = may_be; listed = no-lines seat; written = written }

pub alone-told : (answer : Tree) (seat : SeatState) (text appended : List ℕ) (fate : Option Fate) → (fate ≡ None) × (appended ≡ text ++ line_of answer) → IsAnswered (TellsAlone answer fate) seat seat text appended
alone-told answer seat text appended fate said = told-alone (TellsAlone answer fate) seat text appended (line_of answer) (said.0, refl, refl) said.1

-- what was told in one way may be told in another that allows it
pub told-as : (may might : List Line → List ℕ → Type 0) (seat after : SeatState) (text appended : List ℕ) → ((lines : List Line) (answer : List ℕ) → may lines answer → might lines answer) → IsAnswered may seat after text appended → IsAnswered might seat after text appended
told-as may might seat after text appended allows told = record {
  lines = told.lines;
  answer = told.answer;
  may_be = allows told.lines told.answer told.may_be;
  listed = told.listed;
  written = told.written;
}

pub IfOk-then : {T E : Type 0} (r : Result T E) (P Q : T → Type 0) → IfOk r P → ((x : T) → P x → Q x) → IfOk r Q
IfOk-then (Ok x) P Q p step = step x p
IfOk-then (Err e) P Q p step = tt
