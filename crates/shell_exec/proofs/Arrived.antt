-- Lemmas on arrivals: a call that was tried is counted.
use Rattle.std.proofs.Common.{◌≡◌, ℕ, List, ◌++◌, Option, None, Some, refl, sym, ap, subst, ◌∙◌}
use Rattle.undo_journal.specs.Reversible.{Accepted}
use Rattle.shell_upgrades.specs.Node.{NodeState}
use Rattle.node_types.specs.Note.{Note}
use Rattle.node_types.specs.declared.event.Answer.{Answer}
use Rattle.node_types.specs.declared.event.Event.{Event}
use Rattle.shell_answers.specs.Answers.{line_of}
use Rattle.shell_answers.specs.Refusals.{naming_nothing}
use Rattle.shell_requests.specs.declared.request.ArrivalKind.{ArrivalKind}
use Rattle.shell_requests.specs.declared.request.ArrivalKind.TheVariants as arrivals
use Rattle.shell_upgrades.specs.Done.{IsDone}
use Rattle.shell_upgrades.specs.Halts.{Halts, halt_answer, halt_fate}
use Rattle.shell_upgrades.specs.Performing.{Performs, accepted, full, no_memory, refused}
use Rattle.shell_upgrades.specs.State.{Effect, ShellState, carried, next_number, stepped}
use Rattle.shell_upgrades.specs.Stepping.{IsStepped}
use Rattle.shell_upgrades.specs.Fate.{Fate}
use Rattle.shell_upgrades.specs.Halt.{Halt}
use Rattle.shell_upgrades.specs.Halt.TheVariants as halts
use Rattle.shell_exec.specs.Execution.{arrival_answer, tried}
use Rattle.shell_exec.specs.Done.{after_missed}

pub kept_out : (s new : ShellState) (kind : ArrivalKind) (e : Event) (done : Accepted NodeState Answer Note → Effect) (h : Halt) (fate : Option Fate) (text appended : List ℕ) → Halts h s e → (fate ≡ halt_fate h) × (new ≡ after_missed h kind s) × (appended ≡ text ++ line_of (halt_answer naming_nothing h)) → IsDone (Performs s (tried kind s) e naming_nothing done fate) new text appended
kept_out s new kind e done halts.Full fate text appended is told =
    subst (λ f. IsDone (Performs s (tried kind s) e naming_nothing done f) new text appended) (sym told.0) (_, full is, told.1, told.2)
kept_out s new kind e done (halts.Refused why) fate text appended is told =
    subst (λ f. IsDone (Performs s (tried kind s) e naming_nothing done f) new text appended) (sym told.0) (_, refused is.0 why is.1, told.1, told.2)
kept_out s new kind e done halts.Memory fate text appended is told =
    subst (λ f. IsDone (Performs s (tried kind s) e naming_nothing done f) new text appended) (sym told.0) (_, no_memory is.0 is.1, told.1, told.2)

-- A step of an arrival, and the count of calls, in either order.

counted : (kind : ArrivalKind) (s : ShellState) (a : _) → tried kind (stepped a s) ≡ stepped a (tried kind s)
counted arrivals.Call s a = refl
counted arrivals.Cast s a = refl
counted arrivals.Info s a = refl

pub arrived-done : (s new after : ShellState) (kind : ArrivalKind) (e : Event) (number : ℕ) (answer : Answer) (fate : Option Fate) (text appended : List ℕ) → IsStepped answer s e new → number ≡ next_number s → (fate ≡ None) × (after ≡ tried kind new) × (appended ≡ text ++ line_of (arrival_answer kind number)) → IsDone (Performs s (tried kind s) e naming_nothing (λ a. carried (stepped a (tried kind s)) e (arrival_answer kind (next_number s))) fate) after text appended
arrived-done s new after kind e number answer fate text appended is same said =
    let a = is.accepted in
    subst (λ f. IsDone (Performs s (tried kind s) e naming_nothing (λ b. carried (stepped b (tried kind s)) e (arrival_answer kind (next_number s))) f) after text appended) (sym said.0) (_, accepted is.room a is.rule, said.1 ∙ ap (tried kind) is.after ∙ counted kind s a, said.2 ∙ ap (λ n. text ++ line_of (arrival_answer kind n)) same)
