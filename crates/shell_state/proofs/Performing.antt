-- Lemmas on events that were performed, and on those that were not.
use Rattle.std.proofs.Common.{◌≡◌, ◌+◌, ◌↔◌, ℕ, Bool, true, false, IsTrue, Result, Ok, Err, cond, is_some, length, [], ◌∷◌, List, ◌++◌, Option, None, Some, refl, sym, ap, subst, ◌∙◌}
use Rattle.undo_journal.specs.Journal.{PerformFails}
use Rattle.undo_journal.specs.Reversible.{Accepted}
use Rattle.undo_journal.specs.declared.error.JournalError.{JournalError}
use Rattle.undo_journal.specs.declared.error.JournalError.TheVariants as error
use Rattle.erl_semantics.specs.declared.jobs.Job.{Job}
use Rattle.process_effects.specs.Commits.{job_at}
use Rattle.process_store.specs.Table.{living}
use Rattle.process_store.specs.declared.living.ProcessEntry.{ProcessEntry}
use Rattle.process_table.specs.Steps.{retake_refusal, retake_refusal_of}
use Rattle.process_table.specs.declared.error.ProcError.{ProcError}
use Rattle.process_table.specs.declared.error.ProcError.TheVariants as proc
use Rattle.shell_answers.specs.Answers.{fixed, job_of, line_of}
use Rattle.shell_answers.specs.Refusals.{Subject, naming_nothing, proc_refusal}
use Rattle.shell_answers.specs.declared.fixed.Fixed.TheVariants as words
use Rattle.shell_steps.specs.Node.{NodeState}
use Rattle.node_types.specs.declared.event.Answer.{Answer}
use Rattle.node_types.specs.declared.event.Answer.TheVariants as tells
use Rattle.node_types.specs.declared.event.Event.{Event}
use Rattle.node_types.specs.declared.event.Event.TheVariants as event
use Rattle.node_types.specs.Note.{Note}
use Rattle.shell_steps.specs.Scripts.{Outcome, UnlessInstalling}
use Rattle.shell_steps.specs.Step.{MayRunOut, Step}
use Rattle.node_types.specs.declared.event.Refusal.{Refusal}
use Rattle.node_types.specs.declared.event.Refusal.TheVariants.{Installing}
use Rattle.script_state.specs.Runner.{RunnerState}
use Rattle.shell_state.specs.Serving.{Commits, Retakes, no_memory_to_run, not_run, not_run_full, kept_again, no_memory_to_keep, not_running}
use Rattle.shell_state.specs.Performing.{Performs, accepted, full, no_memory, refused, done_by, job_kept}
use Rattle.shell_state.specs.Done.{IsDone, KeepsJob}
use Rattle.shell_steps.specs.Halts.{Halts, HaltsBy, MayCommit, RefusesResult, halt_answer, halt_by, halt_fate}
use Rattle.undo_journal.specs.declared.history.Command.TheVariants.{Perform}
use Rattle.shell_steps.specs.State.{Effect, IsFull, ShellState, node_of, stepped, with_job}
use Rattle.shell_steps.specs.Stepping.{IsStepped}
use Rattle.shell_steps.specs.declared.fate.Fate.{Fate}
use Rattle.shell_steps.specs.declared.fate.Fate.TheVariants as fates
use Rattle.shell_steps.specs.declared.stepping.Halt.{Halt}
use Rattle.shell_steps.specs.declared.stepping.Halt.TheVariants as halts

-- an event that was not performed is told, and leaves the shell as it is
pub halted : (s : ShellState) (e : Event) (about : Subject) (done : Accepted NodeState Answer Note → Effect) (h : Halt) (fate : Option Fate) (text appended : List ℕ) → Halts h s e → (fate ≡ halt_fate h) × (appended ≡ text ++ line_of (halt_answer about h)) → IsDone (Performs s s e about done fate) s text appended
halted s e about done halts.Full fate text appended is told =
    subst (λ f. IsDone (Performs s s e about done f) s text appended) (sym told.0) (_, full is, refl, told.1)
halted s e about done (halts.Refused why) fate text appended is told =
    subst (λ f. IsDone (Performs s s e about done f) s text appended) (sym told.0) (_, refused is.0 why is.1, refl, told.1)
halted s e about done halts.Memory fate text appended is told =
    subst (λ f. IsDone (Performs s s e about done f) s text appended) (sym told.0) (_, no_memory is.0 is.1, refl, told.1)

-- and one that was performed does what is done of it
pub performed : (s new : ShellState) (e : Event) (about : Subject) (done : Accepted NodeState Answer Note → Effect) (answer : Answer) (fate : Option Fate) (after : ShellState) (text appended : List ℕ) (after_by : ShellState → Answer → ShellState) (text_by : ShellState → Answer → List ℕ) → IsStepped answer s e new → ((a : Accepted NodeState Answer Note) → Step (node_of s) e (Ok a) → (done a ≡ record { text = text_by (stepped a s) a.answer; after = after_by (stepped a s) a.answer; command = Some (Perform e) })) → (fate ≡ None) × (after ≡ after_by new answer) × (appended ≡ text ++ text_by new answer) → IsDone (Performs s s e about done fate) after text appended
performed s new e about done answer fate after text appended after_by text_by is does told =
    let a = is.accepted in
    let at : after ≡ (done a).after = told.1 ∙ (λ i. after_by (is.after i) (is.answer i)) ∙ ap (λ (d : Effect). d.after) (sym (does a is.rule)) in
    let text_at : appended ≡ text ++ (done a).text = told.2 ∙ (λ i. text ++ text_by (is.after i) (is.answer i)) ∙ ap (λ (d : Effect). text ++ d.text) (sym (does a is.rule)) in
    subst (λ f. IsDone (Performs s s e about done f) after text appended) (sym told.0) (done a, accepted is.room a is.rule, at, text_at)

-- and one that was accepted has its job kept
pub taken-done : (s : ShellState) (pid : ℕ) (a : Accepted NodeState Answer Note) (fate : Option Fate) (new : ShellState) (text appended : List ℕ) → (IsFull s → ⊥) → Step (node_of s) (event.Take pid) (Ok a) → ((job : Job) → a.answer ≡ tells.Job job → (fate ≡ None) × (new ≡ with_job job (stepped a s)) × (appended ≡ text ++ line_of (job_of (length s.jobs + 1) pid))) → IsDone (Performs s s (event.Take pid) naming_nothing (done_by s (event.Take pid)) fate) new text appended
taken-done s pid a fate new text appended room rule told =
    let is : a.answer ≡ tells.Job rule.0 = ap (λ (x : Accepted NodeState Answer Note). x.answer) rule.4 in
    let said = told rule.0 is in
    subst (λ f. IsDone (Performs s s (event.Take pid) naming_nothing (done_by s (event.Take pid)) f) new text appended) (sym said.0) (done_by s (event.Take pid) a, accepted room a rule, said.1 ∙ ap (λ (x : Answer). job_kept x (stepped a s)) (sym is), said.2)

-- a process that runs a job refuses no retake
unrefused_at : (o : Option ProcessEntry) (job : Job) → job_at o ≡ Some job → retake_refusal_of o ≡ None
unrefused_at None job runs = absurd (let never : ⊥ = cc in never)
unrefused_at (Some l) job runs = ap (λ (j : Option Job). cond (is_some j) None (Some proc.NotRunning)) runs

-- a job that is taken again is kept, or there is no memory
pub again_kept : (s new : ShellState) (pid : ℕ) (job : Job) (fate : Option Fate) (text appended : List ℕ) → job_at (living pid (node_of s).processes) ≡ Some job → KeepsJob pid job fate s new text appended → IsDone (Retakes s pid fate) new text appended
again_kept s new pid job None text appended runs told = (_, kept_again job runs, told.0, told.1)
again_kept s new pid job (Some fates.Refused) text appended runs told =
    (_, no_memory_to_keep (unrefused_at (living pid (node_of s).processes) job runs), told.0, told.1)
again_kept s new pid job (Some (fates.StoppedAt mark)) text appended runs told = absurd told

-- and it is told why there is none

pub retold : (s : ShellState) (pid : ℕ) (why : ProcError) (fate : Option Fate) (text appended : List ℕ) → retake_refusal pid (node_of s).processes ≡ Some why → (fate ≡ None) × (appended ≡ text ++ line_of (fixed (proc_refusal why))) → IsDone (Retakes s pid fate) s text appended
retold s pid why fate text appended refuses told =
    subst (λ f. IsDone (Retakes s pid f) s text appended) (sym told.0) (_, not_running why refuses, refl, told.1)

pub not_kept : (s : ShellState) (pid : ℕ) (fate : Option Fate) (text appended : List ℕ) → retake_refusal pid (node_of s).processes ≡ None → (fate ≡ Some fates.Refused) × (appended ≡ text ++ line_of (fixed words.Memory)) → IsDone (Retakes s pid fate) s text appended
not_kept s pid fate text appended none told =
    subst (λ f. IsDone (Retakes s pid f) s text appended) (sym told.0) (_, no_memory_to_keep none, refl, told.1)

-- a job that was not run
pub unrun : (s : ShellState) (job : Job) (h : Halt) (fate : Option Fate) (text appended : List ℕ) → HaltsBy (RefusesResult s job) (MayCommit s job) h s → (fate ≡ halt_fate h) × (appended ≡ text ++ line_of (halt_answer naming_nothing h)) → IsDone (Commits s job fate) s text appended
unrun s job halts.Full fate text appended is told =
    subst (λ f. IsDone (Commits s job f) s text appended) (sym told.0) (_, not_run_full is, refl, told.1)
unrun s job (halts.Refused why) fate text appended is told =
    subst (λ f. IsDone (Commits s job f) s text appended) (sym told.0) (_, not_run is.0 why is.1, refl, told.1)
unrun s job halts.Memory fate text appended is told =
    subst (λ f. IsDone (Commits s job f) s text appended) (sym told.0) (_, no_memory_to_run is.0 is.1, refl, told.1)

-- what is one effect is another that it equals
pub done-as : {P Q : Effect → Type 0} (new : ShellState) (text appended : List ℕ) → ((d : Effect) → P d → Q d) → IsDone P new text appended → IsDone Q new text appended
done-as new text appended step done = (done.0, step done.0 done.1, done.2, done.3)

-- where a test says that serials are left, they are
pub unfull : (b : Bool) (P : Type 0) → (IsTrue b ↔ P) → b ≡ false → P → ⊥
unfull b P same is so = let yes = same.1 so in let never : ⊥ = cc in never

-- Events that are refused while a script runs.

pub runner_told : (n m : NodeState) (b x : Bool) → n ≡ m → b ≡ is_some n.runner → b ≡ x → is_some m.runner ≡ x
runner_told n m b x same tells is = ap (λ (k : NodeState). is_some k.runner) (sym same) ∙ sym tells ∙ is

pub no_script : (o : Option RunnerState) → is_some o ≡ false → o ≡ None
no_script None none = refl
no_script (Some s) none = absurd (let never : ⊥ = cc in never)

pub refused_meanwhile : (o : Option RunnerState) (Is : Outcome → Type 0) → is_some o ≡ true → UnlessInstalling o Is (Err Installing)
refused_meanwhile None Is runs = absurd (let never : ⊥ = cc in never)
refused_meanwhile (Some s) Is runs = refl

pub judged_otherwise : (o : Option RunnerState) (Is : Outcome → Type 0) (out : Outcome) → is_some o ≡ false → Is out → UnlessInstalling o Is out
judged_otherwise None Is out none is = is
judged_otherwise (Some s) Is out none is = absurd (let never : ⊥ = cc in never)
