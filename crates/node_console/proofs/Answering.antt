-- Lemmas on what a line of the console does.
use Rattle.std.proofs.Common.{◌≡◌, ℕ, List, [], ◌∷◌, ◌++◌, Option, None, Some, Result, Ok, Err, IfOk, flat_map, refl, sym, ap, subst, ◌∙◌}
use Rattle.std.proofs.lemmas.List.{append_assoc}
use Rattle.console_answers.specs.Comments.{AddsComments, comment}
use Rattle.console_answers.specs.Journal.{steps_after}
use Rattle.console_answers.specs.declared.journal.LoggedStep.{LoggedStep}
use Rattle.console_answers.specs.declared.journal.NamedMark.{NamedMark}
use Rattle.console_answers.specs.Rows.{rows_text}
use Rattle.erl_term.specs.declared.term.Term.{Term}
use Rattle.line_server.specs.Session.{Exchange, IsExchange}
use Rattle.node_console.specs.Console.{Comments, ConsoleState, NamesHere, Obeys, SaysFixed, TellsRows, console_after, console_exchange, does, does_line, no_memory_to_name, no_memory_to_note, unchanged}
use Rattle.node_console.specs.Held.{IsShown}
use Rattle.shell_answers.specs.Answers.{fixed, line_of}
use Rattle.shell_answers.specs.declared.fixed.Fixed.{Fixed}
use Rattle.shell_answers.specs.declared.fixed.Fixed.TheVariants as words
use Rattle.shell_exec.specs.Fate.TheVariants.{Refused}
use Rattle.shell_exec.specs.Execution.{ExecutesLine}
use Rattle.shell_exec.specs.Fate.{Fate}
use Rattle.shell_exec.specs.HoldingsDone.{IsDone}
use Rattle.shell_exec.specs.State.{ShellState}
use Rattle.shell_requests.specs.Request.{Spoken}
use Rattle.undo_journal.specs.Timeline.{here}

-- comments after what was appended are comments after the answer
pub comments-after : (old answer appended all : List ℕ) → appended ≡ old ++ answer → AddsComments appended all →
    (text : List ℕ) × AddsComments answer text × (all ≡ old ++ text)
comments-after old answer appended all is adds =
    let comments = flat_map comment adds.texts in (
      answer ++ comments,
      record { texts = adds.texts; appended = refl },
      adds.appended ∙ ap (λ (l : List ℕ). l ++ comments) is ∙ append_assoc old answer comments,
    )

-- what is said was done, and the step that it made or took back was noted
pub obeyed : (fate : Option Fate) (line : List ℕ) (said : Spoken) (shell new : ShellState) (steps steps_new : List LoggedStep)
    (marks : List NamedMark) (old appended : List ℕ)
    → IsDone (ExecutesLine fate shell said) new old appended
    → steps_new ≡ steps_after line (here shell.timeline).serial shell.timeline.first.serial (here new.timeline).serial
    new.timeline.first.serial steps
    → IsExchange (Obeys (record { shell = shell; steps = steps; marks = marks }) line said fate)
    (record { shell = new; steps = steps_new; marks = marks }) old appended
obeyed fate line said shell new steps steps_new marks old appended done noted =
    let d = done.0 in
    let c : ConsoleState = record { shell = shell; steps = steps; marks = marks } in
    let after : ShellState → List LoggedStep = λ s. steps_after line (here shell.timeline).serial shell.timeline.first.serial
    (here s.timeline).serial s.timeline.first.serial steps in (
      record { text = d.text; after = console_after line d c },
      does fate d done.1,
      ap (λ (ss : List LoggedStep). record { shell = new; steps = ss; marks = marks }) noted
          ∙ ap (λ (s : ShellState). record { shell = s; steps = after s; marks = marks }) done.2,
      done.3,
    )

-- comments come after what was appended
pub commented : (fate : Option Fate) (c new : ConsoleState) (line : Option (List ℕ)) (old appended all : List ℕ)
    → IsExchange (does_line fate c line) new old appended → AddsComments appended all
    → IsExchange (console_exchange fate c line) new old all
commented fate c new line old appended all done adds =
    let u = done.0 in
    let more = comments-after old u.text appended all done.3 adds in
    (record { text = more.0; after = u.after }, (u, done.1, refl, more.1), done.2, more.2)

-- the exchange of a session that answers into room of its own
pub answered_into : (fate : Option Fate) (held s new : ConsoleState) (line : Option (List ℕ)) (none answer old appended : List ℕ)
    → held ≡ s → none ≡ [] → IsExchange (console_exchange fate held line) new none answer → appended ≡ old ++ answer
    → IsExchange (console_exchange fate s line) new old appended
answered_into fate held s new line none answer old appended views empty done more =
    let t = done.0 in
    let text : answer ≡ t.text = done.3 ∙ ap (λ (l : List ℕ). l ++ t.text) empty in
    (t, subst (λ (u : ConsoleState). console_exchange fate u line t) views done.1, done.2, more ∙ ap (λ (l : List ℕ). old ++ l) text)

pub IfOk-then : {T E : Type 0} (r : Result T E) (P Q : T → Type 0) → IfOk r P → ((x : T) → P x → Q x) → IfOk r Q
IfOk-then (Ok x) P Q p step = step x p
IfOk-then (Err e) P Q p step = tt

-- What was appended is shown.

pub word_said : (word : Fixed) (fate : Option Fate) (old new : List ℕ) → (fate ≡ None) × (new ≡ old ++ line_of (fixed word)) →
    IsShown (SaysFixed word fate) old new
word_said word fate old new told = (line_of (fixed word), (told.0, refl), told.1)

pub comments_said : (fate : Option Fate) (old new : List ℕ) → fate ≡ None → AddsComments old new → IsShown (Comments fate) old new
comments_said fate old new is adds =
    (flat_map comment adds.texts, (is, record { texts = adds.texts; appended = refl }), adds.appended)

pub rows_said : (may : List Term → Type 0) (fate : Option Fate) (old new : List ℕ) (lent items : List Term) → lent ≡ items → may items →
    (fate ≡ None) × (new ≡ old ++ rows_text lent) → IsShown (TellsRows may fate) old new
rows_said may fate old new lent items same holds told =
    subst (λ (f : Option Fate). IsShown (TellsRows may f) old new) (sym told.0)
    (rows_text lent, (items, holds, ap rows_text same), told.1)

pub refused_said : (may : List Term → Type 0) (fate : Option Fate) (old new : List ℕ) →
    (fate ≡ Some Refused) × (new ≡ old ++ line_of (fixed words.Memory)) → IsShown (TellsRows may fate) old new
refused_said may fate old new told =
    subst (λ (f : Option Fate). IsShown (TellsRows may f) old new) (sym told.0) (line_of (fixed words.Memory), refl, told.1)

-- there was no memory to note a line, and nothing was done
pub not_noted : (c new : ConsoleState) (line : List ℕ) (said : Spoken) (fate : Option Fate) (old appended : List ℕ) → new ≡ c →
    (fate ≡ Some Refused) × (appended ≡ old ++ line_of (fixed words.Memory)) → IsExchange (Obeys c line said fate) new old appended
not_noted c new line said fate old appended same told =
    subst (λ (f : Option Fate). IsExchange (Obeys c line said f) new old appended) (sym told.0)
    (unchanged (line_of (fixed words.Memory)) c, no_memory_to_note, same, told.1)

-- nor to give a mark a name
pub not_named : (c new : ConsoleState) (name : List ℕ) (fate : Option Fate) (old appended : List ℕ) → new ≡ c →
    (fate ≡ Some Refused) × (appended ≡ old ++ line_of (fixed words.Memory)) → IsExchange (NamesHere c name fate) new old appended
not_named c new name fate old appended same told =
    subst (λ (f : Option Fate). IsExchange (NamesHere c name f) new old appended) (sym told.0)
    (unchanged (line_of (fixed words.Memory)) c, no_memory_to_name, same, told.1)

-- the console with other steps of the same items
pub same_console : (shell : ShellState) (steps steps_new : List LoggedStep) (marks marks_new : List NamedMark) → steps_new ≡ steps →
    marks_new ≡ marks → ◌≡◌ {A = ConsoleState} (record { shell = shell; steps = steps_new; marks = marks_new })
    (record { shell = shell; steps = steps; marks = marks })
same_console shell steps steps_new marks marks_new one other = λ i. record { shell = shell; steps = one i; marks = other i }
