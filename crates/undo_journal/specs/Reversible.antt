-- What a reversible machine promises of one step.
use Rattle.std.specs.Prelude.{◌≡◌, ℕ, List, Result, Ok, Err, replicate}
use Rattle.undo_journal.specs.declared.reversible.Told.{Told}
use Rattle.values.specs.Failure.{Fails}
use Rattle.values.specs.declared.failure.Failure.{Failure}

-- What the rule makes of an event that it accepts: the node after it, the answer, and the note.
pub record Accepted (S A N : Type 0) : Type 0 where
  pub node : S
  pub answer : A
  pub note : N

-- what is told of an accepted event
abbrev pub told_of : {S A N : Type 0} → Accepted S A N → Told A N
told_of a = record { answer = a.answer; note = a.note }

-- What the rule makes of one event is seen as `IsRuled`, which holds of the outcomes that it gives.

-- the rule accepted the event, the node is the one that it gives, and n equal values tell of it
abbrev pub Accepts : {S A N F : Type 0} → (Result (Accepted S A N) F → Type 0) → S → ℕ → List (Told A N) → Type 0
Accepts {S} {A} {N} {F} IsRuled new n told =
    (a : Accepted S A N) × IsRuled (Ok a) × (a.node ≡ new) × (told ≡ replicate n (told_of a))

-- The step failed as the rule refuses, or for lack of memory, where memory may run out: no refusal that is told without memory is
-- hidden.
abbrev pub Refuses : {S A N F : Type 0} → (Result (Accepted S A N) F → Type 0) → Type 0 → Failure F → Type 0
Refuses IsRuled MayRunOut failure = Fails (λ refusal. IsRuled (Err refusal)) MayRunOut failure
