-- What is accepted, and told as often as it is asked for; and what is refused.
use Rattle.std.proofs.Common.{◌≡◌, ℕ, zero, suc, List, [], ◌∷◌, map, replicate, Option, None, Some, Ok, Err, IfOk, Result, MatchOption, option_map, refl, sym, ap, subst, ◌∙◌}
use Rattle.process_store.specs.Table.{Table}
use Rattle.process_table.specs.Undo.{TakesBack, TakesBackEnds}
use Rattle.process_table.specs.declared.undo.ProcessesUndo.{ProcessesUndo}
use Rattle.undo_journal.specs.Reversible.{Accepted}
use Rattle.script_state.specs.Runner.{RunnerState}
use Rattle.node_rules.specs.Node.{NodeState}
use Rattle.node_rules.specs.Scripts.{Outcome, UnlessInstalling}
use Rattle.node_rules.specs.Step.{unless}
use Rattle.node_types.specs.declared.event.Answer.{Answer}
use Rattle.node_types.specs.Note.{Note}
use Rattle.node_types.specs.declared.event.Refusal.{Refusal}

-- of equal values something is made
pub each_of : {A B : Type 0} (f : A → B) (x : A) (n : ℕ) → map f (replicate n x) ≡ replicate n (f x)
each_of f x zero = refl
each_of f x (suc n) = ap (λ ys. f x ∷ ys) (each_of f x n)

maps_some : {A B : Type 0} (f : Option A → B) (xs : List A) → map (λ x. f (Some x)) xs ≡ map f (map Some xs)
maps_some f [] = refl
maps_some f (x ∷ xs) = ap (λ ys. f (Some x) ∷ ys) (maps_some f xs)

-- what is told of arrivals, each of which is one
pub all_told : {A B : Type 0} (f : Option A → B) (xs : List A) (o : Option A) (n : ℕ) → map Some xs ≡ replicate n o → map (λ x. f (Some x)) xs ≡ replicate n (f o)
all_told f xs o n are = maps_some f xs ∙ ap (map f) are ∙ each_of f o n

-- nothing stands against it, or something does

pub unless_none : {E : Type 0} (o : Option E) (of : E → Refusal) (a : Accepted NodeState Answer Note) → o ≡ None → Ok a ≡ unless o of a
unless_none o of a none = ap (λ p. unless p of a) (sym none)

pub unless_some : {E : Type 0} (o : Option E) (of : E → Refusal) (a : Accepted NodeState Answer Note) (e : E) → o ≡ Some e → Err (of e) ≡ unless o of a
unless_some o of a e some = ap (λ p. unless p of a) (sym some)

-- no script runs
pub while_idle : (o : Option RunnerState) (IsOutcome : Outcome → Type 0) (r : Outcome) → o ≡ None → IsOutcome r → UnlessInstalling o IsOutcome r
while_idle o IsOutcome r idle is = subst (λ s. UnlessInstalling s IsOutcome r) (sym idle) is

-- Why an event is refused is told, or nothing stands against it.

pub told_or_not : {E : Type 0} (of : E → Refusal) (o : Option E) (a : Accepted NodeState Answer Note) → MatchOption (option_map of o) (o ≡ None) (λ (it : Refusal). Err it ≡ unless o of a)
told_or_not of None a = refl
told_or_not of (Some e) a = refl

-- what takes a step back over any modules does so over those in which the instances stand that processes use
pub ends_back : (undo : ProcessesUndo) (before after : Table) → TakesBack undo before after → TakesBackEnds undo before after
ends_back undo before after takes = λ modules. ((takes modules).0, λ sound stand. (takes modules).1)

-- what holds of a success holds of it in other words
pub if_ok : {A E : Type 0} (r : Result A E) (P Q : A → Type 0) → ((x : A) → P x → Q x) → IfOk r P → IfOk r Q
if_ok (Ok x) P Q f holds = f x holds
if_ok (Err e) P Q f holds = holds
