-- What is accepted is what the rule makes of an event, where nothing stands against it.
use Rattle.std.proofs.Common.{◌≡◌, Option, None, Some, Ok, Err, refl, sym, subst}
use Rattle.node_rules.specs.Node.{IsSoundNode, NodeState}
use Rattle.node_rules.specs.Scripts.{Outcome, UnlessInstalling}
use Rattle.node_rules.specs.Step.{unless}
use Rattle.node_types.specs.Note.{Note}
use Rattle.node_types.specs.declared.event.Answer.{Answer}
use Rattle.node_types.specs.declared.event.Refusal.{Refusal}
use Rattle.node_types.specs.declared.event.Refusal.TheVariants as refusal
use Rattle.script_state.specs.Runner.{RunnerState}
use Rattle.undo_journal.specs.Reversible.{Accepted}

abbrev pub Acceptance : Type 0
Acceptance = Accepted NodeState Answer Note

abbrev pub accepts : Acceptance → Outcome
accepts a = Ok a

abbrev pub refuses : Refusal → Outcome
refuses e = Err e

same_ok : (a b : Acceptance) → accepts a ≡ accepts b → a ≡ b
same_ok a b is = cc

pub accepted_or_not : (a : Acceptance) (e : Refusal) → accepts a ≡ refuses e → ⊥
accepted_or_not a e is = cc

pub is_kept : (a b : Acceptance) → a ≡ b → IsSoundNode b.node → IsSoundNode a.node
is_kept a b is kept = subst (λ (it : Acceptance). IsSoundNode it.node) (sym is) kept

pub always : (a b : Acceptance) → accepts a ≡ accepts b → IsSoundNode b.node → IsSoundNode a.node
always a b is kept = is_kept a b (same_ok a b is) kept

pub accepted : {E : Type 0} (o : Option E) (of : E → Refusal) (b a : Acceptance) → accepts a ≡ unless o of b →
    (o ≡ None → IsSoundNode b.node) → IsSoundNode a.node
accepted None of b a is kept = always a b is (kept refl)
accepted (Some e) of b a is kept = absurd (accepted_or_not a (of e) is)

-- An event that is refused while a script runs was accepted: none runs.
pub no_runner : (o : Option RunnerState) (Is : Outcome → Type 0) (a : Acceptance) → UnlessInstalling o Is (Ok a) →
    (o ≡ None) × Is (Ok a)
no_runner None Is a is = (refl, is)
no_runner (Some s) Is a is = absurd (accepted_or_not a refusal.Installing is)
