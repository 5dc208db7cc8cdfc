-- A step of the parts is one of the node, and keeps what every node keeps; and so is what takes one back.
use Rattle.std.proofs.Common.{◌≡◌, ◌∙◌, ℕ, Option, Some, Result, Ok, Err, IfErr, IfOk, MatchOption, OnErr, OnOk, sym, subst}
use Rattle.undo_journal.specs.Reversible.{Accepts, Refuses}
use Rattle.undo_journal.specs.declared.reversible.Stepped.{Stepped}
use Rattle.values.specs.declared.failure.Failure.{Failure}
use Rattle.script_events.specs.Changes.{IsStep, IsTakenBack}
use Rattle.script_events.specs.Record.{Undoes}
use Rattle.script_events.specs.DeclaredRecord.{Record}
use Rattle.script_events.proofs.Steps.{step_keeps}
use Rattle.script_events.specs.Node.{IsSoundNode, NodeState}
use Rattle.script_events.specs.Step.{MayRunOut, Step}
use Rattle.node_types.specs.declared.event.Answer.{Answer}
use Rattle.node_types.specs.declared.event.Event.{Event}
use Rattle.node_types.specs.Note.{Note}
use Rattle.node_types.specs.declared.event.Refusal.{Refusal}

abbrev Outcomes : Type 0
Outcomes = Result (Stepped Answer Note Record) (Failure Refusal)

pub kept_after : (e : Event) (k : ℕ) (n after : NodeState) (result : Outcomes) → IsStep e k n after result → IsSoundNode n → IsSoundNode after
kept_after e k n after (Ok done) ((a, ruled, is, told), back) kept = subst IsSoundNode is (step_keeps n e a ruled kept)
kept_after e k n after (Err failure) (refuses, same) kept = subst IsSoundNode (sym same) kept

pub accepted_by : (e : Event) (k : ℕ) (n now after : NodeState) (result : Outcomes) → n ≡ now → IsStep e k n after result → IfOk result (λ done. Accepts (Step now e) after k done.told.items)
accepted_by e k n now after (Ok done) view step = subst (λ (m : NodeState). Accepts (Step m e) after k done.told.items) view step.0
accepted_by e k n now after (Err failure) view step = tt

pub reversible_by : (e : Event) (k : ℕ) (n now after : NodeState) (result : Outcomes) → n ≡ now → IsSoundNode n → IsStep e k n after result → IfOk result (λ done. Undoes done.trace now after)
reversible_by e k n now after (Ok done) view kept step = subst (λ (m : NodeState). Undoes done.trace m after) view (kept, step.1)
reversible_by e k n now after (Err failure) view kept step = tt

pub refused_by : (e : Event) (k : ℕ) (n now after : NodeState) (result : Outcomes) → n ≡ now → IsStep e k n after result → IfErr result (Refuses (Step now e) (MayRunOut now e))
refused_by e k n now after (Ok done) view step = tt
refused_by e k n now after (Err failure) view step = subst (λ (m : NodeState). Refuses (Step m e) (MayRunOut m e) failure) view step.0

pub stays_by : (e : Event) (k : ℕ) (n now after : NodeState) (result : Outcomes) → n ≡ now → IsStep e k n after result → OnErr result (after ≡ now)
stays_by e k n now after (Ok done) view step = tt
stays_by e k n now after (Err failure) view step = step.1 ∙ view

-- What is told without memory.

pub told_refusal : (e : Event) (n now : NodeState) (o : Option Refusal) (r : Refusal) → o ≡ Some r → n ≡ now → MatchOption o (MayRunOut n e) (λ (it : Refusal). Step n e (Err it)) → Step now e (Err r)
told_refusal e n now o r is view told = subst (λ (m : NodeState). Step m e (Err r)) view (subst (λ (x : Option Refusal). MatchOption x (MayRunOut n e) (λ (it : Refusal). Step n e (Err it))) is told)

-- What takes a step back.

pub kept_back : (r : Record) (before n after : NodeState) (result : Result (Unit {0}) Record) → Undoes r before n → IsTakenBack r n after result → IsSoundNode n → IsSoundNode after
kept_back r before n after (Ok done) undoes back kept = subst IsSoundNode (sym (back before undoes)) undoes.0
kept_back r before n after (Err it) undoes back kept = subst IsSoundNode (sym back.1) kept

pub back_by : (r : Record) (n now after : NodeState) (result : Result (Unit {0}) Record) → n ≡ now → IsTakenBack r n after result → OnOk result ((before : NodeState) → Undoes r before now → after ≡ before)
back_by r n now after (Ok done) view back = subst (λ (m : NodeState). (before : NodeState) → Undoes r before m → after ≡ before) view back
back_by r n now after (Err it) view back = tt

pub same_by : (r : Record) (n now after : NodeState) (result : Result (Unit {0}) Record) → n ≡ now → IsTakenBack r n after result → OnErr result (after ≡ now)
same_by r n now after (Ok done) view back = tt
same_by r n now after (Err it) view back = back.1 ∙ view

pub given_by : (r : Record) (n after : NodeState) (result : Result (Unit {0}) Record) → IsTakenBack r n after result → IfErr result (λ it. it ≡ r)
given_by r n after (Ok done) back = tt
given_by r n after (Err it) back = back.0
