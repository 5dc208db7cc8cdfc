-- What the functions say that make a step of a node's parts, and that take one back.
use Rattle.std.specs.Prelude.{◌≡◌, ℕ, Result, Ok, Err, option_map}
use Rattle.script_state.specs.Runner.{runner_of}
use Rattle.undo_journal.specs.Reversible.{Accepts, Refuses}
use Rattle.undo_journal.specs.declared.reversible.Stepped.{Stepped}
use Rattle.values.specs.declared.failure.Failure.{Failure}
use Rattle.node_rules.specs.Node.{NodeState}
use Rattle.node_parts.specs.Record.{LeadsBack, Restores, Undoes}
use Rattle.node_rules.specs.Scripts.{Outcome}
use Rattle.node_rules.specs.Step.{MayRunOut, Step}
use Rattle.node_parts.specs.declared.parts.NodeParts.{NodeParts}
use Rattle.node_parts.specs.declared.record.Record.{Record}
use Rattle.node_parts.specs.declared.record.WayBack.{WayBack}
use Rattle.node_types.specs.declared.event.Answer.{Answer}
use Rattle.node_types.specs.declared.event.Event.{Event}
use Rattle.node_types.specs.Note.{Note}
use Rattle.node_types.specs.declared.event.Refusal.{Refusal}

-- the node that these parts are
abbrev pub state_of : NodeParts → NodeState
state_of p = record {
  modules = p.modules;
  processes = p.processes;
  apps = p.apps;
  releases = p.releases;
  runner = option_map runner_of p.runner;
}

-- A step is made by a rule, and its record takes it back; or it is refused, or memory was, and nothing is changed.
abbrev pub IsStepOf : (Outcome → Type 0) → Type 0 → ℕ → NodeState → NodeState →
    Result (Stepped Answer Note Record) (Failure Refusal) → Type 0
IsStepOf IsRuled MayWant n before after (Ok done) =
    Accepts IsRuled after n done.told.items × Restores done.trace.way_back before after
IsStepOf IsRuled MayWant n before after (Err failure) = Refuses IsRuled MayWant failure × (after ≡ before)

-- the step of an event, by the rule of a node
abbrev pub IsStep : Event → ℕ → NodeState → NodeState → Result (Stepped Answer Note Record) (Failure Refusal) → Type 0
IsStep e n before after result = IsStepOf (Step before e) (MayRunOut before e) n before after result

-- The node is again the one that a way back leads to; or memory was refused, it is handed out again, and nothing is changed.
abbrev pub IsGoneBack : WayBack → NodeState → NodeState → Result (Unit {0}) WayBack → Type 0
IsGoneBack w now after (Ok done) = (before : NodeState) → LeadsBack w before now → after ≡ before
IsGoneBack w now after (Err back) = (back ≡ w) × (after ≡ now)

-- A step is taken back; or memory was refused, the record is handed out again, and nothing is changed.
abbrev pub IsTakenBack : Record → NodeState → NodeState → Result (Unit {0}) Record → Type 0
IsTakenBack r now after (Ok done) = (before : NodeState) → Undoes r before now → after ≡ before
IsTakenBack r now after (Err back) = (back ≡ r) × (after ≡ now)
