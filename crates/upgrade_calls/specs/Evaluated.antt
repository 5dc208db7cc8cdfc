-- What has come of evaluating so far, before any process is changed: the processes that are to change, in order; the states that
-- they are to get; and all acts, in order.
use Rattle.std.specs.Prelude.{◌≡◌, ℕ, ◌<◌, ◌+◌, ◌^◌, ◌++◌, All, List, [], ◌∷◌, length, Option, None, Some}
use Rattle.erl_semantics.specs.Acts.{act_of}
use Rattle.erl_semantics.specs.OutcomeLaws.{IsMessage}
use Rattle.erl_semantics.specs.declared.acts.Act.{Act}
use Rattle.erl_semantics.specs.declared.instance.Instance.{Instance}
use Rattle.erl_semantics.specs.declared.outcome.Outcome.{Outcome}
use Rattle.erl_term.specs.declared.term.Term.{Term}
use Rattle.process_effects.specs.Begins.{acts_begun, begun_told}
use Rattle.process_effects.specs.declared.told.Reply.{Reply}
use Rattle.process_store.specs.Table.{Table, living}
use Rattle.process_store.specs.declared.living.ProcessEntry.{ProcessEntry}
use Rattle.process_table.specs.States.{AreApart, all_restated}
use Rattle.process_table.specs.declared.states.StateChange.{StateChange}
use Rattle.upgrade_calls.specs.Changing.{AreCounted, Changes, HasTurnLeft, IsServer, after_change, change_told}
use Rattle.upgrade_calls.specs.NewStates.{AreRising, AreWithin}
use Rattle.upgrade_calls.specs.declared.changing.CodeChangeCall.{CodeChangeCall}

-- it can be counted on by so many turns

abbrev pub CanCount : ℕ → Option ProcessEntry → Type 0
CanCount turns None = ⊥
CanCount turns (Some l) = l.process.turn + turns < 2 ^ 64

-- a gen_server process lives, which is to get a state
abbrev pub IsChange : Table → StateChange → Type 0
IsChange t c = (0 < c.turns) × IsServer (living c.pid t)

-- messages and replies alone
abbrev pub AreMessages : List Act → Type 0
AreMessages acts = All (λ a. IsMessage (act_of a)) acts

pub record Evaluated : Type 0 where
  pub changes : List CodeChangeCall
  pub states : List StateChange
  pub acts : List Act

abbrev pub nothing_evaluated : Evaluated
nothing_evaluated = record { changes = []; states = []; acts = [] }

-- more is asked for
abbrev pub asked : List Act → Evaluated → Evaluated
asked acts e = record e { acts = e.acts ++ acts }

-- The processes once each has its state, and then all acts are done; and what clients are told.

abbrev pub processes_after : List Instance → Evaluated → Table → Table
processes_after code e t = acts_begun None code e.acts (all_restated e.states t)

abbrev pub told_after : List Instance → Evaluated → Table → List Reply
told_after code e t = begun_told None code e.acts (all_restated e.states t)

-- The acts are messages and replies. Each process that is to get a state is a gen_server that lives, stands once, and has
-- changed no more often than there were changes. Where the turns of those are counted, so are the turns of all that change,
-- and only then.
pub record AreEvaluated (t : Table) (e : Evaluated) : Type 0 where
  pub messages : AreMessages e.acts
  pub apart : AreApart e.states
  pub rising : AreRising e.states
  pub within : AreWithin (length e.changes) e.states
  pub changes : All (IsChange t) e.states
  pub counts : (u : Table) → All (λ c. HasTurnLeft (living c.pid u)) e.states → AreCounted e.changes u
  pub counted : (u : Table) → AreCounted e.changes u → All (λ c. HasTurnLeft (living c.pid u)) e.states

-- One process more has changed: it gets its state behind the others, and then what its `code_change` asks for is done.
pub record HasChanged (code : List Instance) (c : CodeChangeCall) (t : Table) (before after : Evaluated) : Type 0 where
  pub outcome : Outcome
  pub state : Term
  pub changes : Changes code c (processes_after code before t) outcome state
  pub evaluated : AreEvaluated t after
  pub last : after.changes ≡ before.changes ++ c ∷ []
  pub processes : processes_after code after t ≡ after_change code c outcome state (processes_after code before t)
  pub tells : told_after code after t ≡ told_after code before t ++
      change_told code c outcome state (processes_after code before t)
