-- Children of a supervisor start, one after the other (supervisor(3)).
use Rattle.std.specs.Prelude.{◌≡◌, ◌⊎◌, ℕ, List, [], ◌∷◌, ◌++◌, map, Option, None, Some, option_map}
use Rattle.erl_term.specs.declared.term.Term.{Term}
use Rattle.erl_semantics.specs.Jobs.{Evaluates}
use Rattle.erl_semantics.specs.State.{start_mode}
use Rattle.erl_semantics.specs.Views.{outcome_of, instance}
use Rattle.erl_semantics.specs.declared.outcome.Outcome.{Outcome}
use Rattle.erl_semantics.specs.declared.instance.Instance.{Instance}
use Rattle.child_specs.specs.declared.child.ChildSpec.{ChildSpec}
use Rattle.process_effects.specs.Begins.{acts_begun, begun_told}
use Rattle.process_effects.specs.declared.told.Reply.{Reply}
use Rattle.process_store.specs.Table.{Table, next_pid}
use Rattle.sys_protocol.specs.StartResults.{name_in, start_fault}

-- What a child's start function gives, in this code, where the child is to have the next pid.
abbrev pub Gives : List Instance → ChildSpec → Table → Outcome → Type 0
Gives code c t o =
    Evaluates (record { code = map instance code; pid = next_pid t; mode = start_mode }) c.name c.function c.arguments
    (outcome_of o)

-- the processes once that is done, and what clients are told of it

abbrev pub named_by : Outcome → Option (List ℕ)
named_by o = option_map (λ asked. asked.0) (name_in o.acts)

abbrev pub after_start : List Instance → Outcome → Table → Table
after_start code o t = acts_begun (named_by o) code o.acts t

abbrev pub start_told : List Instance → Outcome → Table → List Reply
start_told code o t = begun_told (named_by o) code o.acts t

-- a child starts
pub record StartsChild (code : List Instance) (c : ChildSpec) (t : Table) (o : Outcome) : Type 0 where
  pub gives : Gives code c t o
  pub faultless : start_fault (next_pid t) o t ≡ None

-- a child fails to start, for a reason
pub record Fails (code : List Instance) (c : ChildSpec) (t : Table) (reason : Term) : Type 0 where
  pub outcome : Outcome
  pub gives : Gives code c t outcome
  pub faulty : start_fault (next_pid t) outcome t ≡ Some reason

-- One child starts, alone: its pid, the processes after it, and what clients are told.
abbrev pub Restarts : List Instance → ChildSpec → Table → ℕ → Table → List Reply → Type 0
Restarts code c t pid after told = (pid ≡ next_pid t) ×
    ((o : Outcome) × StartsChild code c t o × (after ≡ after_start code o t) × (told ≡ start_told code o t))

-- All children start, in order: their pids, the processes after it, and what clients are told.
abbrev pub AllStart : List Instance → List ChildSpec → Table → List ℕ → Table → List Reply → Type 0
AllStart code [] t [] after told = (after ≡ t) × (told ≡ [])
AllStart code [] t (p ∷ ps) after told = ⊥
AllStart code (c ∷ cs) t [] after told = ⊥
AllStart code (c ∷ cs) t (p ∷ ps) after told = (p ≡ next_pid t) ×
    ((o : Outcome) × (others : List Reply) × StartsChild code c t o × AllStart code cs (after_start code o t) ps after others ×
    (told ≡ start_told code o t ++ others))

-- The first child that fails, and why.
abbrev pub FirstFails : List Instance → List ChildSpec → Table → ChildSpec → Term → Type 0
FirstFails code [] t failed reason = ⊥
FirstFails code (c ∷ cs) t failed reason =
    ((failed ≡ c) × Fails code c t reason) ⊎ ((o : Outcome) × StartsChild code c t o ×
    FirstFails code cs (after_start code o t) failed reason)
