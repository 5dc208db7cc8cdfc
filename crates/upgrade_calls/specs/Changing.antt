-- Processes change their states by `code_change/3`, one after the other (gen_server(3), code_change/3; appup(4), code_change).
use Rattle.std.specs.Prelude.{◌≡◌, ◌⊎◌, ◌<◌, ◌^◌, ℕ, List, [], ◌∷◌, ◌++◌, codes, map, Option, None, Some}
use Rattle.callback_lang.specs.Returns.{ChangeReturn, change_return, new_state, unchanged}
use Rattle.erl_ir.specs.Module.{Forms}
use Rattle.erl_semantics.specs.Jobs.{Evaluates}
use Rattle.erl_semantics.specs.State.{plain}
use Rattle.erl_semantics.specs.Views.{instance, outcome_of}
use Rattle.erl_semantics.specs.declared.acts.Place.{Place}
use Rattle.erl_semantics.specs.declared.acts.Place.TheVariants.{Server, Loop}
use Rattle.erl_semantics.specs.declared.instance.Instance.{Instance}
use Rattle.erl_semantics.specs.declared.outcome.Outcome.{Outcome}
use Rattle.erl_term.specs.Tree.{none, more}
use Rattle.erl_term.specs.Term.{tree}
use Rattle.erl_term.specs.declared.term.Term.{Term}
use Rattle.code_server.specs.Modules.{Table as Loaded}
use Rattle.process_effects.specs.Begins.{acts_begun, begun_told}
use Rattle.process_effects.specs.declared.told.Reply.{Reply}
use Rattle.process_store.specs.Changes.{restate_living}
use Rattle.process_store.specs.Table.{Table, changed, living}
use Rattle.process_store.specs.declared.living.ProcessEntry.{ProcessEntry}
use Rattle.process_store.specs.Pieces.{Piece}
use Rattle.process_table.specs.States.{CanUnrestateAll, all_unrestated, held_places}
use Rattle.process_table.specs.Undo.{Fits, held, undone}
use Rattle.upgrade_calls.specs.declared.changing.CodeChangeCall.{CodeChangeCall}
use Rattle.upgrade_calls.specs.declared.changing.ChangeFailed.{ChangeFailed}
use Rattle.upgrade_calls.specs.declared.changing.ChangeUndo.{ChangeUndo}

-- What `code_change(OldVsn,State,Extra)` gives in this code, for a process at a place: that of its callback module. A loop
-- function has none, and where nobody lives nothing is called.

abbrev pub GivesAt : List Instance → CodeChangeCall → Place → Outcome → Type 0
GivesAt code c (Server m s) o =
    Evaluates (record { code = map instance code; pid = c.pid; mode = plain }) m (codes "code_change")
    (more (tree c.vsn) (more (tree s) (more (tree c.extra) none))) (outcome_of o)
GivesAt code c (Loop m serial f args) o = ⊥

abbrev pub Gives : List Instance → CodeChangeCall → Option ProcessEntry → Outcome → Type 0
Gives code c None o = ⊥
Gives code c (Some l) o = GivesAt code c l.process.place o

abbrev pub return_of : Outcome → ChangeReturn
return_of o = change_return ((outcome_of o).ended)

-- One process changes: it gets a new state; or it fails to, for a reason.

pub record Changes (code : List Instance) (c : CodeChangeCall) (t : Table) (o : Outcome) (state : Term) : Type 0 where
  pub gives : Gives code c (living c.pid t) o
  pub returns : return_of o ≡ new_state (tree state)

pub record FailsToChange (code : List Instance) (c : CodeChangeCall) (t : Table) (reason : Term) : Type 0 where
  pub outcome : Outcome
  pub gives : Gives code c (living c.pid t) outcome
  pub returns : return_of outcome ≡ unchanged (tree reason)

-- The processes once it has the new state, one turn on; then what `code_change` asked for is done, in order.

abbrev pub with_state : CodeChangeCall → Term → Table → Table
with_state c state t = changed (restate_living state 1) c.pid t

abbrev pub after_change : List Instance → CodeChangeCall → Outcome → Term → Table → Table
after_change code c o state t = acts_begun None code o.acts (with_state c state t)

abbrev pub change_told : List Instance → CodeChangeCall → Outcome → Term → Table → List Reply
change_told code c o state t = begun_told None code o.acts (with_state c state t)

-- All change, in order: the processes after it, and what clients are told.
abbrev pub AllChange : List Instance → List CodeChangeCall → Table → Table → List Reply → Type 0
AllChange code [] t after told = (after ≡ t) × (told ≡ [])
AllChange code (c ∷ cs) t after told = (o : Outcome) × (state : Term) × (others : List Reply) × Changes code c t o state ×
    AllChange code cs (after_change code c o state t) after others × (told ≡ change_told code c o state t ++ others)

-- The first process that fails to, and why.
abbrev pub FirstUnchanged : List Instance → List CodeChangeCall → Table → ChangeFailed → Type 0
FirstUnchanged code [] t failed = ⊥
FirstUnchanged code (c ∷ cs) t failed = ((failed.pid ≡ c.pid) × FailsToChange code c t failed.reason) ⊎
    ((o : Outcome) × (state : Term) × Changes code c t o state × FirstUnchanged code cs (after_change code c o state t) failed)

-- Turns are counted up to 2^64 - 1.

abbrev pub HasTurnLeft : Option ProcessEntry → Type 0
HasTurnLeft None = Unit {0}
HasTurnLeft (Some l) = l.process.turn < 2 ^ 64

abbrev pub AreCounted : List CodeChangeCall → Table → Type 0
AreCounted [] t = Unit {0}
AreCounted (c ∷ cs) t = HasTurnLeft (living c.pid t) × AreCounted cs t

-- a gen_server process lives

abbrev pub IsServerAt : Place → Type 0
IsServerAt (Server m s) = Unit {0}
IsServerAt (Loop m serial f args) = ⊥

abbrev pub IsServer : Option ProcessEntry → Type 0
IsServer None = ⊥
IsServer (Some l) = IsServerAt l.process.place

-- What takes it back: what was done goes, and then each process has its former state again. It can be asked for over any table of
-- modules.

abbrev pub unchanged_by : Loaded Forms → ChangeUndo → Table → Table
unchanged_by modules u t = all_unrestated u.states (undone modules u.done t)

abbrev pub CanUnchange : Loaded Forms → ChangeUndo → Table → Type 0
CanUnchange modules u t = Fits modules u.done t × CanUnrestateAll u.states (undone modules u.done t)

abbrev pub ChangesBack : ChangeUndo → Table → Table → Type 0
ChangesBack u before after = (modules : Loaded Forms) → CanUnchange modules u after × (unchanged_by modules u after ≡ before)

-- The pieces that it holds of the process of a pid, by the processes after the change: former places, and what the way back
-- of what was asked for holds.
abbrev pub held_changed : ChangeUndo → Table → ℕ → List Piece
held_changed u t = λ pid. held_places u.states t pid ++ held u.done t pid
