-- Several processes are suspended or resumed, or get another state by a change of their code (appup(4), suspend, resume,
-- code_change; gen_server(3), code_change/3), and what takes that back.
use Rattle.std.specs.Prelude.{◌≡◌, ℕ, ◌-◌, ◌==◌, All, if◌then◌else◌, List, [], ◌∷◌, Option, None, Some}
use Rattle.process.specs.Process.{with_state}
use Rattle.process.specs.declared.activity.Activity.{Activity}
use Rattle.process.specs.declared.activity.Activity.TheVariants.{Idle, Suspended, Runs}
use Rattle.process_store.specs.declared.living.ProcessEntry.{ProcessEntry}
use Rattle.process_store.specs.Changes.{CanRestate, CanUnrestate, restate_living, resume_living, suspend_living, suspended_as, unrestate_living}
use Rattle.process_store.specs.Pieces.{Piece, at_place}
use Rattle.process_store.specs.Table.{Table, changed, living}
use Rattle.process_table.specs.declared.states.Resumed.{Resumed}
use Rattle.process_table.specs.declared.states.StateChange.{StateChange}

-- Each of these processes is suspended, or is resumed, where it lives.

abbrev pub all_suspended : List ℕ → Table → Table
all_suspended [] t = t
all_suspended (pid ∷ pids) t = all_suspended pids (changed suspend_living pid t)

abbrev pub all_resumed : List ℕ → Table → Table
all_resumed [] t = t
all_resumed (pid ∷ pids) t = all_resumed pids (changed resume_living pid t)

-- each is suspended as it was before it was resumed, the last first
abbrev pub all_unresumed : List Resumed → Table → Table
all_unresumed [] t = t
all_unresumed (r ∷ rs) t = changed (suspended_as r.was_suspended) r.pid (all_unresumed rs t)

-- it lives, and rests, and is not suspended

abbrev pub IsIdleIn : Activity → Type 0
IsIdleIn Idle = Unit {0}
IsIdleIn Suspended = ⊥
IsIdleIn (Runs r) = ⊥

abbrev pub IsIdle : Option ProcessEntry → Type 0
IsIdle None = ⊥
IsIdle (Some l) = IsIdleIn l.process.activity

-- Each of these gen_server processes gets its state, so many turns on; and has its former state again.

abbrev pub all_restated : List StateChange → Table → Table
all_restated [] t = t
all_restated (c ∷ cs) t = all_restated cs (changed (restate_living c.state c.turns) c.pid t)

abbrev pub all_unrestated : List StateChange → Table → Table
all_unrestated [] t = t
all_unrestated (c ∷ cs) t = all_unrestated cs (changed (unrestate_living c.state c.turns) c.pid t)

-- no two changes are of one process
abbrev pub AreApart : List StateChange → Type 0
AreApart [] = Unit {0}
AreApart (c ∷ cs) = All (λ d. c.pid ≡ d.pid → ⊥) cs × AreApart cs

-- they can be made, and taken back

abbrev pub CanRestateAll : List StateChange → Table → Type 0
CanRestateAll cs t = AreApart cs × All (λ c. CanRestate c.turns (living c.pid t)) cs

abbrev pub CanUnrestateAll : List StateChange → Table → Type 0
CanUnrestateAll cs t = AreApart cs × All (λ c. CanUnrestate c.turns (living c.pid t)) cs

-- The pieces that changes hold which were made, of the process of a pid, by the table after: the place that it had before,
-- at the turn before.

abbrev pub place_before : StateChange → Option ProcessEntry → List Piece
place_before c None = []
place_before c (Some l) = at_place (l.process.turn - c.turns) (with_state c.state l.process.place) ∷ []

abbrev pub held_places : List StateChange → Table → ℕ → List Piece
held_places [] t pid = []
held_places (c ∷ cs) t pid = if c.pid == pid then place_before c (living pid t) else held_places cs t pid
