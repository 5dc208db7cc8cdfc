-- The states that processes are to get, of each process once, by pid.
use Rattle.std.specs.Prelude.{ℕ, ◌≡◌, ◌+◌, ◌<◌, ◌≤◌, ◌==◌, if◌then◌else◌, List, [], ◌∷◌, Option, None, Some, option_map}
use Rattle.std.specs.Ordering.{match_ordering, nat_cmp}
use Rattle.erl_term.specs.declared.term.Term.{Term}
use Rattle.erl_semantics.specs.declared.acts.Place.{Place}
use Rattle.process.specs.Process.{with_state}
use Rattle.process_store.specs.declared.living.ProcessEntry.{ProcessEntry}
use Rattle.process_table.specs.declared.states.StateChange.{StateChange}

-- what the process of a pid is to get, and how often it has changed

abbrev pub change_of : ℕ → List StateChange → Option StateChange
change_of pid [] = None
change_of pid (c ∷ cs) = if c.pid == pid then Some c else change_of pid cs

abbrev pub state_of : ℕ → List StateChange → Option Term
state_of pid cs = option_map (λ c. c.state) (change_of pid cs)

abbrev pub turns_in : Option StateChange → ℕ
turns_in None = 0
turns_in (Some c) = c.turns

abbrev pub turns_of : ℕ → List StateChange → ℕ
turns_of pid cs = turns_in (change_of pid cs)

-- where a process rests, with the state that it is to get, if it is to get one

abbrev pub given_state : Option Term → Place → Place
given_state None at = at
given_state (Some state) at = with_state state at

abbrev pub place_by : Option Term → Option ProcessEntry → Option Place
place_by state l = option_map (λ it. given_state state it.process.place) l

-- the process of a pid changes once more, and is to get this state then

abbrev pub change_to : ℕ → Term → ℕ → StateChange
change_to pid state turns = record { pid = pid; state = state; turns = turns }

abbrev pub with_new : ℕ → Term → List StateChange → List StateChange
with_new pid state [] = change_to pid state 1 ∷ []
with_new pid state (c ∷ cs) = match_ordering (nat_cmp pid c.pid)
    (change_to pid state 1 ∷ c ∷ cs)
    (change_to pid state (c.turns + 1) ∷ cs)
    (c ∷ with_new pid state cs)

-- Each is kept under its pid.
abbrev pub AreByPid : List (ℕ × StateChange) → Type 0
AreByPid [] = Unit {0}
AreByPid (e ∷ es) = (e.1.pid ≡ e.0) × AreByPid es

-- The pids rise.

abbrev pub AreAbove : ℕ → List StateChange → Type 0
AreAbove pid [] = Unit {0}
AreAbove pid (c ∷ cs) = (pid < c.pid) × AreAbove pid cs

abbrev pub AreRising : List StateChange → Type 0
AreRising [] = Unit {0}
AreRising (c ∷ cs) = AreAbove c.pid cs × AreRising cs

-- no process has changed more often
abbrev pub AreWithin : ℕ → List StateChange → Type 0
AreWithin turns [] = Unit {0}
AreWithin turns (c ∷ cs) = (c.turns ≤ turns) × AreWithin turns cs
