-- Elementary changes of one process of the table, each with the one that takes it back.
use Rattle.std.specs.Prelude.{◌≡◌, ℕ, ◌+◌, ◌<◌, ◌≤◌, ◌^◌, ◌==◌, Bool, true, false, if◌then◌else◌, List, [], ◌∷◌, position}
use Rattle.std.specs.Prelude.{Option, None, Some, IfSome, IsSome, option_map}
use Rattle.erl_term.specs.declared.term.Term.{Term}
use Rattle.erl_semantics.specs.declared.acts.Place.{Place}
use Rattle.erl_semantics.specs.declared.instance.Instance.{Instance}
use Rattle.process.specs.declared.activity.Activity.{Activity}
use Rattle.process.specs.declared.activity.Activity.TheVariants as activity
use Rattle.process.specs.declared.process.Ran.{Ran}
use Rattle.process.specs.Process.{IsRunning, first_taken, is_server_at, rested, restated, resumed, suspended, unrestated, unrested}
use Rattle.process_index.specs.Calls.{with_call, without}
use Rattle.process_index.specs.declared.calls.Call.{Call}
use Rattle.process_store.specs.declared.living.ProcessEntry.{ProcessEntry}
use Rattle.process_store.specs.Table.{Table, changed, is_asked, is_open, living}

-- it takes no message until it is resumed, where it is idle

abbrev pub suspend_living : ProcessEntry → ProcessEntry
suspend_living l = record l { process = suspended l.process }

abbrev pub resume_living : ProcessEntry → ProcessEntry
resume_living l = record l { process = resumed l.process }

-- it is suspended again, or resumed, as it was before

abbrev pub suspended_as : Bool → ProcessEntry → ProcessEntry
suspended_as true l = suspend_living l
suspended_as false l = resume_living l

abbrev pub is_suspended : Activity → Bool
is_suspended activity.Idle = false
is_suspended activity.Suspended = true
is_suspended (activity.Runs r) = false

abbrev pub was_suspended : Option ProcessEntry → Bool
was_suspended None = false
was_suspended (Some l) = is_suspended l.process.activity

-- it rests at a place, one turn on, and runs again what it ran

abbrev pub rest_living : Place → Option Instance → ProcessEntry → ProcessEntry
rest_living at rests_in l = record l { process = rested at rests_in l.process }

abbrev pub unrest_living : Ran → ProcessEntry → ProcessEntry
unrest_living ran l = record l { process = unrested ran l.process }

-- the position of the message that it takes next, if it comes to rest at a place
abbrev pub IsNext : Place → Option Instance → Option ℕ → ProcessEntry → Type 0
IsNext at rests_in next l = next ≡ first_taken l.process.pid at rests_in l.process.mailbox

-- A process lives and runs.

abbrev pub LivesAndRuns : Option ProcessEntry → Type 0
LivesAndRuns None = ⊥
LivesAndRuns (Some l) = IsRunning l.process

abbrev pub IsRunningAt : ℕ → Table → Type 0
IsRunningAt pid t = LivesAndRuns (living pid t)

-- Where a process lives, its turn can be counted one on, and one back.

abbrev pub CanTurn : ProcessEntry → Type 0
CanTurn l = l.process.turn + 1 < 2 ^ 64

abbrev pub CanTurnAt : ℕ → Table → Type 0
CanTurnAt pid t = IfSome (living pid t) CanTurn

abbrev pub Turned : ProcessEntry → Type 0
Turned l = 0 < l.process.turn

abbrev pub HasTurned : ℕ → Table → Type 0
HasTurned pid t = IfSome (living pid t) Turned

-- a call that is open to a process is so no more, or is so again

abbrev pub closed_living : Call → ProcessEntry → ProcessEntry
closed_living c l = record l { calls = without c l.calls }

abbrev pub closed_in : ℕ → Call → Table → Table
closed_in pid c t = changed (closed_living c) pid t

abbrev pub reopened_living : Call → ProcessEntry → ProcessEntry
reopened_living c l = record l { calls = with_call c l.calls }

abbrev pub reopened : ℕ → Call → Table → Table
reopened pid c t = changed (reopened_living c) pid t

-- Whose the open call of a number is: the process that was asked, and the first call of the number among its calls.

abbrev pub numbered : ℕ → List Call → Option Call
numbered number [] = None
numbered number (c ∷ cs) = if c.number == number then Some c else numbered number cs

abbrev pub call_at : ℕ → Option ProcessEntry → Option Call
call_at number None = None
call_at number (Some l) = numbered number l.calls

abbrev pub owner_at : ℕ → Option ℕ → Table → Option (ℕ × Call)
owner_at number None t = None
owner_at number (Some pid) t = option_map (λ c. (pid, c)) (call_at number (living pid t))

abbrev pub owner_of : ℕ → Table → Option (ℕ × Call)
owner_of number t = owner_at number (position (is_asked number) t.slots) t

-- A call can be open to a process that lives, where none of its number is open.
abbrev pub CanReopen : ℕ → Call → Table → Type 0
CanReopen pid c t = IsSome (living pid t) × (is_open c.number t ≡ false)

-- A gen_server process gets another state, so many turns on; and its former one again.

abbrev pub restate_living : Term → ℕ → ProcessEntry → ProcessEntry
restate_living state turns l = record l { process = restated state turns l.process }

abbrev pub unrestate_living : Term → ℕ → ProcessEntry → ProcessEntry
unrestate_living state turns l = record l { process = unrestated state turns l.process }

-- a gen_server process lives, and its turn can be counted on by so many, and back

abbrev pub CanRestate : ℕ → Option ProcessEntry → Type 0
CanRestate turns None = ⊥
CanRestate turns (Some l) = (is_server_at l.process.place ≡ true) × (0 < turns) × (l.process.turn + turns < 2 ^ 64)

abbrev pub CanUnrestate : ℕ → Option ProcessEntry → Type 0
CanUnrestate turns None = ⊥
CanUnrestate turns (Some l) = (is_server_at l.process.place ≡ true) × (0 < turns) × (turns ≤ l.process.turn)
