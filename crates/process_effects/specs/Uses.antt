-- Which instances a process uses (Erlang Reference Manual, Code Replacement): while it runs the code of its job, in which the
-- instance that was entered stands first, and while it rests the one in which it rests, if this is a loop function.
use Rattle.std.specs.Prelude.{ℕ, ◌==◌, Bool, false, List, Option, None, Some}
use Rattle.std.specs.List.{filter, list_any, range_with_len}
use Rattle.erl_semantics.specs.declared.instance.Instance.{Instance}
use Rattle.process.specs.declared.activity.Activity.{Activity}
use Rattle.process.specs.declared.activity.Activity.TheVariants.{Idle, Suspended, Runs}
use Rattle.process_store.specs.declared.living.ProcessEntry.{ProcessEntry}
use Rattle.process_store.specs.Table.{Table, living, next_pid}

abbrev pub is_of : ℕ → Option Instance → Bool
is_of serial None = false
is_of serial (Some i) = i.serial == serial

abbrev pub is_among : ℕ → List Instance → Bool
is_among serial code = list_any (λ i. i.serial == serial) code

-- whether a process that rests in this, and does that, uses the instance of a serial
abbrev pub uses_by : ℕ → Option Instance → Activity → Bool
uses_by serial rests Idle = is_of serial rests
uses_by serial rests Suspended = is_of serial rests
uses_by serial rests (Runs r) = is_among serial r.code

abbrev pub uses : ℕ → Option ProcessEntry → Bool
uses serial None = false
uses serial (Some l) = uses_by serial l.process.rests_in l.process.activity

-- every pid that was given, in order
abbrev pub pids : Table → List ℕ
pids t = range_with_len 0 (next_pid t)

-- the pids of those whose processes use the instance, in order
abbrev pub users : ℕ → Table → List ℕ
users serial t = filter (λ pid. uses serial (living pid t)) (pids t)
