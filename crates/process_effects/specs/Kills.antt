-- The kill of all users of an instance (Erlang Reference Manual, Code Replacement; code(3), purge).
use Rattle.std.specs.Prelude.{ℕ, if◌then◌else◌, List, map, Option, None}
use Rattle.std.specs.List.{flat_map}
use Rattle.erl_term.specs.declared.term.Term.{Term}
use Rattle.process_effects.specs.Told.{downs, killed}
use Rattle.process_effects.specs.Uses.{users, uses}
use Rattle.process_effects.specs.declared.told.Reply.{Reply}
use Rattle.process_store.specs.declared.living.ProcessEntry.{ProcessEntry}
use Rattle.process_store.specs.Table.{Table, living}

-- the processes without those that use the instance

abbrev pub unless_uses : ℕ → Option ProcessEntry → Option ProcessEntry
unless_uses serial o = if uses serial o then None else o

abbrev pub without_users : ℕ → Table → Table
without_users serial t = record { slots = map (unless_uses serial) t.slots }

-- their open calls are told so: process after process in order of pid, of each in order of client and number
abbrev pub downs_of_users : ℕ → Table → List Reply
downs_of_users serial t = flat_map (λ pid. downs killed (living pid t)) (users serial t)

-- what clients are told where these processes end for a reason, one after the other: the open calls of each, in order of
-- client and number
abbrev pub downs_of_each : Term → List ℕ → Table → List Reply
downs_of_each reason pids t = flat_map (λ pid. downs reason (living pid t)) pids
