-- A process that lives, and the calls that are open to it.
use Rattle.std.specs.Prelude.{ℕ, Bool, List, Option, None, Some, is_some}
use Rattle.erl_term.specs.declared.term.Term.{Term}
use Rattle.erl_semantics.specs.declared.instance.Instance.{Instance}
use Rattle.process.specs.Process.{next_message, delivered, run_at, undelivered, untaken}
use Rattle.process_index.specs.Calls.{with_call, without}
use Rattle.process_index.specs.declared.calls.Call.{Call}
use Rattle.process_store.specs.declared.living.ProcessEntry.{ProcessEntry}

abbrev pub opened : Option Call → List Call → List Call
opened None calls = calls
opened (Some c) calls = with_call c calls

abbrev pub closed : Option Call → List Call → List Call
closed None calls = calls
closed (Some c) calls = without c calls

-- a message has come, and the call that it is, if it is one, is open
abbrev pub arrived : Term → Option Call → ProcessEntry → ProcessEntry
arrived message call l = record { process = delivered message l.process; calls = opened call l.calls }

abbrev pub unarrived : Option Call → ProcessEntry → ProcessEntry
unarrived call l = record { process = undelivered l.process; calls = closed call l.calls }

-- the message at a position is taken, and runs
abbrev pub run : ℕ → ℕ → List Instance → ProcessEntry → ProcessEntry
run position entry_serial code l = record l { process = run_at position entry_serial code l.process }

abbrev pub untook : ℕ → ProcessEntry → ProcessEntry
untook position l = record l { process = untaken position l.process }

-- the position of the message that it would take now, where it lives
abbrev pub takes_next : Option ProcessEntry → Option ℕ
takes_next None = None
takes_next (Some l) = next_message l.process

-- whether it could take a message now: it lives, neither runs nor is suspended, and a message waits that it takes
abbrev pub is_runnable : Option ProcessEntry → Bool
is_runnable o = is_some (takes_next o)
