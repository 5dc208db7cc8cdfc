-- What the changes need that take others back: that what the other has left is there.
use Rattle.std.specs.Prelude.{◌≡◌, ℕ, ◌≤◌, true, [], length, Option, None, Some}
use Rattle.process.specs.Process.{awaited, untaken}
use Rattle.process_index.specs.Calls.{has}
use Rattle.process_index.specs.declared.calls.Call.{Call}
use Rattle.process_store.specs.declared.living.ProcessEntry.{ProcessEntry}

-- a process that was started, and has taken no step
abbrev pub WasStarted : Option ProcessEntry → Type 0
WasStarted None = ⊥
WasStarted (Some l) = l.calls ≡ []

-- one that a message has come for, with a call, if it is one
abbrev pub WasCalled : Option Call → Option ProcessEntry → Type 0
WasCalled call None = ⊥
WasCalled None (Some l) = Unit {0}
WasCalled (Some c) (Some l) = has c l.calls ≡ true

-- one that has taken the message at a position
abbrev pub WasTaken : ℕ → Option ProcessEntry → Type 0
WasTaken position None = ⊥
WasTaken position (Some l) =
    (position ≤ length l.process.mailbox) × (awaited (untaken position l.process) ≡ Some position)
