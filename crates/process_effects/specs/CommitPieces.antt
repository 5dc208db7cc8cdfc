-- The pieces that a record of a commit holds: of a process that rests again those of its job, and of one that has ended
-- those of the process.
use Rattle.std.specs.Prelude.{ℕ, ◌-◌, ◌==◌, if◌then◌else◌, List, [], ◌∷◌, Option, None, Some}
use Rattle.process.specs.declared.process.rerunning.NamedRan.{NamedRan}
use Rattle.process_store.specs.declared.living.ProcessEntry.{ProcessEntry}
use Rattle.process_store.specs.Pieces.{Piece, at_place, in_job}
use Rattle.process_store.specs.Table.{Table, living}
use Rattle.process_effects.specs.declared.resting.Rested.{Rested}

-- the turn of a process, where it lives
abbrev pub turn_of : Option ProcessEntry → ℕ
turn_of None = 0
turn_of (Some l) = l.process.turn

-- the place and the message of what ran at a turn
abbrev pub ran_at : ℕ → NamedRan → List Piece
ran_at turn ran = at_place turn ran.place ∷ in_job turn ran.running.message ∷ []

-- what is held of the process of a pid, by the table after the commit: the job ran one turn before
abbrev pub held_of : Rested → Table → ℕ → List Piece
held_of u t pid = if u.pid == pid then ran_at (turn_of (living u.pid t) - 1) u.ran else []
