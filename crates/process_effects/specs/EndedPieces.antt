-- The pieces that a process has still when it has ended.
use Rattle.std.specs.Prelude.{ℕ, ◌==◌, if◌then◌else◌, List, [], ◌∷◌, ◌++◌}
use Rattle.process.specs.Ended.{EndedState}
use Rattle.process.specs.declared.process.ending.Did.{Did}
use Rattle.process.specs.declared.process.ending.Did.TheVariants as did
use Rattle.process_store.specs.Pieces.{Piece, at_place, in_job, waiting}
use Rattle.process_effects.specs.declared.ending.EndedProcess.{EndedProcess}

abbrev pub did_pieces : ℕ → Did → List Piece → List Piece
did_pieces turn did.Idle others = others
did_pieces turn did.Suspended others = others
did_pieces turn (did.Ran r) others = in_job turn r.message ∷ others

abbrev pub ended_pieces : EndedState → List Piece
ended_pieces e = at_place e.turn e.place ∷ did_pieces e.turn e.did (waiting e.mailbox)

-- what one holds of the process of a pid, and what some hold

abbrev pub held_by : EndedProcess → ℕ → List Piece
held_by e pid = if e.pid == pid then ended_pieces e.process else []

abbrev pub held_by_all : List EndedProcess → ℕ → List Piece
held_by_all [] pid = []
held_by_all (e ∷ es) pid = held_by e pid ++ held_by_all es pid
