-- Pieces: the messages and places of processes, each with whose it is. They tell how much of the processes a record of a
-- step may hold.
use Rattle.std.specs.Prelude.{◌≡◌, ℕ, List, [], ◌∷◌, ◌++◌, map, Option, None, Some}
use Rattle.erl_term.specs.declared.term.Term.{Term}
use Rattle.erl_semantics.specs.declared.acts.Place.{Place}
use Rattle.process.specs.declared.activity.Activity.{Activity}
use Rattle.process.specs.declared.activity.Activity.TheVariants as activity
use Rattle.process.specs.Process.{ProcessState}
use Rattle.process_store.specs.declared.living.ProcessEntry.{ProcessEntry}
use Rattle.process_store.specs.Table.{Table, living}

-- A piece of a process.
pub data Piece : Type 0 where
  -- the place where it rests, or from which it runs, and the turn
  at_place : ℕ → Place → Piece
  -- the message of the job that it runs, and the turn
  in_job : ℕ → Term → Piece
  -- a message in the mailbox
  in_mailbox : Term → Piece

abbrev pub waiting : List Term → List Piece
waiting mailbox = map in_mailbox mailbox

-- those of a process: its place, what it runs, what waits

abbrev pub ran_pieces : ℕ → Activity → List Piece → List Piece
ran_pieces turn activity.Idle others = others
ran_pieces turn activity.Suspended others = others
ran_pieces turn (activity.Runs r) others = in_job turn r.message ∷ others

abbrev pub pieces_of : ProcessState → List Piece
pieces_of p = at_place p.turn p.place ∷ ran_pieces p.turn p.activity (waiting p.mailbox)

-- those of the process of a pid, and none where it has ended; so a table's pieces are these of every pid

abbrev pub living_pieces : Option ProcessEntry → List Piece
living_pieces None = []
living_pieces (Some l) = pieces_of l.process

abbrev pub pieces_at : ℕ → Table → List Piece
pieces_at pid t = living_pieces (living pid t)

-- None of some pieces is among others.

abbrev pub IsNotAmong : List Piece → Piece → Type 0
IsNotAmong [] piece = Unit {0}
IsNotAmong (other ∷ others) piece = (other ≡ piece → ⊥) × IsNotAmong others piece

abbrev pub AreNotAmong : List Piece → List Piece → Type 0
AreNotAmong others [] = Unit {0}
AreNotAmong others (piece ∷ pieces) = IsNotAmong others piece × AreNotAmong others pieces

-- Pieces are lost with a step: they are the first of those before, and none of them is among those after.
abbrev pub AreLost : List Piece → List Piece → List Piece → Type 0
AreLost held before after = ((others : List Piece) × (before ≡ held ++ others)) × AreNotAmong after held

-- What a record holds of each pid is lost with the step, so it holds no more than the step has taken from the processes.
abbrev pub HoldsLost : (ℕ → List Piece) → Table → Table → Type 0
HoldsLost held before after = (pid : ℕ) → AreLost (held pid) (pieces_at pid before) (pieces_at pid after)

-- a record that holds no piece
abbrev pub no_pieces : ℕ → List Piece
no_pieces pid = []
