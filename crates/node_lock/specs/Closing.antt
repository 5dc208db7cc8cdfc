-- What is found where a node that seats shared is closed.
use Rattle.std.specs.Prelude.{◌≡◌, ℕ, ◌<◌, ◌≤◌, Bool, false, List, [], ◌∷◌, All, length, nat_eq, slice_get, Some}
use Rattle.std.specs.List.{list_any, sum_by}
use Rattle.release_table.specs.declared.table.Release.{Release}
use Rattle.undo_journal.specs.Timeline.{opened}
use Rattle.node_commands.specs.Node.{NodeState}
use Rattle.node_history.specs.History.{Legal, NodeTimeline}
use Rattle.node_history.specs.Lists.{lines_of}
use Rattle.node_history.specs.declared.entry.Entry.{Entry}
use Rattle.node_lock.specs.Core.{IsBooted, SeatState}

-- a number of a seat, where there are so many
abbrev pub IsNumber : ℕ → ℕ → Type 0
IsNumber count number = (0 < number) × (number ≤ count)

-- one of the seats has this number
abbrev pub has_number : ℕ → List SeatState → Bool
has_number number seats = list_any (λ s. nat_eq s.number number) seats

-- no two seats have one number
abbrev pub AreDistinct : List SeatState → Type 0
AreDistinct [] = Unit {0}
AreDistinct (s ∷ seats) = (has_number s.number seats ≡ false) × AreDistinct seats

-- so many seats, numbered from 1 to just that, each once
pub record AreAll (count : ℕ) (seats : List SeatState) : Type 0 where
  pub all : length seats ≡ count
  pub within : All (λ s. IsNumber count s.number) seats
  pub distinct : AreDistinct seats

-- a seat's list has the history's entries of that seat, in order, but for their notes
abbrev pub IsListOf : List Entry → SeatState → Type 0
IsListOf history seat = seat.lines ≡ lines_of seat.number history

-- Of the seats handed in, the one at some index has another list.
abbrev pub HasForeign : List Entry → List SeatState → Type 0
HasForeign history seats = (i : ℕ) × (seat : SeatState) × (slice_get seats i ≡ Some seat) × (IsListOf history seat → ⊥)

-- A release has booted a node, and the history has led from that to this timeline.
pub record IsLegal (release : Release) (history : List Entry) (end : NodeTimeline) : Type 0 where
  pub node : NodeState
  pub booted : IsBooted release node
  pub legal : Legal (opened node) [] history end

-- A node is closed: its history is legal and leads to where its journal stands, each seat has what it keeps of its own
-- entries, and there is no entry of anybody else.
pub record IsClosed (release : Release) (count : ℕ) (seats : List SeatState) (history : List Entry) (end : NodeTimeline)
    : Type 0 where
  pub legal : IsLegal release history end
  pub all : AreAll count seats
  pub lists : All (IsListOf history) seats
  pub entries : All (λ e. IsNumber count e.seat) history

-- how many lines seats have
abbrev pub lines_in : List SeatState → ℕ
lines_in seats = sum_by (λ s. length s.lines) seats
