-- What a journal is: every node that the machine has stood at and still can go back to, in order.
use Rattle.std.specs.Prelude.{◌≡◌, ℕ, ◌+◌, ◌<◌, ◌≤◌, ◌==◌, if◌then◌else◌, List, [], ◌∷◌, ◌++◌, length, drop, Option, Some, None}
use Rattle.std.specs.Prelude.{option_map, option_to_list}
use Rattle.undo_journal.specs.declared.report.Report.{Report}

-- One node that the machine stood at: the serial of the step that made it, and what that step noted.
-- The node that a journal begins with has serial 0 and no note.
pub record Station (S N : Type 0) : Type 0 where
  pub serial : ℕ
  pub node : S
  pub note : Option N

-- The stations, oldest first, of which there is at least one, and the last serial that was ever given.
pub record Timeline (S N : Type 0) : Type 0 where
  pub first : Station S N
  pub later : List (Station S N)
  pub last : ℕ

-- the last of the stations s, ts
abbrev pub newest : {S N : Type 0} → Station S N → List (Station S N) → Station S N
newest s [] = s
newest s (t ∷ ts) = newest t ts

-- where the machine stands
abbrev pub here : {S N : Type 0} → Timeline S N → Station S N
here t = newest t.first t.later

-- it begins as one station
abbrev pub opened : {S N : Type 0} → S → Timeline S N
opened node = record { first = record { serial = 0; node = node; note = None }; later = []; last = 0 }

-- an accepted step appends its station, under the next serial
abbrev pub appended : {S N : Type 0} → Timeline S N → S → N → Timeline S N
appended t node note = record {
  first = t.first;
  later = t.later ++ record { serial = t.last + 1; node = node; note = Some note } ∷ [];
  last = t.last + 1;
}

-- of the stations s, ts those behind s and up to the one with serial m, if it is there
abbrev pub kept_to : {S N : Type 0} → ℕ → Station S N → List (Station S N) → Option (List (Station S N))
kept_to m s [] = if m == s.serial then Some [] else None
kept_to m s (t ∷ ts) = if m == s.serial then Some [] else option_map (λ kept. t ∷ kept) (kept_to m t ts)

-- An undo to a mark removes every station after the one whose serial the mark is, and nothing else:
-- serials go on. Where there is no such station, the mark is forgotten or dead.
abbrev pub cut_to : {S N : Type 0} → ℕ → Timeline S N → Option (Timeline S N)
cut_to m t = option_map (λ kept. record { first = t.first; later = kept; last = t.last }) (kept_to m t.first t.later)

-- of the stations s, ts the one with serial m and those behind it, if it is there
abbrev pub from_mark : {S N : Type 0} → ℕ → Station S N → List (Station S N) → Option (Station S N × List (Station S N))
from_mark m s [] = if m == s.serial then Some (s, []) else None
from_mark m s (t ∷ ts) = if m == s.serial then Some (s, t ∷ ts) else from_mark m t ts

-- The timeline from a station on: a forget up to a mark removes every station before the one whose serial
-- the mark is, which is then the first, and nothing else. Where there is no such station, the mark is
-- forgotten or dead.
abbrev pub forgotten_to : {S N : Type 0} → ℕ → Timeline S N → Option (Timeline S N)
forgotten_to m t = option_map (λ p. record { first = p.0; later = p.1; last = t.last }) (from_mark m t.first t.later)

-- A mark below the first station's is forgotten, also where its station was cut before.
abbrev pub IsForgotten : {S N : Type 0} → ℕ → Timeline S N → Type 0
IsForgotten m t = (m < t.first.serial) × (cut_to m t ≡ None)

-- It is dead where it is any other: its station was cut, or the mark was never given.
abbrev pub IsDead : {S N : Type 0} → ℕ → Timeline S N → Type 0
IsDead m t = (t.first.serial ≤ m) × (cut_to m t ≡ None)

-- the node that a mark names: the one where an undo to it ends
abbrev pub node_at : {S N : Type 0} → ℕ → Timeline S N → Option S
node_at m t = option_map (λ u. (here u).node) (cut_to m t)

-- the stations that an undo from the one timeline to the other removed, oldest first
abbrev pub cut_stations : {S N : Type 0} → Timeline S N → Timeline S N → List (Station S N)
cut_stations old new = drop (length new.later) old.later

-- a timeline is another with stations cut from its end, and no serial given or taken back
pub record IsFront {S N : Type 0} (old new : Timeline S N) : Type 0 where
  pub same_first : new.first ≡ old.first
  pub front : old.later ≡ new.later ++ cut_stations old new
  pub same_last : new.last ≡ old.last

-- the notes of stations, in their order
abbrev pub notes_of : {S N : Type 0} → List (Station S N) → List N
notes_of [] = []
notes_of (s ∷ ss) = option_to_list s.note ++ notes_of ss

-- what an undo reports of the stations that it removed: how many, and their notes, oldest first
abbrev pub report_of : {S N : Type 0} → List (Station S N) → Report N
report_of cut = record { cut = length cut; notes = notes_of cut }

-- each serial is above the one before it
abbrev pub Rises : {S N : Type 0} → ℕ → List (Station S N) → Type 0
Rises serial [] = Unit {0}
Rises serial (s ∷ ss) = (serial < s.serial) × Rises s.serial ss

-- What holds of every journal's timeline: serials rise, and none is above the last that was given.
pub record IsOrdered {S N : Type 0} (t : Timeline S N) : Type 0 where
  pub rises : Rises t.first.serial t.later
  pub given : (here t).serial ≤ t.last
