-- How a journal keeps its timeline: one node, and for each later station what takes its step back.
use Rattle.std.specs.Prelude.{◌≡◌, ℕ, ◌-◌, List, [], ◌∷◌, length, drop, map, slice_get, IfSome, Option, Some}
use Rattle.undo_journal.specs.declared.past.Entry.{Entry}
use Rattle.undo_journal.specs.declared.report.Report.{Report}
use Rattle.undo_journal.specs.Timeline.{Station, Timeline}

-- the station that an entry stands for
abbrev pub station_of : {S R N : Type 0} → Entry S R N → Station S N
station_of p = record { serial = p.serial; node = p.node.value; note = Some p.note }

abbrev pub stations : {S R N : Type 0} → List (Entry S R N) → List (Station S N)
stations past = map station_of past

-- the timeline that these parts stand for
abbrev pub timeline_of : {S R N : Type 0} → ℕ → S → Option N → List (Entry S R N) → ℕ → Timeline S N
timeline_of floor node note past last = record {
  first = record { serial = floor; node = node; note = note };
  later = stations past;
  last = last;
}

-- each record takes back the step from the node before it, and the state is the last node
abbrev pub Chained : {S R N : Type 0} → (R → S → S → Type 0) → S → List (Entry S R N) → S → Type 0
Chained undoes before [] state = state ≡ before
Chained undoes before (p ∷ ps) state = undoes p.trace before p.node.value × Chained undoes p.node.value ps state

-- A record takes back the step to the station at an index behind the first, counted from 0, from the station before it.
abbrev pub IsRecordAt : {S R N : Type 0} → (R → S → S → Type 0) → ℕ → Timeline S N → R → Type 0
IsRecordAt undoes index t it =
    IfSome (slice_get (t.first ∷ t.later) index) (λ before.
    IfSome (slice_get t.later index) (λ after. undoes it before.node after.node))

-- a report of the newest `cut` stations, made from one of as many or more
abbrev pub shortened : {N : Type 0} → ℕ → Report N → Report N
shortened cut r = record { cut = cut; notes = drop (length r.notes - cut) r.notes }
