-- Lemmas on chains of records: a step more, a step less, and the state at the end.
use Rattle.std.proofs.Common.{◌≡◌, ℕ, zero, suc, Option, Some, IfSome, List, [], ◌∷◌, ◌++◌, slice_get, sym, subst, refl}
use Rattle.std.proofs.lemmas.Option.{same_Some}
use Rattle.undo_journal.specs.declared.past.Entry.{Entry}
use Rattle.undo_journal.specs.Past.{Chained, IsRecordAt, station_of, stations, timeline_of}
use Rattle.undo_journal.specs.Timeline.{Station, newest, here}

module _ {S R N : Type 0} (undoes : R → S → S → Type 0) where
  -- the newest record takes back the last step, and the others are the chain before it
  pub Chained-unpush : (first : S) (ps : List (Entry S R N)) (p : Entry S R N) (state : S) → Chained undoes first (ps ++ p ∷ []) state → (before : S) × undoes p.trace before state × Chained undoes first ps before
  Chained-unpush first [] p state h = (first, subst (λ s. undoes p.trace first s) (sym h.1) h.0, refl)
  Chained-unpush first (q ∷ ps) p state h =
      let rest = Chained-unpush q.node.value ps p state h.1 in (rest.0, rest.1, (h.0, rest.2))

  -- one step more
  pub Chained-push : (first : S) (ps : List (Entry S R N)) (p : Entry S R N) (state : S) → Chained undoes first ps state → undoes p.trace state p.node.value → Chained undoes first (ps ++ p ∷ []) p.node.value
  Chained-push first [] p state h u = (subst (λ s. undoes p.trace s p.node.value) h u, refl)
  Chained-push first (q ∷ ps) p state h u = (h.0, Chained-push q.node.value ps p state h.1 u)

  -- what stands behind an entry is a chain from its node
  pub Chained-behind : (first : S) (front : List (Entry S R N)) (p : Entry S R N) (ps : List (Entry S R N)) (state : S) → Chained undoes first (front ++ p ∷ ps) state → Chained undoes p.node.value ps state
  Chained-behind first [] p ps state h = h.1
  Chained-behind first (q ∷ qs) p ps state h = Chained-behind q.node.value qs p ps state h.1

  -- the state is the last station's node
  pub state_of-Chained : (s : Station S N) (ps : List (Entry S R N)) (state : S) → Chained undoes s.node ps state → state ≡ (newest s (stations ps)).node
  state_of-Chained s [] state h = h
  state_of-Chained s (p ∷ ps) state h = state_of-Chained (station_of p) ps state h.1

  -- so it is the node of the timeline that the entries stand for
  pub state_of-timeline : (floor : ℕ) (node : S) (note : Option N) (past : List (Entry S R N)) (last : ℕ) (state : S) → Chained undoes node past state → state ≡ (here (timeline_of floor node note past last)).node
  state_of-timeline floor node note past last state h =
      state_of-Chained record { serial = floor; node = node; note = note } past state h

  -- the record of an index takes back the step to its station
  record_behind : (s : Station S N) (ps : List (Entry S R N)) (state : S) (index : ℕ) (e : Entry S R N) → Chained undoes s.node ps state → slice_get ps index ≡ Some e →
      IfSome (slice_get (s ∷ stations ps) index) (λ before. IfSome (slice_get (stations ps) index) (λ after. undoes e.trace before.node after.node))
  record_behind s [] state index e h at = let never : ⊥ = cc in absurd never
  record_behind s (p ∷ ps) state zero e h at =
      subst (λ (x : Entry S R N). undoes x.trace s.node p.node.value) (same_Some p e at) h.0
  record_behind s (p ∷ ps) state (suc index) e h at = record_behind (station_of p) ps state index e h.1 at

  pub record_at : (floor : ℕ) (node : S) (note : Option N) (past : List (Entry S R N)) (last : ℕ) (state : S) (index : ℕ) (e : Entry S R N) → Chained undoes node past state → slice_get past index ≡ Some e →
      IsRecordAt undoes index (timeline_of floor node note past last) e.trace
  record_at floor node note past last state index e h at =
      record_behind record { serial = floor; node = node; note = note } past state index e h at
