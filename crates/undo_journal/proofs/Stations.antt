-- Lemmas on stations whose serials rise: where a mark stands, and what a cut keeps and removes.
use Rattle.std.proofs.Common.{◌≡◌, ◌≢◌, ℕ, zero, suc, ◌-◌, ◌<◌, ◌≤◌, cond, eqb, true, false, Bool, List, [], ◌∷◌, ◌++◌, length, get_or, take, drop, map, Option, Some, None, option_map, ◌⊎◌, inl, inr, sym, ap, ◌∙◌, refl, arith}
use Rattle.std.proofs.lemmas.Bool.{cond-true, cond-false, eq-eqb, ne_eqb, eqb-true}
use Rattle.std.proofs.lemmas.List.{take_at}
use Rattle.undo_journal.specs.declared.past.Entry.{Entry}
use Rattle.undo_journal.specs.Past.{station_of, stations}
use Rattle.undo_journal.specs.Timeline.{Station, newest, kept_to, from_mark, notes_of, Rises}

module _ {S N : Type 0} where
  -- a mark at the first of the stations
  pub kept_to-first : (s : Station S N) (ss : List (Station S N)) → kept_to s.serial s ss ≡ Some []
  kept_to-first s [] = cond-true (eqb s.serial s.serial) (Some []) None (eq-eqb s.serial s.serial refl)
  kept_to-first s (t ∷ ts) =
      cond-true (eqb s.serial s.serial) (Some []) (option_map (λ ks. t ∷ ks) (kept_to s.serial t ts)) (eq-eqb s.serial s.serial refl)

  -- a mark that isn't the first one's
  pub kept_to-later : (m : ℕ) (s t : Station S N) (ts : List (Station S N)) → m ≢ s.serial → kept_to m s (t ∷ ts) ≡ option_map (λ ks. t ∷ ks) (kept_to m t ts)
  kept_to-later m s t ts other =
      cond-false (eqb m s.serial) (Some []) (option_map (λ ks. t ∷ ks) (kept_to m t ts)) (ne_eqb m s.serial other)

  -- serials rise to the newest
  pub newest-above : (s : Station S N) (ss : List (Station S N)) → Rises s.serial ss → s.serial ≤ (newest s ss).serial
  newest-above s [] h = omega arith
  newest-above s (t ∷ ts) h = let above = newest-above t ts h.1 in omega (arith, h.0, above)

  pub Rises-take : (k : ℕ) (serial : ℕ) (ss : List (Station S N)) → Rises serial ss → Rises serial (take k ss)
  Rises-take zero serial ss h = tt
  Rises-take (suc k) serial [] h = tt
  Rises-take (suc k) serial (t ∷ ts) h = (h.0, Rises-take k t.serial ts h.1)

  -- a front's newest isn't above the newest of all
  pub newest-take : (k : ℕ) (s : Station S N) (ss : List (Station S N)) → Rises s.serial ss → (newest s (take k ss)).serial ≤ (newest s ss).serial
  newest-take zero s ss h = newest-above s ss h
  newest-take (suc k) s [] h = omega arith
  newest-take (suc k) s (t ∷ ts) h = newest-take k t ts h.1

  -- of two fronts the shorter one's newest isn't above the longer one's
  pub newest-take-le : (j k : ℕ) (s : Station S N) (ss : List (Station S N)) → j ≤ k → Rises s.serial ss → (newest s (take j ss)).serial ≤ (newest s (take k ss)).serial
  newest-take-le zero k s ss below h = newest-above s (take k ss) (Rises-take k s.serial ss h)
  newest-take-le (suc j) zero s ss below h = absurd (omega arith)
  newest-take-le (suc j) (suc k) s [] below h = omega arith
  newest-take-le (suc j) (suc k) s (t ∷ ts) below h = newest-take-le j k t ts (omega arith) h.1

  -- and where the shorter one lacks a station of the longer one, below it
  pub newest-take-lt : (j k : ℕ) (s : Station S N) (ss : List (Station S N)) → j < k → k ≤ length ss → Rises s.serial ss → (newest s (take j ss)).serial < (newest s (take k ss)).serial
  newest-take-lt j zero s ss below within h = absurd (omega arith)
  newest-take-lt j (suc k) s [] below within h = absurd (omega arith)
  newest-take-lt zero (suc k) s (t ∷ ts) below within h =
      let above = newest-above t (take k ts) (Rises-take k t.serial ts h.1) in
      omega (arith, h.0, above)
  newest-take-lt (suc j) (suc k) s (t ∷ ts) below within h = newest-take-lt j k t ts (omega arith) (omega arith) h.1

  -- the mark of a front's newest keeps that front
  pub kept_to-newest : (k : ℕ) (s : Station S N) (ss : List (Station S N)) → Rises s.serial ss → kept_to (newest s (take k ss)).serial s ss ≡ Some (take k ss)
  kept_to-newest zero s ss h = kept_to-first s ss
  kept_to-newest (suc k) s [] h = kept_to-first s []
  kept_to-newest (suc k) s (t ∷ ts) h =
      let above = newest-above t (take k ts) (Rises-take k t.serial ts h.1) in
      kept_to-later (newest t (take k ts)).serial s t ts (λ e. absurd (omega (arith, h.0, above, e))) ∙ ap (λ o. option_map (λ ks. t ∷ ks) o) (kept_to-newest k t ts h.1)

  -- an undo keeps nothing behind the mark's station, or what the search further on keeps
  pub kept_to-cases : (b : Bool) (rest : Option (List (Station S N))) (kept : List (Station S N)) → cond b (Some []) rest ≡ Some kept → ((b ≡ true) × (kept ≡ [])) ⊎ (rest ≡ Some kept)
  kept_to-cases true rest kept is = inl (refl, cc)
  kept_to-cases false rest kept is = inr is

  pub kept_to-one_more : (t : Station S N) (rest : Option (List (Station S N))) (kept : List (Station S N)) → option_map (λ ks. t ∷ ks) rest ≡ Some kept → (ks : List (Station S N)) × (rest ≡ Some ks) × (kept ≡ t ∷ ks)
  kept_to-one_more t None kept is = absurd (let no : ⊥ = cc in no)
  kept_to-one_more t (Some ks) kept is = (ks, refl, cc)

  -- what an undo keeps ends with the mark's station, and is a front
  pub kept_to-names : (m : ℕ) (s : Station S N) (ss kept : List (Station S N)) → kept_to m s ss ≡ Some kept → ((newest s kept).serial ≡ m) × (ss ≡ kept ++ drop (length kept) ss)
  kept_to-names m s [] kept is =
      elim (kept_to-cases (eqb m s.serial) None kept is) [
        | inl h ↦ (rw h.1 (sym (eqb-true m s.serial h.0)), rw h.1 refl)
        | inr h ↦ absurd (let no : ⊥ = cc in no)
      ]
  kept_to-names m s (t ∷ ts) kept is =
      elim (kept_to-cases (eqb m s.serial) (option_map (λ ks. t ∷ ks) (kept_to m t ts)) kept is) [
        | inl h ↦ (rw h.1 (sym (eqb-true m s.serial h.0)), rw h.1 refl)
        | inr h ↦
            let more = kept_to-one_more t (kept_to m t ts) kept h in
            let names = kept_to-names m t ts more.0 more.1 in
            (rw more.2 names.0, rw more.2 (ap (λ us. t ∷ us) names.1))
      ]

  -- what an undo keeps is a front
  pub kept_to-take : (m : ℕ) (s : Station S N) (ss kept : List (Station S N)) → kept_to m s ss ≡ Some kept → take (length kept) ss ≡ kept
  kept_to-take m s ss kept is =
      let names = kept_to-names m s ss kept is in
      ap (λ us. take (length kept) us) names.1 ∙ take_at kept (drop (length kept) ss) (length kept) refl

  -- a mark that keeps anything isn't below the first station
  pub kept_to-above : (m : ℕ) (s : Station S N) (ss kept : List (Station S N)) → Rises s.serial ss → kept_to m s ss ≡ Some kept → s.serial ≤ m
  kept_to-above m s [] kept rises is =
      elim (kept_to-cases (eqb m s.serial) None kept is) [
        | inl h ↦ omega (arith, eqb-true m s.serial h.0)
        | inr h ↦ absurd (let no : ⊥ = cc in no)
      ]
  kept_to-above m s (t ∷ ts) kept rises is =
      elim (kept_to-cases (eqb m s.serial) (option_map (λ ks. t ∷ ks) (kept_to m t ts)) kept is) [
        | inl h ↦ omega (arith, eqb-true m s.serial h.0)
        | inr h ↦
            let more = kept_to-one_more t (kept_to m t ts) kept h in
            let above = kept_to-above m t ts more.0 rises.1 more.1 in
            omega (arith, above, rises.0)
      ]

  -- a list of stations behind another
  pub newest-append : (s : Station S N) (front ss : List (Station S N)) → newest s (front ++ ss) ≡ newest (newest s front) ss
  newest-append s [] ss = refl
  newest-append s (t ∷ ts) ss = newest-append t ts ss

  -- behind a front serials rise from its newest, and up to that they rise too
  pub Rises-behind : (s : Station S N) (front ss : List (Station S N)) → Rises s.serial (front ++ ss) → Rises (newest s front).serial ss
  Rises-behind s [] ss h = h
  Rises-behind s (t ∷ ts) ss h = Rises-behind t ts ss h.1

  pub Rises-front : (s : Station S N) (front ss : List (Station S N)) → Rises s.serial (front ++ ss) → Rises s.serial front
  Rises-front s [] ss h = tt
  Rises-front s (t ∷ ts) ss h = (h.0, Rises-front t ts ss h.1)

  -- serials rise along a front and what stands behind it
  pub Rises-joined : (s : Station S N) (front ss : List (Station S N)) → Rises s.serial front → Rises (newest s front).serial ss → Rises s.serial (front ++ ss)
  Rises-joined s [] ss front_rises h = h
  Rises-joined s (t ∷ ts) ss front_rises h = (front_rises.0, Rises-joined t ts ss front_rises.1 h)

  -- a mark that isn't below a front's newest keeps the front, and of what stands behind what it keeps of that
  pub kept_to-behind : (m : ℕ) (s : Station S N) (front ss : List (Station S N)) → Rises s.serial front → (newest s front).serial ≤ m → kept_to m s (front ++ ss) ≡ option_map (λ ks. front ++ ks) (kept_to m (newest s front) ss)
  kept_to-behind m s [] ss rises from = same (kept_to m s ss) where
    same : (o : Option (List (Station S N))) → o ≡ option_map (λ ks. ks) o
    same None = refl
    same (Some ks) = refl
  kept_to-behind m s (t ∷ ts) ss rises from =
      let above = newest-above t ts rises.1 in
      kept_to-later m s t (ts ++ ss) (λ e. absurd (omega (arith, rises.0, above, from, e))) ∙ ap (λ o. option_map (λ ks. t ∷ ks) o) (kept_to-behind m t ts ss rises.1 from) ∙ both (kept_to m (newest t ts) ss)
    where
      both : (o : Option (List (Station S N))) → option_map (λ ks. t ∷ ks) (option_map (λ ks. ts ++ ks) o) ≡ option_map (λ ks. t ∷ (ts ++ ks)) o
      both None = refl
      both (Some ks) = refl

  -- a mark that keeps some of a front keeps the same of more stations
  pub kept_to-more : (m : ℕ) (s : Station S N) (front ss kept : List (Station S N)) → kept_to m s front ≡ Some kept → kept_to m s (front ++ ss) ≡ Some kept
  kept_to-more m s [] ss kept is =
      elim (kept_to-cases (eqb m s.serial) None kept is) [
        | inl h ↦ rw (h.1, eqb-true m s.serial h.0) (kept_to-first s ss)
        | inr h ↦ absurd (let no : ⊥ = cc in no)
      ]
  kept_to-more m s (t ∷ ts) ss kept is =
      at (λ ks. kept_to-more m t ts ss ks) (eqb m s.serial) is where
        at : ((ks : List (Station S N)) → kept_to m t ts ≡ Some ks → kept_to m t (ts ++ ss) ≡ Some ks) → (b : Bool) → cond b (Some []) (option_map (λ ks. t ∷ ks) (kept_to m t ts)) ≡ Some kept → cond b (Some []) (option_map (λ ks. t ∷ ks) (kept_to m t (ts ++ ss))) ≡ Some kept
        at rest true keeps = keeps
        at rest false keeps =
            let more = kept_to-one_more t (kept_to m t ts) kept keeps in
            ap (λ o. option_map (λ ks. t ∷ ks) o) (rest more.0 more.1) ∙ ap (λ ks. Some ks) (sym more.2)

  -- a forget finds the station where an undo ends, and those that an undo cuts
  pub from_mark-kept : (m : ℕ) (s : Station S N) (ss : List (Station S N)) → from_mark m s ss ≡ option_map (λ kept. (newest s kept, drop (length kept) ss)) (kept_to m s ss)
  from_mark-kept m s [] = at (eqb m s.serial) where
    at : (b : Bool) → cond {A = Option (Station S N × List (Station S N))} b (Some (s, [])) None ≡ option_map (λ kept. (newest s kept, drop (length kept) [])) (cond b (Some []) None)
    at true = refl
    at false = refl
  from_mark-kept m s (t ∷ ts) =
      at (from_mark-kept m t ts) (eqb m s.serial) where
        later : (o : Option (List (Station S N))) → option_map {U = Station S N × List (Station S N)} (λ kept. (newest t kept, drop (length kept) ts)) o ≡ option_map (λ kept. (newest s kept, drop (length kept) (t ∷ ts))) (option_map (λ ks. t ∷ ks) o)
        later None = refl
        later (Some ks) = refl

        at : from_mark m t ts ≡ option_map (λ kept. (newest t kept, drop (length kept) ts)) (kept_to m t ts) → (b : Bool) → cond {A = Option (Station S N × List (Station S N))} b (Some (s, t ∷ ts)) (from_mark m t ts) ≡ option_map (λ kept. (newest s kept, drop (length kept) (t ∷ ts))) (cond b (Some []) (option_map (λ ks. t ∷ ks) (kept_to m t ts)))
        at rest true = refl
        at rest false = rest ∙ later (kept_to m t ts)

  -- one station more, above them all
  pub newest-push : (s : Station S N) (ss : List (Station S N)) (t : Station S N) → newest s (ss ++ t ∷ []) ≡ t
  newest-push s [] t = refl
  newest-push s (u ∷ us) t = newest-push u us t

  pub Rises-push : (s : Station S N) (ss : List (Station S N)) (t : Station S N) → Rises s.serial ss → (newest s ss).serial < t.serial → Rises s.serial (ss ++ t ∷ [])
  Rises-push s [] t h above = (above, tt)
  Rises-push s (u ∷ us) t h above = (h.0, Rises-push u us t h.1 above)

-- entries' notes are their stations'
pub notes_of-stations : {S R N : Type 0} (past : List (Entry S R N)) → notes_of (stations past) ≡ map (λ p. p.note) past
notes_of-stations [] = refl
notes_of-stations (p ∷ ps) = ap (λ ns. p.note ∷ ns) (notes_of-stations ps)

-- the newest station is the last entry's
pub newest-stations : {S R N : Type 0} (s : Station S N) (past : List (Entry S R N)) (d : Entry S R N) → 0 < length past → newest s (stations past) ≡ station_of (get_or past (length past - 1) d)
newest-stations s [] d within = absurd (omega arith)
newest-stations s (p ∷ []) d within = refl
newest-stations s (p ∷ q ∷ ps) d within =
    let next : length (p ∷ q ∷ ps) - 1 ≡ suc (length (q ∷ ps) - 1) = omega arith in
    rw next (newest-stations (station_of p) (q ∷ ps) d (omega arith))

-- an earlier entry's serial isn't above a later one's
pub Rises-ordered : {S R N : Type 0} (serial : ℕ) (past : List (Entry S R N)) → Rises serial (stations past) → (i j : ℕ) (d : Entry S R N) → i ≤ j → j < length past → (serial < (get_or past j d).serial) × ((get_or past i d).serial ≤ (get_or past j d).serial)
Rises-ordered serial [] h i j d order within = absurd (omega arith)
Rises-ordered serial (p ∷ ps) h i zero d order within = let e : i ≡ 0 = omega arith in (h.0, rw e (omega arith))
Rises-ordered serial (p ∷ ps) h zero (suc j) d order within =
    let later = Rises-ordered p.serial ps h.1 j j d (omega arith) (omega arith) in
    (omega (arith, h.0, later.0), omega (arith, later.0))
Rises-ordered serial (p ∷ ps) h (suc i) (suc j) d order within =
    let later = Rises-ordered p.serial ps h.1 i j d (omega arith) (omega arith) in
    (omega (arith, h.0, later.0), later.1)

-- a mark that parts the entries, and isn't the newest of those in front, is no station's
pub kept_to-absent : {S R N : Type 0} (m keep : ℕ) (s : Station S N) (past : List (Entry S R N)) → Rises s.serial (stations past) → ((k : ℕ) (d : Entry S R N) → k < keep → k < length past → (get_or past k d).serial ≤ m) → ((k : ℕ) (d : Entry S R N) → keep ≤ k → k < length past → m < (get_or past k d).serial) → m ≢ (newest s (stations (take keep past))).serial → kept_to m s (stations past) ≡ None
kept_to-absent m zero s [] h front back other = cond-false (eqb m s.serial) (Some []) None (ne_eqb m s.serial other)
kept_to-absent m (suc keep) s [] h front back other =
    cond-false (eqb m s.serial) (Some []) None (ne_eqb m s.serial other)
kept_to-absent m zero s (p ∷ ps) h front back other =
    let first = back 0 p (omega arith) (omega arith) in
    let rest = kept_to-absent m zero (station_of p) ps h.1 (λ k d below within. absurd (omega arith)) (λ k d from within. back (suc k) d (omega arith) (omega arith)) (λ e. absurd (omega (arith, first, e))) in
    kept_to-later m s (station_of p) (stations ps) other ∙ ap (λ o. option_map (λ ks. station_of p ∷ ks) o) rest
kept_to-absent m (suc keep) s (p ∷ ps) h front back other =
    let first = front 0 p (omega arith) (omega arith) in
    let rest = kept_to-absent m keep (station_of p) ps h.1 (λ k d below within. front (suc k) d (omega arith) (omega arith)) (λ k d from within. back (suc k) d (omega arith) (omega arith)) other in
    kept_to-later m s (station_of p) (stations ps) (λ e. absurd (omega (arith, first, h.0, e))) ∙ ap (λ o. option_map (λ ks. station_of p ∷ ks) o) rest
