-- Lemmas on what a forget leaves of a timeline: its order, the station where it stands, and its parts.
use Rattle.std.proofs.Common.{◌≡◌, ℕ, ◌<◌, List, ◌++◌, length, drop, Option, Some, None, is_some, option_map, sym, ap, subst, ◌∙◌, refl, arith}
use Rattle.std.proofs.Math.Seq.{take-append_seam, drop-append_seam}
use Rattle.undo_journal.specs.Timeline.{Station, Timeline, newest, here, kept_to, from_mark, cut_to, forgotten_to, Rises, IsOrdered}
use Rattle.undo_journal.proofs.Stations.{kept_to-above, kept_to-names, kept_to-newest, newest-append, Rises-behind, from_mark-kept}

module _ {S N : Type 0} where
  -- What a forget makes of a timeline: the stations before its first are the front that an undo to the mark keeps.
  pub record Forgets (m : ℕ) (t u : Timeline S N) : Type 0 where
    pub front : List (Station S N)
    pub keeps : kept_to m t.first t.later ≡ Some front
    pub first : u.first ≡ newest t.first front
    pub later : t.later ≡ front ++ u.later
    pub last : u.last ≡ t.last

  pub Forgets-of : (m : ℕ) (t u : Timeline S N) → forgotten_to m t ≡ Some u → Forgets m t u
  Forgets-of m t u is =
      parts (kept_to m t.first t.later) refl (ap (λ o. option_map (λ p. record { first = p.0; later = p.1; last = t.last }) o) (sym (from_mark-kept m t.first t.later)) ∙ is)
    where
      parts : (o : Option (List (Station S N))) → kept_to m t.first t.later ≡ o → option_map (λ (p : Station S N × List (Station S N)). record { first = p.0; later = p.1; last = t.last }) (option_map (λ kept. (newest t.first kept, drop (length kept) t.later)) o) ≡ Some u → Forgets m t u
      parts None keeps e = absurd (let no : ⊥ = cc in no)
      parts (Some kept) keeps e =
          let same : record { first = newest t.first kept; later = drop (length kept) t.later; last = t.last } ≡ u = cc in
          let names = kept_to-names m t.first t.later kept keeps in
          record {
            front = kept;
            keeps = keeps;
            first = sym (ap (λ (v : Timeline S N). v.first) same);
            later = names.1 ∙ ap (λ (v : Timeline S N). kept ++ v.later) same;
            last = sym (ap (λ (v : Timeline S N). v.last) same);
          }

  -- the first station is the mark's
  pub forgotten_to-mark : (m : ℕ) (t u : Timeline S N) → forgotten_to m t ≡ Some u → u.first.serial ≡ m
  forgotten_to-mark m t u is =
      let parts = Forgets-of m t u is in
      ap (λ (s : Station S N). s.serial) parts.first ∙ (kept_to-names m t.first t.later parts.front parts.keeps).0

  -- it stands where it stood
  pub here-forgotten : (m : ℕ) (t u : Timeline S N) → forgotten_to m t ≡ Some u → here u ≡ here t
  here-forgotten m t u is =
      let parts = Forgets-of m t u is in
      ap (λ s. newest s u.later) parts.first ∙ sym (newest-append t.first parts.front u.later) ∙ ap (λ ss. newest t.first ss) (sym parts.later)

  pub IsOrdered-forgotten : (m : ℕ) (t u : Timeline S N) → forgotten_to m t ≡ Some u → IsOrdered t → IsOrdered u
  IsOrdered-forgotten m t u is ordered =
      let parts = Forgets-of m t u is in
      let rises = Rises-behind t.first parts.front u.later (subst (λ ss. Rises t.first.serial ss) parts.later ordered.rises) in
      let stands = ap (λ (s : Station S N). s.serial) (here-forgotten m t u is) in
      record {
        rises = rw parts.first rises;
        given = omega (arith, stands, parts.last, ordered.given);
      }

  -- a mark has a station for a forget where it has one for an undo
  pub forgotten_to-alive : (m : ℕ) (t : Timeline S N) → is_some (forgotten_to m t) ≡ is_some (cut_to m t)
  forgotten_to-alive m t =
      ap (λ o. is_some {T = Timeline S N} (option_map (λ p. record { first = p.0; later = p.1; last = t.last }) o)) (from_mark-kept m t.first t.later) ∙ both (kept_to m t.first t.later)
    where
      both : (o : Option (List (Station S N))) → is_some {T = Timeline S N} (option_map (λ (p : Station S N × List (Station S N)). record { first = p.0; later = p.1; last = t.last }) (option_map (λ kept. (newest t.first kept, drop (length kept) t.later)) o)) ≡ is_some {T = Timeline S N} (option_map (λ ks. record { first = t.first; later = ks; last = t.last }) o)
      both None = refl
      both (Some kept) = refl

  pub forgotten_to-dead : (m : ℕ) (t : Timeline S N) → kept_to m t.first t.later ≡ None → forgotten_to m t ≡ None
  forgotten_to-dead m t dead =
      ap (λ o. option_map (λ p. record { first = p.0; later = p.1; last = t.last }) o) (from_mark-kept m t.first t.later ∙ ap (λ o. option_map (λ kept. (newest t.first kept, drop (length kept) t.later)) o) dead)

  pub kept_to-dead : (m : ℕ) (t : Timeline S N) → forgotten_to m t ≡ None → kept_to m t.first t.later ≡ None
  kept_to-dead m t dead =
      none (kept_to m t.first t.later) (ap (λ o. option_map {U = Timeline S N} (λ p. record { first = p.0; later = p.1; last = t.last }) o) (sym (from_mark-kept m t.first t.later)) ∙ dead)
    where
      none : (o : Option (List (Station S N))) → option_map {U = Timeline S N} (λ (p : Station S N × List (Station S N)). record { first = p.0; later = p.1; last = t.last }) (option_map (λ kept. (newest t.first kept, drop (length kept) t.later)) o) ≡ None → o ≡ None
      none None e = refl
      none (Some kept) e = absurd (let no : ⊥ = cc in no)

  -- a mark without a station has none for a forget either
  pub forgotten_to-uncut : (m : ℕ) (t : Timeline S N) → cut_to m t ≡ None → forgotten_to m t ≡ None
  forgotten_to-uncut m t dead = forgotten_to-dead m t (none (kept_to m t.first t.later) dead) where
    none : (o : Option (List (Station S N))) → option_map {U = Timeline S N} (λ ks. record { first = t.first; later = ks; last = t.last }) o ≡ None → o ≡ None
    none None e = refl
    none (Some kept) e = absurd (let no : ⊥ = cc in no)

  -- no station is below the first
  kept_to-below : (m : ℕ) (s : Station S N) (ss : List (Station S N)) (o : Option (List (Station S N))) → Rises s.serial ss → m < s.serial → kept_to m s ss ≡ o → o ≡ None
  kept_to-below m s ss None rises below is = refl
  kept_to-below m s ss (Some kept) rises below is =
      let above = kept_to-above m s ss kept rises is in absurd (omega (arith, above, below))

  pub cut_to-below : (m : ℕ) (t : Timeline S N) → IsOrdered t → m < t.first.serial → cut_to m t ≡ None
  cut_to-below m t ordered below =
      ap (λ o. option_map (λ ks. record { first = t.first; later = ks; last = t.last }) o) (kept_to-below m t.first t.later (kept_to m t.first t.later) ordered.rises below refl)

  -- what is found where the mark's station is behind a front
  pub from_mark-front : (m : ℕ) (s : Station S N) (front ss : List (Station S N)) → kept_to m s (front ++ ss) ≡ Some front → from_mark m s (front ++ ss) ≡ Some (newest s front, ss)
  from_mark-front m s front ss keeps =
      from_mark-kept m s (front ++ ss) ∙ ap (λ o. option_map (λ kept. (newest s kept, drop (length kept) (front ++ ss))) o) keeps ∙ ap (λ us. Some (newest s front, us)) (drop-append_seam front ss)

  -- a timeline from its first station on is one from which a front is forgotten
  pub forgotten_to-front : (s : Station S N) (front : List (Station S N)) (u : Timeline S N) → Rises s.serial (front ++ u.later) → u.first ≡ newest s front → forgotten_to u.first.serial record { first = s; later = front ++ u.later; last = u.last } ≡ Some u
  forgotten_to-front s front u rises first =
      let found = kept_to-newest (length front) s (front ++ u.later) rises in
      let keeps : kept_to (newest s front).serial s (front ++ u.later) ≡ Some front = rw take-append_seam at found in
      let at_first = subst (λ (t : Station S N). kept_to t.serial s (front ++ u.later) ≡ Some front) (sym first) keeps in
      ap (λ o. option_map (λ p. record { first = p.0; later = p.1; last = u.last }) o) (from_mark-front u.first.serial s front u.later at_first) ∙ ap (λ (t : Station S N). Some record { first = t; later = u.later; last = u.last }) (sym first)
