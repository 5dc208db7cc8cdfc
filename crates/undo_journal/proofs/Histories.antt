-- Lemmas on whole lists of commands: what stays ordered, which steps are live, what marks name.
use Rattle.std.proofs.Common.{◌≡◌, ◌≢◌, ℕ, suc, Bool, true, false, ◌+◌, ◌<◌, ◌≤◌, cond, eqb, leb, List, [], ◌∷◌, ◌++◌, length, Option, Some, None, is_some, unwrap_or, option_map, Result, Ok, Err, ◌⊎◌, inl, inr, sym, ap, subst, ◌∙◌, refl, arith}
use Rattle.std.specs.List.{filter}
use Rattle.std.specs.Result.{IfErr, OnOk, OnErr}
use Rattle.std.proofs.lemmas.Bool.{cond-true, cond-false, ne_eqb, eqb-true, le-leb, lt-leb, cases_lt}
use Rattle.std.proofs.lemmas.List.{append_assoc}
use Rattle.undo_journal.specs.declared.history.Command.{Command}
use Rattle.undo_journal.specs.declared.history.Command.TheVariants.{Perform, Undo, Forget}
use Rattle.undo_journal.specs.declared.reversible.Told.{Told}
use Rattle.undo_journal.specs.declared.error.JournalError.{JournalError}
use Rattle.undo_journal.specs.declared.error.JournalError.TheVariants.{Step, Forgotten, DeadMark, SerialEnd, Memory}
use Rattle.undo_journal.specs.Journal.{HasNoStation, Performs, Stopped}
use Rattle.undo_journal.specs.Reversible.{Accepted}
use Rattle.undo_journal.specs.Timeline.{Station, Timeline, newest, here, opened, appended, kept_to, cut_to, forgotten_to, node_at, Rises, IsOrdered}
use Rattle.undo_journal.specs.History.{Rule, Live, after_event, IsAfter, AreAfter, live_after_event, live_after_undo, IsLiveAfter, RunsCommands, FoldsTo, IsMadeBy, Makes, MakesKept, CarriedOut, none, done, left_out, stopped, IsMissed, IsReplayOf}
use Rattle.undo_journal.proofs.Forgets.{Forgets-of, forgotten_to-mark, forgotten_to-front, forgotten_to-uncut, IsOrdered-forgotten}
use Rattle.undo_journal.proofs.Stations.{kept_to-above, kept_to-behind, kept_to-cases, kept_to-one_more, kept_to-take, newest-above, newest-append, newest-push, newest-take, Rises-behind, Rises-front, Rises-push, Rises-take}

-- Order

module _ {S N : Type 0} where
  pub IsOrdered-opened : (node : S) → IsOrdered (opened {N = N} node)
  IsOrdered-opened node = record { rises = tt; given = omega arith }

  pub IsOrdered-appended : (t : Timeline S N) (node : S) (note : N) → IsOrdered t → IsOrdered (appended t node note)
  IsOrdered-appended t node note ordered = record {
    rises = Rises-push t.first t.later record { serial = t.last + 1; node = node; note = Some note } ordered.rises (omega (arith, ordered.given));
    given = rw newest-push (omega arith);
  }

  -- what an undo leaves of a timeline
  pub cut_to-parts : (m : ℕ) (t u : Timeline S N) → cut_to m t ≡ Some u → (kept_to m t.first t.later ≡ Some u.later) × (u.first ≡ t.first) × (u.last ≡ t.last)
  cut_to-parts m t u is = parts (kept_to m t.first t.later) is where
    parts : (o : Option (List (Station S N))) → option_map (λ ks. record { first = t.first; later = ks; last = t.last }) o ≡ Some u → (o ≡ Some u.later) × (u.first ≡ t.first) × (u.last ≡ t.last)
    parts None e = absurd (let no : ⊥ = cc in no)
    parts (Some ks) e = let same : record { first = t.first; later = ks; last = t.last } ≡ u = cc in (ap (λ (v : Timeline S N). Some v.later) same, sym (ap (λ (v : Timeline S N). v.first) same), sym (ap (λ (v : Timeline S N). v.last) same))

  pub IsOrdered-cut : (m : ℕ) (t u : Timeline S N) → cut_to m t ≡ Some u → IsOrdered t → IsOrdered u
  IsOrdered-cut m t u is ordered =
      let parts = cut_to-parts m t u is in
      let front = kept_to-take m t.first t.later u.later parts.0 in
      let below = newest-take (length u.later) t.first t.later ordered.rises in
      let rises = subst (λ ss. Rises t.first.serial ss) front (Rises-take (length u.later) t.first.serial t.later ordered.rises) in
      let newest_is = ap (λ ss. (newest t.first ss).serial) front in
      record {
        rises = rw parts.1 rises;
        given = rw (parts.1, parts.2) (omega (arith, below, newest_is, ordered.given));
      }

module _ {S E A N F : Type 0} (rule : Rule S E A N F) where
  IsOrdered-event : (t : Timeline S N) (ruled : Result (Accepted S A N) F) → IsOrdered t → IsOrdered (after_event t ruled)
  IsOrdered-event t (Ok a) ordered = IsOrdered-appended t a.node a.note ordered
  IsOrdered-event t (Err f) ordered = ordered

  IsOrdered-undo : (m : ℕ) (t : Timeline S N) (o : Option (Timeline S N)) → cut_to m t ≡ o → IsOrdered t → IsOrdered (unwrap_or o t)
  IsOrdered-undo m t None is ordered = ordered
  IsOrdered-undo m t (Some u) is ordered = IsOrdered-cut m t u is ordered

  IsOrdered-forget : (m : ℕ) (t : Timeline S N) (o : Option (Timeline S N)) → forgotten_to m t ≡ o → IsOrdered t → IsOrdered (unwrap_or o t)
  IsOrdered-forget m t None is ordered = ordered
  IsOrdered-forget m t (Some u) is ordered = IsOrdered-forgotten m t u is ordered

  pub IsOrdered-command : (t u : Timeline S N) (c : Command E) → IsAfter rule t c u → IsOrdered t → IsOrdered u
  IsOrdered-command t u (Perform e) is ordered =
      subst (λ (v : Timeline S N). IsOrdered v) (sym is.2) (IsOrdered-event t is.0 ordered)
  IsOrdered-command t u (Undo m) is ordered =
      subst (λ (v : Timeline S N). IsOrdered v) (sym is) (IsOrdered-undo m t (cut_to m t) refl ordered)
  IsOrdered-command t u (Forget m) is ordered =
      subst (λ (v : Timeline S N). IsOrdered v) (sym is) (IsOrdered-forget m t (forgotten_to m t) refl ordered)

  pub IsOrdered-after : (cs : List (Command E)) (t u : Timeline S N) → AreAfter rule cs t u → IsOrdered t → IsOrdered u
  IsOrdered-after [] t u are ordered = subst (λ (v : Timeline S N). IsOrdered v) (sym are) ordered
  IsOrdered-after (c ∷ cs) t u are ordered =
      IsOrdered-after cs are.0 u are.2 (IsOrdered-command t are.0 c are.1 ordered)

  -- a command that a journal carried out, where it performed the event, and where the event is refused

  pub IsAfter-performed : (t u : Timeline S N) (c : Command E) (e : E) (n : ℕ) (told : List (Told A N)) → c ≡ Perform e → Performs (rule (here t).node e) n t told u → IsAfter rule t c u
  IsAfter-performed t u c e n told is performs =
      subst (λ d. IsAfter rule t d u) (sym is) (Ok performs.0, performs.1, performs.2)

  pub IsAfter-refused : (t u : Timeline S N) (c : Command E) (e : E) (f : F) → c ≡ Perform e → rule (here t).node e (Err f) → u ≡ t → IsAfter rule t c u
  IsAfter-refused t u c e f is refused same = subst (λ d. IsAfter rule t d u) (sym is) (Err f, refused, same)

  -- and a forget, where it found the mark's station and where it found none

  IsAfter-unforgotten : (t u : Timeline S N) (m : ℕ) (e : JournalError F N) → HasNoStation m t e → u ≡ t → u ≡ unwrap_or (forgotten_to m t) t
  IsAfter-unforgotten t u m (Step f) dead same = absurd dead
  IsAfter-unforgotten t u m Forgotten dead same = rw (forgotten_to-uncut m t dead.1) same
  IsAfter-unforgotten t u m DeadMark dead same = rw (forgotten_to-uncut m t dead.1) same
  IsAfter-unforgotten t u m SerialEnd dead same = absurd dead
  IsAfter-unforgotten t u m (Memory mark reports) dead same = absurd dead

  pub IsAfter-forgotten : {X : Type 0} (t u : Timeline S N) (c : Command E) (m : ℕ) (result : Result X (JournalError F N)) → c ≡ Forget m → OnOk result (forgotten_to m t ≡ Some u) → IfErr result (HasNoStation m t) → OnErr result (u ≡ t) → IsAfter rule t c u
  IsAfter-forgotten t u c m (Ok x) is found dead same =
      subst (λ d. IsAfter rule t d u) (sym is) (rw found refl)
  IsAfter-forgotten t u c m (Err e) is found dead same =
      subst (λ d. IsAfter rule t d u) (sym is) (IsAfter-unforgotten t u m e dead same)

  -- serials go on by one at most, and never back
  last-event : (t : Timeline S N) (ruled : Result (Accepted S A N) F) → (t.last ≤ (after_event t ruled).last) × ((after_event t ruled).last ≤ t.last + 1)
  last-event t (Ok a) = (omega arith, omega arith)
  last-event t (Err f) = (omega arith, omega arith)

  last-undo : (m : ℕ) (t : Timeline S N) (o : Option (Timeline S N)) → cut_to m t ≡ o → (unwrap_or o t).last ≡ t.last
  last-undo m t None is = refl
  last-undo m t (Some u) is = (cut_to-parts m t u is).2

  last-forget : (m : ℕ) (t : Timeline S N) (o : Option (Timeline S N)) → forgotten_to m t ≡ o → (unwrap_or o t).last ≡ t.last
  last-forget m t None is = refl
  last-forget m t (Some u) is = (Forgets-of m t u is).last

  pub last-command : (t u : Timeline S N) (c : Command E) → IsAfter rule t c u → (t.last ≤ u.last) × (u.last ≤ t.last + 1)
  last-command t u (Perform e) is =
      subst (λ (v : Timeline S N). (t.last ≤ v.last) × (v.last ≤ t.last + 1)) (sym is.2) (last-event t is.0)
  last-command t u (Undo m) is =
      let same = ap (λ (v : Timeline S N). v.last) is ∙ last-undo m t (cut_to m t) refl in
      (omega (arith, same), omega (arith, same))
  last-command t u (Forget m) is =
      let same = ap (λ (v : Timeline S N). v.last) is ∙ last-forget m t (forgotten_to m t) refl in
      (omega (arith, same), omega (arith, same))

-- Live steps

module _ {S E A N F : Type 0} (rule : Rule S E A N F) where
  -- one live step more makes one station more
  pub Makes-push : (s : Station S N) (xs : List (Live E)) (ss : List (Station S N)) (x : Live E) (t : Station S N) → Makes rule s.node xs ss → t.serial ≡ x.serial → IsMadeBy (rule (newest s ss).node x.event) t → Makes rule s.node (xs ++ x ∷ []) (ss ++ t ∷ [])
  Makes-push s [] [] x t makes serial made = (serial, made, tt)
  Makes-push s [] (u ∷ us) x t makes serial made = absurd makes
  Makes-push s (y ∷ ys) [] x t makes serial made = absurd makes
  Makes-push s (y ∷ ys) (u ∷ us) x t makes serial made =
      (makes.0, makes.1, Makes-push u ys us x t makes.2 serial made)

  -- no step is at or below a mark that is below all of their stations
  filter-above : (m : ℕ) (node : S) (xs : List (Live E)) (ss : List (Station S N)) → Rises m ss → Makes rule node xs ss → filter (λ x. leb x.serial m) xs ≡ []
  filter-above m node [] [] rises makes = refl
  filter-above m node [] (s ∷ ss) rises makes = absurd makes
  filter-above m node (x ∷ xs) [] rises makes = absurd makes
  filter-above m node (x ∷ xs) (s ∷ ss) rises makes =
      let above = lt-leb x.serial m (omega (arith, rises.0, makes.0)) in
      cond-false (leb x.serial m) (x ∷ filter (λ y. leb y.serial m) xs) (filter (λ y. leb y.serial m) xs) above ∙ filter-above m s.node xs ss (Rises-below m s.serial ss (omega (arith, rises.0)) rises.1) makes.2
    where
      Rises-below : (low high : ℕ) (us : List (Station S N)) → low ≤ high → Rises high us → Rises low us
      Rises-below low high [] below h = tt
      Rises-below low high (u ∷ us) below h = (omega (arith, h.0), h.1)

  -- an undo takes away the live steps after its mark, with their stations
  pub Makes-kept : (m : ℕ) (s : Station S N) (xs : List (Live E)) (ss kept : List (Station S N)) → Rises s.serial ss → Makes rule s.node xs ss → kept_to m s ss ≡ Some kept → Makes rule s.node (filter (λ x. leb x.serial m) xs) kept
  Makes-kept m s [] [] kept rises makes is =
      elim (kept_to-cases (eqb m s.serial) None kept is) [
        | inl h ↦ rw h.1 tt
        | inr h ↦ absurd (let no : ⊥ = cc in no)
      ]
  Makes-kept m s [] (t ∷ ts) kept rises makes is = absurd makes
  Makes-kept m s (x ∷ xs) [] kept rises makes is = absurd makes
  Makes-kept m s (x ∷ xs) (t ∷ ts) kept rises makes is =
      elim (kept_to-cases (eqb m s.serial) (option_map (λ ks. t ∷ ks) (kept_to m t ts)) kept is) [
        | inl h ↦
            let at = eqb-true m s.serial h.0 in
            let none = filter-above m s.node (x ∷ xs) (t ∷ ts) (subst (λ n. Rises n (t ∷ ts)) (sym at) rises) makes in
            rw (h.1, none) tt
        | inr h ↦
            let more = kept_to-one_more t (kept_to m t ts) kept h in
            let above = kept_to-above m t ts more.0 rises.1 more.1 in
            let live = cond-true (leb x.serial m) (x ∷ filter (λ y. leb y.serial m) xs) (filter (λ y. leb y.serial m) xs) (le-leb x.serial m (omega (arith, above, makes.0))) in
            rw (more.2, live) (makes.0, makes.1, Makes-kept m t xs ts more.0 rises.1 makes.2 more.1)
      ]

  -- The steps so far make the stations so far, behind a front of them that is forgotten.
  pub record Follows (node : S) (t : Timeline S N) (steps : List (Live E)) : Type 0 where
    pub front : List (Station S N)
    pub first : t.first ≡ newest (opened {N = N} node).first front
    pub ordered : IsOrdered record { first = (opened {N = N} node).first; later = front ++ t.later; last = t.last }
    pub makes : Makes rule node steps (front ++ t.later)

  pub Follows-opened : (node : S) → Follows node (opened node) []
  Follows-opened node = record { front = []; first = refl; ordered = IsOrdered-opened node; makes = tt }

  -- where it stands, without what is forgotten and with it
  newest-whole : (node : S) (t : Timeline S N) (steps : List (Live E)) → (follows : Follows node t steps) → newest (opened {N = N} node).first (follows.front ++ t.later) ≡ here t
  newest-whole node t steps follows =
      newest-append (opened {N = N} node).first follows.front t.later ∙ ap (λ s. newest s t.later) (sym follows.first)

  Follows-event : (node : S) (t : Timeline S N) (steps : List (Live E)) (e : E) (r : Result (Accepted S A N) F) → rule (here t).node e r → Follows node t steps → Follows node (after_event t r) (live_after_event t e r steps)
  Follows-event node t steps e (Ok a) is follows =
      let station : Station S N = record { serial = t.last + 1; node = a.node; note = Some a.note } in
      let begun = (opened {N = N} node).first in
      let front = follows.front in
      let more = append_assoc front t.later (station ∷ []) in
      let ruled = subst (λ (s : Station S N). rule s.node e (Ok a)) (sym (newest-whole node t steps follows)) is in
      let whole : Timeline S N = record { first = begun; later = front ++ t.later; last = t.last } in
      record {
        front = front;
        first = follows.first;
        ordered = subst (λ ss. IsOrdered record { first = begun; later = ss; last = t.last + 1 }) more (IsOrdered-appended whole a.node a.note follows.ordered);
        makes = subst (λ ss. Makes rule node (steps ++ record { serial = t.last + 1; event = e } ∷ []) ss) more (Makes-push begun steps (front ++ t.later) record { serial = t.last + 1; event = e } station follows.makes refl (a, ruled, refl, refl));
      }
  Follows-event node t steps e (Err f) is follows = follows

  Follows-undo : (node : S) (t : Timeline S N) (steps : List (Live E)) (m : ℕ) (o : Option (Timeline S N)) → cut_to m t ≡ o → Follows node t steps → Follows node (unwrap_or o t) (cond (is_some o) (filter (λ x. leb x.serial m) steps) steps)
  Follows-undo node t steps m None is follows = follows
  Follows-undo node t steps m (Some u) is follows =
      let parts = cut_to-parts m t u is in
      let begun = (opened {N = N} node).first in
      let front = follows.front in
      let rises = follows.ordered.rises in
      let first_serial : t.first.serial ≡ (newest begun front).serial = ap (λ (s : Station S N). s.serial) follows.first in
      let above = kept_to-above m t.first t.later u.later (subst (λ n. Rises n t.later) (sym first_serial) (Rises-behind begun front t.later rises)) parts.0 in
      let behind = kept_to-behind m begun front t.later (Rises-front begun front t.later rises) (omega (arith, above, first_serial)) in
      let keeps : kept_to m begun (front ++ t.later) ≡ Some (front ++ u.later) = behind ∙ ap (λ o. option_map (λ ks. front ++ ks) o) (ap (λ s. kept_to m s t.later) (sym follows.first) ∙ parts.0) in
      let whole : Timeline S N = record { first = begun; later = front ++ t.later; last = t.last } in
      let left : Timeline S N = record { first = begun; later = front ++ u.later; last = t.last } in
      let cut : cut_to m whole ≡ Some left = ap (λ o. option_map (λ ks. record { first = begun; later = ks; last = t.last }) o) keeps in
      record {
        front = front;
        first = parts.1 ∙ follows.first;
        ordered = subst (λ n. IsOrdered record { first = begun; later = front ++ u.later; last = n }) (sym parts.2) (IsOrdered-cut m whole left cut follows.ordered);
        makes = Makes-kept m begun steps (front ++ t.later) (front ++ u.later) rises follows.makes keeps;
      }

  -- a forget adds to what is forgotten
  Follows-forget : (node : S) (t : Timeline S N) (steps : List (Live E)) (m : ℕ) (o : Option (Timeline S N)) → forgotten_to m t ≡ o → Follows node t steps → Follows node (unwrap_or o t) steps
  Follows-forget node t steps m None is follows = follows
  Follows-forget node t steps m (Some u) is follows =
      let parts = Forgets-of m t u is in
      let begun = (opened {N = N} node).first in
      let front = follows.front in
      let more : front ++ t.later ≡ (front ++ parts.front) ++ u.later = ap (λ ss. front ++ ss) parts.later ∙ sym (append_assoc front parts.front u.later) in
      record {
        front = front ++ parts.front;
        first = parts.first ∙ ap (λ s. newest s parts.front) follows.first ∙ sym (newest-append begun front parts.front);
        ordered = subst (λ n. IsOrdered record { first = begun; later = (front ++ parts.front) ++ u.later; last = n }) (sym parts.last) (subst (λ ss. IsOrdered record { first = begun; later = ss; last = t.last }) more follows.ordered);
        makes = subst (λ ss. Makes rule node steps ss) more follows.makes;
      }

  pub Follows-command : (node : S) (t u : Timeline S N) (steps live : List (Live E)) (c : Command E) → IsLiveAfter rule t steps c u live → Follows node t steps → Follows node u live
  Follows-command node t u steps live (Perform e) is follows =
      subst (λ xs. Follows node u xs) (sym is.3) (subst (λ v. Follows node v (live_after_event t e is.0 steps)) (sym is.2) (Follows-event node t steps e is.0 is.1 follows))
  Follows-command node t u steps live (Undo m) is follows =
      subst (λ xs. Follows node u xs) (sym is.1) (subst (λ v. Follows node v (live_after_undo m t steps)) (sym is.0) (Follows-undo node t steps m (cut_to m t) refl follows))
  Follows-command node t u steps live (Forget m) is follows =
      subst (λ xs. Follows node u xs) (sym is.1) (subst (λ v. Follows node v steps) (sym is.0) (Follows-forget node t steps m (forgotten_to m t) refl follows))

  pub Follows-after : (node : S) (cs : List (Command E)) (t u : Timeline S N) (steps live : List (Live E)) → RunsCommands rule cs t steps u live → Follows node t steps → Follows node u live
  Follows-after node [] t u steps live runs follows =
      subst (λ xs. Follows node u xs) (sym runs.1) (subst (λ v. Follows node v steps) (sym runs.0) follows)
  Follows-after node (c ∷ cs) t u steps live runs follows =
      Follows-after node cs runs.0 u runs.1 live runs.3 (Follows-command node t runs.0 steps runs.1 c runs.2 follows)

  -- steps that make stations are accepted, and lead to the last of them
  pub FoldsTo-made : (s : Station S N) (xs : List (Live E)) (ss : List (Station S N)) → Makes rule s.node xs ss → FoldsTo rule s.node xs (newest s ss).node
  FoldsTo-made s [] [] makes = refl
  FoldsTo-made s [] (t ∷ ts) makes = absurd makes
  FoldsTo-made s (x ∷ xs) [] makes = absurd makes
  FoldsTo-made s (x ∷ xs) (t ∷ ts) makes =
      let made = makes.1 in
      (made.0, made.1, subst (λ n. FoldsTo rule n xs (newest t ts).node) made.2 (FoldsTo-made t xs ts makes.2))

  -- the live steps of a whole list make its stations and those that are forgotten, and their fold is its node
  pub Makes-live : (node : S) (cs : List (Command E)) (t : Timeline S N) (live : List (Live E)) → RunsCommands rule cs (opened node) [] t live → MakesKept rule node live t
  Makes-live node cs t live runs =
      let follows = Follows-after node cs (opened node) t [] live runs (Follows-opened node) in
      record {
        whole = record { first = (opened {N = N} node).first; later = follows.front ++ t.later; last = t.last };
        ordered = follows.ordered;
        begun = refl;
        makes = follows.makes;
        kept = forgotten_to-front (opened {N = N} node).first follows.front t follows.ordered.rises follows.first;
      }

  pub FoldsTo-live : (node : S) (cs : List (Command E)) (t : Timeline S N) (live : List (Live E)) → RunsCommands rule cs (opened node) [] t live → FoldsTo rule node live (here t).node
  FoldsTo-live node cs t live runs =
      let follows = Follows-after node cs (opened node) t [] live runs (Follows-opened node) in
      subst (λ (s : Station S N). FoldsTo rule node live s.node) (newest-whole node t live follows) (FoldsTo-made (opened {N = N} node).first live (follows.front ++ t.later) follows.makes)

  -- commands with their live steps, and without them

  pub IsAfter-live : (t u : Timeline S N) (steps live : List (Live E)) (c : Command E) → IsLiveAfter rule t steps c u live → IsAfter rule t c u
  IsAfter-live t u steps live (Perform e) is = (is.0, is.1, is.2)
  IsAfter-live t u steps live (Undo m) is = is.0
  IsAfter-live t u steps live (Forget m) is = is.0

  pub AreAfter-runs : (cs : List (Command E)) (t u : Timeline S N) (steps live : List (Live E)) → RunsCommands rule cs t steps u live → AreAfter rule cs t u
  AreAfter-runs [] t u steps live runs = runs.0
  AreAfter-runs (c ∷ cs) t u steps live runs =
      (runs.0, IsAfter-live t runs.0 steps runs.1 c runs.2, AreAfter-runs cs runs.0 u runs.1 live runs.3)

  IsLiveAfter-of : (t u : Timeline S N) (steps : List (Live E)) (c : Command E) → IsAfter rule t c u → (live : List (Live E)) × IsLiveAfter rule t steps c u live
  IsLiveAfter-of t u steps (Perform e) is = (live_after_event t e is.0 steps, (is.0, is.1, is.2, refl))
  IsLiveAfter-of t u steps (Undo m) is = (live_after_undo m t steps, (is, refl))
  IsLiveAfter-of t u steps (Forget m) is = (steps, (is, refl))

  pub RunsCommands-of : (cs : List (Command E)) (t u : Timeline S N) (steps : List (Live E)) → AreAfter rule cs t u → (live : List (Live E)) × RunsCommands rule cs t steps u live
  RunsCommands-of [] t u steps are = (steps, (are, refl))
  RunsCommands-of (c ∷ cs) t u steps are =
      let first = IsLiveAfter-of t are.0 steps c are.1 in
      let rest = RunsCommands-of cs are.0 u first.0 are.2 in
      (rest.0, (are.0, first.0, first.1, rest.1))

  -- one list of commands behind another
  pub AreAfter-append : (cs ds : List (Command E)) (t u v : Timeline S N) → AreAfter rule cs t u → AreAfter rule ds u v → AreAfter rule (cs ++ ds) t v
  AreAfter-append [] ds t u v first rest = subst (λ w. AreAfter rule ds w v) first rest
  AreAfter-append (c ∷ cs) ds t u v first rest = (first.0, first.1, AreAfter-append cs ds first.0 u v first.2 rest)

-- A rule that gives one outcome at most leads to one end at most.

module _ {S E A N F : Type 0} (rule : Rule S E A N F) (one : (node : S) (event : E) (r s : Result (Accepted S A N) F) → rule node event r → rule node event s → r ≡ s) where
  IsAfter-one : (t u v : Timeline S N) (c : Command E) → IsAfter rule t c u → IsAfter rule t c v → u ≡ v
  IsAfter-one t u v (Perform e) first second =
      first.2 ∙ ap (λ r. after_event t r) (one (here t).node e first.0 second.0 first.1 second.1) ∙ sym second.2
  IsAfter-one t u v (Undo m) first second = first ∙ sym second
  IsAfter-one t u v (Forget m) first second = first ∙ sym second

  pub AreAfter-one : (cs : List (Command E)) (t u v : Timeline S N) → AreAfter rule cs t u → AreAfter rule cs t v → u ≡ v
  AreAfter-one [] t u v first second = first ∙ sym second
  AreAfter-one (c ∷ cs) t u v first second =
      let same = IsAfter-one t first.0 second.0 c first.1 second.1 in
      AreAfter-one cs second.0 u v (subst (λ w. AreAfter rule cs w u) same first.2) second.2

  IsLiveAfter-one : (t u v : Timeline S N) (steps live others : List (Live E)) (c : Command E) → IsLiveAfter rule t steps c u live → IsLiveAfter rule t steps c v others → (u ≡ v) × (live ≡ others)
  IsLiveAfter-one t u v steps live others (Perform e) first second =
      let same = one (here t).node e first.0 second.0 first.1 second.1 in (
        first.2 ∙ ap (λ r. after_event t r) same ∙ sym second.2,
        first.3 ∙ ap (λ r. live_after_event t e r steps) same ∙ sym second.3,
      )
  IsLiveAfter-one t u v steps live others (Undo m) first second =
      (first.0 ∙ sym second.0, first.1 ∙ sym second.1)
  IsLiveAfter-one t u v steps live others (Forget m) first second =
      (first.0 ∙ sym second.0, first.1 ∙ sym second.1)

  pub RunsCommands-one : (cs : List (Command E)) (t u v : Timeline S N) (steps live others : List (Live E)) → RunsCommands rule cs t steps u live → RunsCommands rule cs t steps v others → (u ≡ v) × (live ≡ others)
  RunsCommands-one [] t u v steps live others first second = (first.0 ∙ sym second.0, first.1 ∙ sym second.1)
  RunsCommands-one (c ∷ cs) t u v steps live others first second =
      let same = IsLiveAfter-one t first.0 second.0 steps first.1 second.1 c first.2 second.2 in
      let moved = subst (λ w. RunsCommands rule cs w first.1 u live) same.0 first.3 in
      RunsCommands-one cs second.0 u v second.1 live others (subst (λ xs. RunsCommands rule cs second.0 xs u live) same.1 moved) second.3

  pub FoldsTo-one : (xs : List (Live E)) (node end other : S) → FoldsTo rule node xs end → FoldsTo rule node xs other → end ≡ other
  FoldsTo-one [] node end other first second = first ∙ sym second
  FoldsTo-one (x ∷ xs) node end other first second =
      let same : first.0 ≡ second.0 = accepted first.0 second.0 (Ok first.0) refl (one node x.event (Ok first.0) (Ok second.0) first.1 second.1) in
      FoldsTo-one xs second.0.node end other (subst (λ (a : Accepted S A N). FoldsTo rule a.node xs end) same first.2) second.2
    where
      accepted : (a b : Accepted S A N) (r : Result (Accepted S A N) F) → r ≡ Ok a → r ≡ Ok b → a ≡ b
      accepted a b r first second = cc

-- Marks

-- the node of the first station with this serial
abbrev node_in : {S N : Type 0} → ℕ → List (Station S N) → Option S
node_in m [] = None
node_in m (s ∷ ss) = cond (eqb m s.serial) (Some s.node) (node_in m ss)

module _ {S N : Type 0} where
  -- no station is below the first
  node_in-below : (m : ℕ) (ss : List (Station S N)) (low : ℕ) → m ≤ low → Rises low ss → node_in m ss ≡ None
  node_in-below m [] low below rises = refl
  node_in-below m (s ∷ ss) low below rises =
      cond-false (eqb m s.serial) (Some s.node) (node_in m ss) (ne_eqb m s.serial (λ e. absurd (omega (arith, rises.0, e)))) ∙ node_in-below m ss s.serial (omega (arith, rises.0)) rises.1

  -- a station more, under another serial
  node_in-push : (m : ℕ) (ss : List (Station S N)) (t : Station S N) → m ≢ t.serial → node_in m (ss ++ t ∷ []) ≡ node_in m ss
  node_in-push m [] t other = cond-false (eqb m t.serial) (Some t.node) None (ne_eqb m t.serial other)
  node_in-push m (s ∷ ss) t other = ap (λ o. cond (eqb m s.serial) (Some s.node) o) (node_in-push m ss t other)

  -- of the stations that an undo keeps
  node_in-kept : (end m : ℕ) (s : Station S N) (ss kept : List (Station S N)) → Rises s.serial ss → kept_to end s ss ≡ Some kept → (m ≤ end → node_in m (s ∷ kept) ≡ node_in m (s ∷ ss)) × (end < m → node_in m (s ∷ kept) ≡ None)
  node_in-kept end m s [] kept rises is =
      elim (kept_to-cases (eqb end s.serial) None kept is) [
        | inl h ↦
            let at = eqb-true end s.serial h.0 in
            rw h.1 (λ _. refl, λ above. cond-false (eqb m s.serial) (Some s.node) None (ne_eqb m s.serial (λ e. absurd (omega (arith, at, e, above)))))
        | inr h ↦ absurd (let no : ⊥ = cc in no)
      ]
  node_in-kept end m s (t ∷ ts) kept rises is =
      elim (kept_to-cases (eqb end s.serial) (option_map (λ ks. t ∷ ks) (kept_to end t ts)) kept is) [
        | inl h ↦
            let at = eqb-true end s.serial h.0 in
            rw h.1 (λ below. ap (λ o. cond (eqb m s.serial) (Some s.node) o) (sym (node_in-below m (t ∷ ts) s.serial (omega (arith, at, below)) rises)), λ above. cond-false (eqb m s.serial) (Some s.node) None (ne_eqb m s.serial (λ e. absurd (omega (arith, at, e, above)))))
        | inr h ↦
            let more = kept_to-one_more t (kept_to end t ts) kept h in
            let low = kept_to-above end t ts more.0 rises.1 more.1 in
            let rest = node_in-kept end m t ts more.0 rises.1 more.1 in
            rw more.2 (λ below. ap (λ o. cond (eqb m s.serial) (Some s.node) o) (rest.0 below), λ above. cond-false (eqb m s.serial) (Some s.node) (node_in m (t ∷ more.0)) (ne_eqb m s.serial (λ e. absurd (omega (arith, low, rises.0, e, above)))) ∙ rest.1 above)
      ]

  -- of the stations behind a front that is forgotten
  node_in-behind : (m : ℕ) (s : Station S N) (front ss : List (Station S N)) → Rises s.serial (front ++ ss) → ((newest s front).serial ≤ m → node_in m (newest s front ∷ ss) ≡ node_in m (s ∷ (front ++ ss))) × (m < (newest s front).serial → node_in m (newest s front ∷ ss) ≡ None)
  node_in-behind m s [] ss rises =
      (λ from. refl, λ below. cond-false (eqb m s.serial) (Some s.node) (node_in m ss) (ne_eqb m s.serial (λ e. absurd (omega (arith, e, below)))) ∙ node_in-below m ss s.serial (omega (arith, below)) rises)
  node_in-behind m s (t ∷ ts) ss rises =
      let rest = node_in-behind m t ts ss rises.1 in
      let above = newest-above t ts (Rises-front t ts ss rises.1) in
      (λ from. rest.0 from ∙ sym (cond-false (eqb m s.serial) (Some s.node) (node_in m (t ∷ (ts ++ ss))) (ne_eqb m s.serial (λ e. absurd (omega (arith, rises.0, above, from, e))))), rest.1)

  -- that node is where an undo to the serial ends
  node_in-undo : (m : ℕ) (s : Station S N) (ss : List (Station S N)) → option_map (λ ks. (newest s ks).node) (kept_to m s ss) ≡ node_in m (s ∷ ss)
  node_in-undo m s [] =
      at (eqb m s.serial) where
        at : (b : Bool) → option_map (λ ks. (newest s ks).node) (cond b (Some []) None) ≡ cond b (Some s.node) None
        at true = refl
        at false = refl
  node_in-undo m s (t ∷ ts) =
      at (node_in-undo m t ts) (eqb m s.serial) where
        later : (o : Option (List (Station S N))) → option_map (λ ks. (newest s ks).node) (option_map (λ ks. t ∷ ks) o) ≡ option_map (λ ks. (newest t ks).node) o
        later None = refl
        later (Some ks) = refl

        at : option_map (λ ks. (newest t ks).node) (kept_to m t ts) ≡ node_in m (t ∷ ts) → (b : Bool) → option_map (λ ks. (newest s ks).node) (cond b (Some []) (option_map (λ ks. t ∷ ks) (kept_to m t ts))) ≡ cond b (Some s.node) (node_in m (t ∷ ts))
        at rest true = refl
        at rest false = later (kept_to m t ts) ∙ rest

  pub node_at-in : (m : ℕ) (t : Timeline S N) → node_at m t ≡ node_in m (t.first ∷ t.later)
  node_at-in m t = whole (kept_to m t.first t.later) ∙ node_in-undo m t.first t.later where
    whole : (o : Option (List (Station S N))) → option_map (λ (u : Timeline S N). (here u).node) (option_map (λ ks. record { first = t.first; later = ks; last = t.last }) o) ≡ option_map (λ ks. (newest t.first ks).node) o
    whole None = refl
    whole (Some ks) = refl

  -- what an undo leaves of the nodes that marks name
  pub node_at-cut : (end m : ℕ) (t u : Timeline S N) → IsOrdered t → cut_to end t ≡ Some u → (m ≤ end → node_at m u ≡ node_at m t) × (end < m → node_at m u ≡ None)
  node_at-cut end m t u ordered is =
      let parts = cut_to-parts end t u is in
      let kept = node_in-kept end m t.first t.later u.later ordered.rises parts.0 in
      let left = node_at-in m u ∙ ap (λ s. node_in m (s ∷ u.later)) parts.1 in
      (λ below. left ∙ kept.0 below ∙ sym (node_at-in m t), λ above. left ∙ kept.1 above)

  -- and what a forget leaves
  pub node_at-forgotten : (floor m : ℕ) (t u : Timeline S N) → IsOrdered t → forgotten_to floor t ≡ Some u → (floor ≤ m → node_at m u ≡ node_at m t) × (m < floor → node_at m u ≡ None)
  node_at-forgotten floor m t u ordered is =
      let parts = Forgets-of floor t u is in
      let serial : (newest t.first parts.front).serial ≡ floor = ap (λ (s : Station S N). s.serial) (sym parts.first) ∙ forgotten_to-mark floor t u is in
      let behind = node_in-behind m t.first parts.front u.later (subst (λ ss. Rises t.first.serial ss) parts.later ordered.rises) in
      let left = node_at-in m u ∙ ap (λ s. node_in m (s ∷ u.later)) parts.first in
      let whole = ap (λ ss. node_in m (t.first ∷ ss)) (sym parts.later) ∙ sym (node_at-in m t) in
      (λ from. left ∙ behind.0 (omega (arith, serial, from)) ∙ whole, λ below. left ∙ behind.1 (omega (arith, serial, below)))

module _ {S E A N F : Type 0} (rule : Rule S E A N F) where
  -- what an event leaves of them
  pub node_at-event : (m : ℕ) (t : Timeline S N) (ruled : Result (Accepted S A N) F) → m ≤ t.last → node_at m (after_event t ruled) ≡ node_at m t
  node_at-event m t (Ok a) given =
      node_at-in m (appended t a.node a.note) ∙ node_in-push m (t.first ∷ t.later) record { serial = t.last + 1; node = a.node; note = Some a.note } (λ e. absurd (omega (arith, e))) ∙ sym (node_at-in m t)
  node_at-event m t (Err f) given = refl

  node_at-undo : (m end : ℕ) (t : Timeline S N) (o : Option (Timeline S N)) → IsOrdered t → cut_to end t ≡ o → (node_at m (unwrap_or o t) ≡ node_at m t) ⊎ (node_at m (unwrap_or o t) ≡ None)
  node_at-undo m end t None ordered is = inl refl
  node_at-undo m end t (Some u) ordered is =
      let left = node_at-cut end m t u ordered is in
      elim (cases_lt end m) [ inl above ↦ inr (left.1 above) | inr below ↦ inl (left.0 below) ]

  node_at-forget : (m floor : ℕ) (t : Timeline S N) (o : Option (Timeline S N)) → IsOrdered t → forgotten_to floor t ≡ o → (node_at m (unwrap_or o t) ≡ node_at m t) ⊎ (node_at m (unwrap_or o t) ≡ None)
  node_at-forget m floor t None ordered is = inl refl
  node_at-forget m floor t (Some u) ordered is =
      let left = node_at-forgotten floor m t u ordered is in
      elim (cases_lt m floor) [ inl below ↦ inr (left.1 below) | inr from ↦ inl (left.0 from) ]

  node_at-command : (m : ℕ) (t u : Timeline S N) (c : Command E) → IsAfter rule t c u → IsOrdered t → m ≤ t.last → (node_at m u ≡ node_at m t) ⊎ (node_at m u ≡ None)
  node_at-command m t u (Perform e) is ordered given =
      inl (ap (λ (v : Timeline S N). node_at m v) is.2 ∙ node_at-event m t is.0 given)
  node_at-command m t u (Undo end) is ordered given =
      subst (λ (v : Timeline S N). (node_at m v ≡ node_at m t) ⊎ (node_at m v ≡ None)) (sym is) (node_at-undo m end t (cut_to end t) ordered refl)
  node_at-command m t u (Forget floor) is ordered given =
      subst (λ (v : Timeline S N). (node_at m v ≡ node_at m t) ⊎ (node_at m v ≡ None)) (sym is) (node_at-forget m floor t (forgotten_to floor t) ordered refl)

  -- a mark that is alive after commands names what it named before them
  pub node_at-after : (m : ℕ) (cs : List (Command E)) (t u : Timeline S N) (n : S) → AreAfter rule cs t u → IsOrdered t → m ≤ t.last → node_at m u ≡ Some n → node_at m t ≡ Some n
  node_at-after m [] t u n are ordered given alive = ap (λ (v : Timeline S N). node_at m v) (sym are) ∙ alive
  node_at-after m (c ∷ cs) t u n are ordered given alive =
      let next = are.0 in
      let rise = last-command rule t next c are.1 in
      let before = node_at-after m cs next u n are.2 (IsOrdered-command rule t next c are.1 ordered) (omega (arith, rise.0)) alive in
      elim (node_at-command m t next c are.1 ordered given) [
        | inl same ↦ sym same ∙ before
        | inr dead ↦ absurd (let e = sym dead ∙ before in let no : ⊥ = cc in no)
      ]

-- Commands as they are carried out

module _ {S E A N F : Type 0} (rule : Rule S E A N F) (may_run_out : S → E → Type 0) where
  -- one command more

  CarriedOut-done : {missed : ℕ} {asked carried : List (Command E)} {begun t u : Timeline S N} (c : Command E) → CarriedOut rule may_run_out missed asked carried begun t → IsAfter rule t c u → CarriedOut rule may_run_out missed (asked ++ c ∷ []) (carried ++ c ∷ []) begun u
  CarriedOut-done c none is = done c is none
  CarriedOut-done c (done d first h) is = done d first (CarriedOut-done c h is)
  CarriedOut-done c (left_out e want h) is = left_out e want (CarriedOut-done c h is)
  CarriedOut-done c (stopped m r stop h) is = stopped m r stop (CarriedOut-done c h is)

  CarriedOut-left_out : {missed : ℕ} {asked carried : List (Command E)} {begun t : Timeline S N} (e : E) → CarriedOut rule may_run_out missed asked carried begun t → may_run_out (here t).node e → CarriedOut rule may_run_out (suc missed) (asked ++ Perform e ∷ []) carried begun t
  CarriedOut-left_out e none wants = left_out e wants none
  CarriedOut-left_out e (done d first h) wants = done d first (CarriedOut-left_out e h wants)
  CarriedOut-left_out e (left_out f want h) wants = left_out f want (CarriedOut-left_out e h wants)
  CarriedOut-left_out e (stopped m r stop h) wants = stopped m r stop (CarriedOut-left_out e h wants)

  CarriedOut-stopped : {missed : ℕ} {asked carried : List (Command E)} {begun t u : Timeline S N} (m r : ℕ) → CarriedOut rule may_run_out missed asked carried begun t → Stopped m 0 t u r [] → CarriedOut rule may_run_out (suc missed) (asked ++ Undo m ∷ []) (carried ++ Undo r ∷ []) begun u
  CarriedOut-stopped m r none stops = stopped m r stops none
  CarriedOut-stopped m r (done d first h) stops = done d first (CarriedOut-stopped m r h stops)
  CarriedOut-stopped m r (left_out e want h) stops = left_out e want (CarriedOut-stopped m r h stops)
  CarriedOut-stopped m r (stopped l q stop h) stops = stopped l q stop (CarriedOut-stopped m r h stops)

  -- where what is carried out leads
  AreAfter-carried : {missed : ℕ} {asked carried : List (Command E)} {t u : Timeline S N} → CarriedOut rule may_run_out missed asked carried t u → AreAfter rule carried t u
  AreAfter-carried none = refl
  AreAfter-carried (done {mid = mid} c first h) = (mid, first, AreAfter-carried h)
  AreAfter-carried (left_out e want h) = AreAfter-carried h
  AreAfter-carried (stopped {old = old} {mid = mid} m r stop h) =
      (mid, ap (λ o. unwrap_or o old) (sym stop.at_reached), AreAfter-carried h)

  -- what is known of a journal after some of the commands
  pub record CarriedOn (begun t : Timeline S N) (asked : List (Command E)) (missed : ℕ) : Type 0 where
    pub carried : List (Command E)
    pub carried_out : CarriedOut rule may_run_out missed asked carried begun t

  pub CarriedOn-none : (t : Timeline S N) → CarriedOn t t [] 0
  CarriedOn-none t = record { carried = []; carried_out = none }

  -- a command more that was carried out
  pub CarriedOn-done : (begun t u : Timeline S N) (asked : List (Command E)) (missed : ℕ) (c : Command E) → CarriedOn begun t asked missed → IsAfter rule t c u → CarriedOn begun u (asked ++ c ∷ []) missed
  CarriedOn-done begun t u asked missed c on is = record {
    carried = on.carried ++ c ∷ [];
    carried_out = CarriedOut-done c on.carried_out is;
  }

  -- or that ran out of memory
  pub CarriedOn-missed : (begun t u : Timeline S N) (asked : List (Command E)) (missed : ℕ) (c : Command E) → CarriedOn begun t asked missed → IsMissed may_run_out t c u → CarriedOn begun u (asked ++ c ∷ []) (suc missed)
  CarriedOn-missed begun t u asked missed (Perform e) on is = record {
    carried = on.carried;
    carried_out = subst (λ v. CarriedOut rule may_run_out (suc missed) (asked ++ Perform e ∷ []) on.carried begun v) (sym is.1) (CarriedOut-left_out e on.carried_out is.0);
  }
  CarriedOn-missed begun t u asked missed (Undo m) on is = record {
    carried = on.carried ++ Undo is.0 ∷ [];
    carried_out = CarriedOut-stopped m is.0 on.carried_out is.1;
  }
  CarriedOn-missed begun t u asked missed (Forget m) on is = absurd is

  pub last-missed : (t u : Timeline S N) (c : Command E) → IsMissed may_run_out t c u → u.last ≤ t.last + 1
  last-missed t u (Perform e) is = let same = ap (λ (v : Timeline S N). v.last) is.1 in omega (arith, same)
  last-missed t u (Undo m) is =
      let same = (cut_to-parts is.0 t u is.1.at_reached).2 in
      omega (arith, same)
  last-missed t u (Forget m) is = absurd is

  -- at the end
  pub IsReplayOf-all : (node : S) (commands : List (Command E)) (missed : ℕ) (t : Timeline S N) → CarriedOn (opened node) t commands missed → IsReplayOf rule may_run_out node commands missed t
  IsReplayOf-all node commands missed t on =
      let runs = RunsCommands-of rule on.carried (opened node) t [] (AreAfter-carried on.carried_out) in
      record {
        carried = on.carried;
        carried_out = on.carried_out;
        live = runs.0;
        runs = runs.1;
        stations = Makes-live rule node on.carried t runs.0 runs.1;
        fold = FoldsTo-live rule node on.carried t runs.0 runs.1;
      }
