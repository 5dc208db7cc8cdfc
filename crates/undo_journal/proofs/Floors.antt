-- Lemmas on what may still be undone behind a forget, and on the steps whose stations are forgotten.
use Rattle.std.proofs.Common.{◌≡◌, ℕ, ◌≤◌, List, [], ◌∷◌, ◌++◌, length, drop, eqb, All, Option, Some, None, option_map, unwrap_or, Result, Ok, Err, sym, ap, subst, ◌∙◌, refl, arith}
use Rattle.std.specs.Option.{option_and_then}
use Rattle.std.proofs.lemmas.List.{length-append}
use Rattle.std.proofs.lemmas.List.Elements.{All-nil, All-cons}
use Rattle.std.proofs.Math.Seq.{drop-append-add}
use Rattle.std.proofs.lemmas.Bool.{cond-true, eq-eqb}
use Rattle.undo_journal.specs.Timeline.{Station, Timeline, opened, newest, kept_to, from_mark, cut_to, forgotten_to, cut_stations, Rises, IsOrdered}
use Rattle.undo_journal.specs.declared.history.Command.{Command}
use Rattle.undo_journal.specs.declared.history.Command.TheVariants.{Perform, Undo, Forget}
use Rattle.undo_journal.specs.Reversible.{Accepted}
use Rattle.undo_journal.specs.History.{Rule, Live, after_event, IsAfter, AreAfter, Makes, MakesKept, FoldsTo, HasNoForget, CarriedOut, none, done, left_out, stopped, IsReplayOf}
use Rattle.undo_journal.proofs.Forgets.{Forgets, Forgets-of, forgotten_to-mark, forgotten_to-dead, kept_to-dead, forgotten_to-front}
use Rattle.undo_journal.proofs.Histories.{cut_to-parts, IsOrdered-command, AreAfter-runs, FoldsTo-made}
use Rattle.undo_journal.proofs.Stations.{kept_to-behind, kept_to-more, kept_to-names, kept_to-take, newest-above, Rises-behind, Rises-front, Rises-joined, Rises-take}

module _ {S N : Type 0} where
  -- what an undo behind a forget keeps, by what it keeps without one
  kept_to-forgotten : (floor mark : ℕ) (t u : Timeline S N) → IsOrdered t → floor ≤ mark → forgotten_to floor t ≡ Some u → (is : Forgets floor t u) → kept_to mark t.first t.later ≡ option_map (λ ks. is.front ++ ks) (kept_to mark u.first u.later)
  kept_to-forgotten floor mark t u ordered from found is =
      let serial : (newest t.first is.front).serial ≡ floor = ap (λ (s : Station S N). s.serial) (sym is.first) ∙ forgotten_to-mark floor t u found in
      let rises = subst (λ ss. Rises t.first.serial ss) is.later ordered.rises in
      ap (λ ss. kept_to mark t.first ss) is.later ∙ kept_to-behind mark t.first is.front u.later (Rises-front t.first is.front u.later rises) (omega (arith, serial, from)) ∙ ap (λ s. option_map (λ ks. is.front ++ ks) (kept_to mark s u.later)) (sym is.first)

  -- forgetting, and then undoing to a mark from there on, has the end of undoing first
  exchanged-some : (floor mark : ℕ) (t u : Timeline S N) → IsOrdered t → floor ≤ mark → forgotten_to floor t ≡ Some u → cut_to mark u ≡ option_and_then (forgotten_to floor) (cut_to mark t)
  exchanged-some floor mark t u ordered from found =
      let is = Forgets-of floor t u found in
      let kept = kept_to-forgotten floor mark t u ordered from found is in
      at is (kept_to mark u.first u.later) refl ∙ ap (λ o. option_and_then (forgotten_to floor) (option_map (λ ks. record { first = t.first; later = ks; last = t.last }) o)) (sym kept)
    where
      at : (is : Forgets floor t u) → (o : Option (List (Station S N))) → kept_to mark u.first u.later ≡ o → option_map (λ ks. record { first = u.first; later = ks; last = u.last }) o ≡ option_and_then (forgotten_to floor) (option_map (λ ks. record { first = t.first; later = ks; last = t.last }) (option_map (λ ks. is.front ++ ks) o))
      at is None keeps = refl
      at is (Some ks) keeps =
          let left : Timeline S N = record { first = u.first; later = ks; last = u.last } in
          let rises = subst (λ ss. Rises t.first.serial ss) is.later ordered.rises in
          let behind = subst (λ (s : Station S N). Rises s.serial u.later) (sym is.first) (Rises-behind t.first is.front u.later rises) in
          let front = kept_to-take mark u.first u.later ks keeps in
          let rest = subst (λ ss. Rises u.first.serial ss) front (Rises-take (length ks) u.first.serial u.later behind) in
          let joined = Rises-joined t.first is.front ks (Rises-front t.first is.front u.later rises) (subst (λ (s : Station S N). Rises s.serial ks) is.first rest) in
          let found_again = forgotten_to-front t.first is.front left joined is.first in
          sym (ap (λ n. forgotten_to floor record { first = t.first; later = is.front ++ ks; last = n }) (sym is.last) ∙ subst (λ m. forgotten_to m record { first = t.first; later = is.front ++ ks; last = u.last } ≡ Some left) (forgotten_to-mark floor t u found) found_again)

  -- where the mark of the forget has no station, an undo gives it none
  exchanged-none : (floor mark : ℕ) (t : Timeline S N) (o : Option (Timeline S N)) → forgotten_to floor t ≡ None → cut_to mark t ≡ o → None ≡ option_and_then (forgotten_to floor) o
  exchanged-none floor mark t None dead is = refl
  exchanged-none floor mark t (Some v) dead is =
      let parts = cut_to-parts mark t v is in
      let names = kept_to-names mark t.first t.later v.later parts.0 in
      let unkept = kept_to-dead floor t dead in
      sym (forgotten_to-dead floor v (ap (λ s. kept_to floor s v.later) parts.1 ∙ dead_in_front (kept_to floor t.first v.later) refl (λ ks keeps. ap (λ ss. kept_to floor t.first ss) names.1 ∙ kept_to-more floor t.first v.later (drop (length v.later) t.later) ks keeps) unkept))
    where
      dead_in_front : (o : Option (List (Station S N))) → kept_to floor t.first v.later ≡ o → ((ks : List (Station S N)) → kept_to floor t.first v.later ≡ Some ks → kept_to floor t.first t.later ≡ Some ks) → kept_to floor t.first t.later ≡ None → o ≡ None
      dead_in_front None keeps more unkept = refl
      dead_in_front (Some ks) keeps more unkept = absurd (let e = sym unkept ∙ more ks keeps in let no : ⊥ = cc in no)

  pub exchanged : (floor mark : ℕ) (t : Timeline S N) → IsOrdered t → floor ≤ mark → option_and_then (cut_to mark) (forgotten_to floor t) ≡ option_and_then (forgotten_to floor) (cut_to mark t)
  exchanged floor mark t ordered from = at (forgotten_to floor t) refl where
    at : (o : Option (Timeline S N)) → forgotten_to floor t ≡ o → option_and_then (cut_to mark) o ≡ option_and_then (forgotten_to floor) (cut_to mark t)
    at None found = exchanged-none floor mark t (cut_to mark t) found refl
    at (Some u) found = exchanged-some floor mark t u ordered from found

  -- the undo cuts the same stations
  pub same_cut-forgotten : (floor mark : ℕ) (t u v w : Timeline S N) → IsOrdered t → floor ≤ mark → forgotten_to floor t ≡ Some u → cut_to mark t ≡ Some v → cut_to mark u ≡ Some w → cut_stations u w ≡ cut_stations t v
  same_cut-forgotten floor mark t u v w ordered from found cut left =
      let is = Forgets-of floor t u found in
      let kept = kept_to-forgotten floor mark t u ordered from found is in
      let whole = (cut_to-parts mark t v cut).0 in
      let rest = (cut_to-parts mark u w left).0 in
      let same : Some v.later ≡ Some (is.front ++ w.later) = sym whole ∙ kept ∙ ap (λ o. option_map (λ ks. is.front ++ ks) o) rest in
      let later : v.later ≡ is.front ++ w.later = cc in
      sym (ap (λ ks. drop (length ks) t.later) later ∙ ap (λ ss. drop (length (is.front ++ w.later)) ss) is.later ∙ ap (λ n. drop n (is.front ++ u.later)) (length-append is.front w.later) ∙ drop-append-add is.front u.later (length w.later))

module _ {S E A N F : Type 0} (rule : Rule S E A N F) where
  -- steps that make two lists of stations are those that make the one, and those that make the other from there
  pub Makes-split : (s : Station S N) (front ss : List (Station S N)) (xs : List (Live E)) → Makes rule s.node xs (front ++ ss) → (before kept : List (Live E)) × (xs ≡ before ++ kept) × Makes rule s.node before front × Makes rule (newest s front).node kept ss
  Makes-split s [] ss xs makes = ([], xs, refl, tt, makes)
  Makes-split s (t ∷ ts) ss [] makes = absurd makes
  Makes-split s (t ∷ ts) ss (x ∷ xs) makes =
      let rest = Makes-split t ts ss xs makes.2 in
      (x ∷ rest.0, rest.1, ap (λ ys. x ∷ ys) rest.2, (makes.0, makes.1, rest.3), rest.4)

  -- their serials are those of the stations, which rise
  Makes-below : (s : Station S N) (front : List (Station S N)) (xs : List (Live E)) → Rises s.serial front → Makes rule s.node xs front → All (λ x. x.serial ≤ (newest s front).serial) xs
  Makes-below s [] [] rises makes = All-nil (λ x. x.serial ≤ s.serial)
  Makes-below s [] (x ∷ xs) rises makes = absurd makes
  Makes-below s (t ∷ ts) [] rises makes = absurd makes
  Makes-below s (t ∷ ts) (x ∷ xs) rises makes =
      let above = newest-above t ts rises.1 in
      All-cons (λ x. x.serial ≤ (newest t ts).serial) x xs (omega (arith, makes.0, above)) (Makes-below t ts xs rises.1 makes.2)

  pub MakesKept-split : (node : S) (live : List (Live E)) (t : Timeline S N) → MakesKept rule node live t → (before kept : List (Live E)) × (live ≡ before ++ kept) × All (λ x. x.serial ≤ t.first.serial) before × FoldsTo rule node before t.first.node × Makes rule t.first.node kept t.later
  MakesKept-split node live t makes =
      let whole = makes.whole in
      let is = Forgets-of t.first.serial whole t makes.kept in
      let begun : whole.first.node ≡ node = ap (λ (s : Station S N). s.node) makes.begun in
      let made = subst (λ n. Makes rule n live (is.front ++ t.later)) (sym begun) (subst (λ ss. Makes rule node live ss) is.later makes.makes) in
      let parts = Makes-split whole.first is.front t.later live made in
      let rises = Rises-front whole.first is.front t.later (subst (λ ss. Rises whole.first.serial ss) is.later makes.ordered.rises) in
      let below = Makes-below whole.first is.front parts.0 rises parts.3 in
      let fold = FoldsTo-made rule whole.first parts.0 is.front parts.3 in
      let first = sym is.first in (
        parts.0,
        parts.1,
        parts.2,
        subst (λ (s : Station S N). All (λ (x : Live E). x.serial ≤ s.serial) parts.0) first below,
        subst (λ n. FoldsTo rule n parts.0 t.first.node) begun (subst (λ (s : Station S N). FoldsTo rule whole.first.node parts.0 s.node) first fold),
        subst (λ (s : Station S N). Makes rule s.node parts.1 t.later) first parts.4,
      )

  -- nothing is forgotten before the first of all stations
  from_mark-first : (s : Station S N) (ss : List (Station S N)) (m : ℕ) → m ≡ s.serial → from_mark m s ss ≡ Some (s, ss)
  from_mark-first s [] m is = cond-true {A = Option (Station S N × List (Station S N))} (eqb m s.serial) (Some (s, [])) None (eq-eqb m s.serial is)
  from_mark-first s (t ∷ ts) m is =
      cond-true {A = Option (Station S N × List (Station S N))} (eqb m s.serial) (Some (s, t ∷ ts)) (from_mark m t ts) (eq-eqb m s.serial is)

  pub MakesKept-unforgotten : (node : S) (live : List (Live E)) (t : Timeline S N) → MakesKept rule node live t → t.first.serial ≡ 0 → Makes rule node live t.later
  MakesKept-unforgotten node live t makes zero =
      let whole = makes.whole in
      let serial = zero ∙ ap (λ (s : Station S N). s.serial) (sym makes.begun) in
      let same : Some whole ≡ Some t = ap (λ o. option_map (λ p. record { first = p.0; later = p.1; last = whole.last }) o) (sym (from_mark-first whole.first whole.later t.first.serial serial)) ∙ makes.kept in
      let is : whole ≡ t = cc in
      subst (λ (u : Timeline S N). Makes rule node live u.later) is makes.makes

  -- commands among which no forget is leave the first station

  first-event : (t : Timeline S N) (r : Result (Accepted S A N) F) → (after_event t r).first ≡ t.first
  first-event t (Ok a) = refl
  first-event t (Err f) = refl

  first-undo : (m : ℕ) (t : Timeline S N) (o : Option (Timeline S N)) → cut_to m t ≡ o → (unwrap_or o t).first ≡ t.first
  first-undo m t None is = refl
  first-undo m t (Some u) is = (cut_to-parts m t u is).1

  first-after : (cs : List (Command E)) (t u : Timeline S N) → HasNoForget cs → AreAfter rule cs t u → u.first ≡ t.first
  first-after [] t u unforgotten are = ap (λ (v : Timeline S N). v.first) are
  first-after (Perform e ∷ cs) t u unforgotten are =
      first-after cs are.0 u unforgotten are.2 ∙ ap (λ (v : Timeline S N). v.first) are.1.2 ∙ first-event t are.1.0
  first-after (Undo m ∷ cs) t u unforgotten are =
      first-after cs are.0 u unforgotten are.2 ∙ ap (λ (v : Timeline S N). v.first) are.1 ∙ first-undo m t (cut_to m t) refl
  first-after (Forget m ∷ cs) t u unforgotten are = absurd unforgotten

  -- what is carried out of them has none either
  HasNoForget-carried : {may_run_out : S → E → Type 0} {missed : ℕ} {asked carried : List (Command E)} {t u : Timeline S N} → CarriedOut rule may_run_out missed asked carried t u → HasNoForget asked → HasNoForget carried
  HasNoForget-carried none unforgotten = tt
  HasNoForget-carried (done (Perform e) first h) unforgotten = HasNoForget-carried h unforgotten
  HasNoForget-carried (done (Undo m) first h) unforgotten = HasNoForget-carried h unforgotten
  HasNoForget-carried (done (Forget m) first h) unforgotten = absurd unforgotten
  HasNoForget-carried (left_out e want h) unforgotten = HasNoForget-carried h unforgotten
  HasNoForget-carried (stopped m reached stop h) unforgotten = HasNoForget-carried h unforgotten

  pub Makes-unforgotten : (may_run_out : S → E → Type 0) (node : S) (commands : List (Command E)) (missed : ℕ) (t : Timeline S N) → (replay : IsReplayOf rule may_run_out node commands missed t) → HasNoForget commands → (t.first ≡ (opened {N = N} node).first) × Makes rule node replay.live t.later
  Makes-unforgotten may_run_out node commands missed t replay unforgotten =
      let carried = HasNoForget-carried replay.carried_out unforgotten in
      let first = first-after replay.carried (opened node) t carried (AreAfter-runs rule replay.carried (opened node) t [] replay.live replay.runs) in
      (first, MakesKept-unforgotten node replay.live t replay.stations (ap (λ (s : Station S N). s.serial) first))

  -- the first station's serial never falls

  floor-forget : (m : ℕ) (t : Timeline S N) (o : Option (Timeline S N)) → forgotten_to m t ≡ o → IsOrdered t → t.first.serial ≤ (unwrap_or o t).first.serial
  floor-forget m t None is ordered = omega arith
  floor-forget m t (Some u) is ordered =
      let parts = Forgets-of m t u is in
      let rises = Rises-front t.first parts.front u.later (subst (λ ss. Rises t.first.serial ss) parts.later ordered.rises) in
      let above = newest-above t.first parts.front rises in
      let serial = ap (λ (s : Station S N). s.serial) parts.first in
      omega (arith, above, serial)

  floor-command : (t u : Timeline S N) (c : Command E) → IsAfter rule t c u → IsOrdered t → t.first.serial ≤ u.first.serial
  floor-command t u (Perform e) is ordered =
      let same = ap (λ (v : Timeline S N). v.first.serial) is.2 ∙ ap (λ (s : Station S N). s.serial) (first-event t is.0) in
      omega (arith, same)
  floor-command t u (Undo m) is ordered =
      let same = ap (λ (v : Timeline S N). v.first.serial) is ∙ ap (λ (s : Station S N). s.serial) (first-undo m t (cut_to m t) refl) in
      omega (arith, same)
  floor-command t u (Forget m) is ordered =
      subst (λ (v : Timeline S N). t.first.serial ≤ v.first.serial) (sym is) (floor-forget m t (forgotten_to m t) refl ordered)

  pub floor-after : (cs : List (Command E)) (t u : Timeline S N) → AreAfter rule cs t u → IsOrdered t → t.first.serial ≤ u.first.serial
  floor-after [] t u are ordered =
      let same = ap (λ (v : Timeline S N). v.first.serial) are in
      omega (arith, same)
  floor-after (c ∷ cs) t u are ordered =
      let next = floor-command t are.0 c are.1 ordered in
      let rest = floor-after cs are.0 u are.2 (IsOrdered-command rule t are.0 c are.1 ordered) in
      omega (arith, next, rest)
