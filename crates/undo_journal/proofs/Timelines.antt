-- Lemmas on what a call of a journal does to its timeline.
use Rattle.std.proofs.Common.{◌≡◌, ℕ, zero, suc, ◌+◌, ◌-◌, ◌<◌, ◌≤◌, List, [], ◌∷◌, ◌++◌, length, take, drop, map, replicate, Some, Option, Result, option_map, sym, ap, subst, ◌∙◌, refl, inl, inr, add-one, arith}
use Rattle.std.proofs.lemmas.List.{append-nil, append_assoc, map-append, map_push, length-append, take-map, drop-map, take_all, drop_all, take-take, length-take-le, length-drop, length-map, drop-drop, take-append-drop, drop-append-le, take_rest}
use Rattle.std.proofs.Math.Seq.{take-length, drop-length, take-append_seam}
use Rattle.std.proofs.lemmas.Bool.{cases_lt}
use Rattle.undo_journal.specs.declared.past.Entry.{Entry}
use Rattle.undo_journal.specs.declared.report.Report.{Report}
use Rattle.undo_journal.specs.declared.reversible.Told.{Told}
use Rattle.undo_journal.specs.declared.error.JournalError.{JournalError}
use Rattle.undo_journal.specs.declared.error.JournalError.TheVariants.{Step, Forgotten, DeadMark, SerialEnd, Memory}
use Rattle.undo_journal.specs.Past.{Chained, station_of, stations, timeline_of, shortened}
use Rattle.undo_journal.specs.Reversible.{Accepted, Accepts, Refuses, told_of}
use Rattle.values.specs.declared.failure.Failure.{Failure}
use Rattle.values.specs.declared.failure.Failure.TheVariants as failure
use Rattle.undo_journal.specs.Timeline.{Station, Timeline, newest, here, appended, kept_to, from_mark, cut_to, forgotten_to, cut_stations, notes_of, report_of, Rises, IsFront, IsOrdered}
use Rattle.undo_journal.specs.Journal.{FailsBy, IsOutOfMemoryAt, IsReportOf, Performs, PerformFails, UndoFails, Stopped, stopped_reports}
use Rattle.undo_journal.proofs.Chains.{Chained-push, Chained-behind}
use Rattle.undo_journal.proofs.Forgets.{IsOrdered-forgotten, from_mark-front}
use Rattle.undo_journal.proofs.Stations.{newest-push, Rises-push, Rises-take, newest-take, newest-take-le, newest-take-lt, kept_to-newest, kept_to-names, notes_of-stations}

-- a step more: the entry's station is appended
pub timeline_of-push : {S R N : Type 0} (floor : ℕ) (node : S) (noted : Option N) (past : List (Entry S R N)) (last : ℕ) (p : Entry S R N) → p.serial ≡ last + 1 → timeline_of floor node noted (past ++ p ∷ []) (last + 1) ≡ appended (timeline_of floor node noted past last) p.node.value p.note
timeline_of-push floor node noted past last p next =
    let pushed = map_push station_of past p in
    let station : station_of p ≡ record { serial = last + 1; node = p.node.value; note = Some p.note } = ap (λ n. record { serial = n; node = p.node.value; note = Some p.note }) next in
    ap (λ ss. record { first = record { serial = floor; node = node; note = noted }; later = ss; last = last + 1 }) (pushed ∙ ap (λ s. map station_of past ++ s ∷ []) station)

pub IsOrdered-push : {S R N : Type 0} (floor : ℕ) (node : S) (noted : Option N) (past : List (Entry S R N)) (last : ℕ) (p : Entry S R N) → p.serial ≡ last + 1 → IsOrdered (timeline_of floor node noted past last) → IsOrdered (timeline_of floor node noted (past ++ p ∷ []) (last + 1))
IsOrdered-push floor node noted past last p next ordered =
    let pushed = map_push station_of past p in
    record {
      rises = rw pushed (Rises-push record { serial = floor; node = node; note = noted } (stations past) (station_of p) ordered.rises (omega (arith, ordered.given)));
      given = rw (pushed, newest-push) (omega arith);
    }

-- what the journal keeps after a step more
pub kept-push : {S R N : Type 0} (undoes : R → S → S → Type 0) (floor : ℕ) (node : S) (noted : Option N) (past items : List (Entry S R N)) (last : ℕ) (p : Entry S R N) (state after : S) → p.serial ≡ last + 1 → p.node.value ≡ after → items ≡ past ++ p ∷ [] → undoes p.trace state after → Chained undoes node past state → IsOrdered (timeline_of floor node noted past last) → Chained undoes node items after × IsOrdered (timeline_of floor node noted items (last + 1))
kept-push undoes floor node noted past items last p state after next at is step chain ordered =
    let reversible = subst (λ s. undoes p.trace state s) (sym at) step in
    let pushed = Chained-push undoes node past p state chain reversible in
    (rw is (subst (λ s. Chained undoes node (past ++ p ∷ []) s) at pushed), rw is (IsOrdered-push floor node noted past last p next ordered))

-- of one value more than n equal ones, what is left when one is set aside
replicate-popped : {X : Type 0} (n : ℕ) (x : X) (rest : List X) (aside : X) → rest ++ aside ∷ [] ≡ replicate (suc n) x → (rest ≡ replicate n x) × (aside ≡ x)
replicate-popped zero x [] aside is = (refl, cc)
replicate-popped zero x (r ∷ []) aside is = absurd (let no : ⊥ = cc in no)
replicate-popped zero x (r ∷ q ∷ rest) aside is = absurd (let no : ⊥ = cc in no)
replicate-popped (suc n) x [] aside is = absurd (let no : ⊥ = cc in no)
replicate-popped (suc n) x (r ∷ rest) aside is =
    let first : r ≡ x = cc in
    let others = replicate-popped n x rest aside cc in
    (rw (first, others.0) refl, others.1)

-- The rule's step is performed: of the equal values that tell of it the newest is set aside, whose note is kept.
pub Performs-aside : {S A N F : Type 0} (IsRuled : Result (Accepted S A N) F → Type 0) (node : S) (n count : ℕ) (told rest : List (Told A N)) (aside : Told A N) (old new : Timeline S N) → count ≡ n → Accepts IsRuled node (count + 1) told → told ≡ rest ++ aside ∷ [] → new ≡ appended old node aside.note → Performs IsRuled n old rest new
Performs-aside {S} {A} {N} {F} IsRuled node n count told rest aside old new same accepts is now =
    let all = sym is ∙ accepts.3 ∙ ap (λ k. replicate (k + 1) (told_of accepts.0)) same ∙ ap (λ k. replicate k (told_of accepts.0)) (add-one n) in
    let parts = replicate-popped n (told_of accepts.0) rest aside all in
    (accepts.0, accepts.1, now ∙ ap (λ s. appended old s aside.note) (sym accepts.2) ∙ ap (λ (t : Told A N). appended old accepts.0.node t.note) (sym (sym parts.1)), parts.0)

-- lack of memory that changed nothing, in `perform`
pub PerformFails-from_want : {S A N F : Type 0} (IsRuled : Result (Accepted S A N) F → Type 0) (MayRunOut : Type 0) (old : Timeline S N) (e : JournalError F N) → MayRunOut → IsOutOfMemoryAt (here old).serial e → PerformFails IsRuled MayRunOut old e
PerformFails-from_want IsRuled MayRunOut old (Step f) may want = absurd want
PerformFails-from_want IsRuled MayRunOut old Forgotten may want = absurd want
PerformFails-from_want IsRuled MayRunOut old DeadMark may want = absurd want
PerformFails-from_want IsRuled MayRunOut old SerialEnd may want = absurd want
PerformFails-from_want IsRuled MayRunOut old (Memory mark reports) may want = (may, want.0, want.1)

-- reports of fewer stations, made from those of more
pub shortened-report_of : {S R N : Type 0} (keep k : ℕ) (past : List (Entry S R N)) → keep ≤ k → k ≤ length past → shortened (length past - k) (report_of (stations (drop keep past))) ≡ report_of (stations (drop k past))
shortened-report_of {S} {R} {N} keep k past order within =
    let note : Entry S R N → N = λ p. p.note in
    let more = notes_of-stations (drop keep past) in
    let fewer = notes_of-stations (drop k past) in
    let count : length (map note (drop keep past)) - (length past - k) ≡ k - keep = simp (length-map, length-drop) (omega arith) in
    let index : keep + (k - keep) ≡ k = omega arith in
    let behind = drop-map note (k - keep) (drop keep past) ∙ ap (λ ps. map note ps) (drop-drop (k - keep) keep past ∙ ap (λ i. drop i past) index) in
    let notes : drop (length (notes_of (stations (drop keep past))) - (length past - k)) (notes_of (stations (drop keep past))) ≡ notes_of (stations (drop k past)) = rw (more, fewer, count) behind in
    let cut : length past - k ≡ length (stations (drop k past)) = simp (length-map, length-drop) refl in
    ap (λ ns. record { cut = length past - k; notes = ns }) notes ∙ ap (λ c. record { cut = c; notes = notes_of (stations (drop k past)) }) cut

pub map-replicate : {X Y : Type 0} (f : X → Y) (n : ℕ) (x : X) → map f (replicate n x) ≡ replicate n (f x)
map-replicate f zero x = refl
map-replicate f (suc n) x = ap (λ ys. f x ∷ ys) (map-replicate f n x)

pub stopped_reports-some : {S N : Type 0} (n : ℕ) (cut : List (Station S N)) → 0 < length cut → stopped_reports n cut ≡ replicate n (report_of cut)
stopped_reports-some n [] some = absurd (omega arith)
stopped_reports-some n (s ∷ ss) some = refl

-- where an undo stands that cut what is behind k stations, of those that it had to cut behind `keep`
pub Stopped-at : {S N : Type 0} (mark n keep k last : ℕ) (s : Station S N) (ss : List (Station S N)) (reports : List (Report N)) → Rises s.serial ss → kept_to mark s ss ≡ Some (take keep ss) → keep ≤ k → k ≤ length ss → (k ≡ keep → k ≡ length ss) → reports ≡ stopped_reports n (drop k ss) → Stopped mark n record { first = s; later = ss; last = last } record { first = s; later = take k ss; last = last } (newest s (take k ss)).serial reports
Stopped-at {S} {N} mark n keep k last s ss reports rises kept order within uncut told =
    let names = kept_to-names mark s ss (take keep ss) kept in
    let short = length-take-le k ss within in
    let shorter = length-take-le keep ss (omega arith) in
    let above = newest-take-le keep k s ss order rises in
    let cut : Option (List (Station S N)) → Option (Timeline S N) = λ o. option_map (λ ks. record { first = s; later = ks; last = last }) o in
    let front = take-take keep k ss order in
    let found : kept_to (newest s (take keep ss)).serial s (take k ss) ≡ Some (take keep ss) = rw front at (kept_to-newest keep s (take k ss) (Rises-take k s.serial ss rises)) in
    let same = subst (λ m. kept_to m s (take k ss) ≡ Some (take keep ss)) names.0 found ∙ sym kept in
    record {
      alive = rw kept refl;
      after_mark = omega (arith, names.0, above);
      at_reached = ap cut (kept_to-newest k s ss rises);
      at_mark =
          λ is.
          let all : k ≡ length ss = elim (cases_lt keep k) [
            | inl below ↦
                let short_of = newest-take-lt keep k s ss below within rises in
                absurd (omega (arith, short_of, names.0, is))
            | inr above ↦ uncut (omega (arith, above, order))
          ] in
          ap (λ us. record { first = s; later = us; last = last }) (take_all k ss (omega (arith, all)));
      reported = rw short told;
      same_end = ap cut same;
      whole =
          λ end is.
          let later : end.later ≡ take keep ss = ap (λ (t : Timeline S N). t.later) (let e = sym (ap cut kept) ∙ is in let f : end ≡ record { first = s; later = take keep ss; last = last } = cc in f) in
          rw (later, shorter, short) (ap (λ us. drop keep us) (sym (take-append-drop k ss)) ∙ drop-append-le keep (take k ss) (drop k ss) (omega (arith, short)));
    }

-- the mark of where a timeline stands keeps all of it
pub cut_to-here : {S N : Type 0} (t : Timeline S N) → IsOrdered t → cut_to (here t).serial t ≡ Some t
cut_to-here t ordered =
    let all = take-length t.later in
    let found : kept_to (here t).serial t.first t.later ≡ Some t.later = rw all at (kept_to-newest (length t.later) t.first t.later ordered.rises) in
    ap (λ o. option_map (λ ks. record { first = t.first; later = ks; last = t.last }) o) found

-- lack of memory before the first cut
pub UndoFails-from_want : {S N F : Type 0} (mark n : ℕ) (t : Timeline S N) (e : JournalError F N) → Stopped mark n t t (here t).serial [] → IsOutOfMemoryAt (here t).serial e → UndoFails mark n t t e
UndoFails-from_want mark n t (Step f) stopped want = absurd want
UndoFails-from_want mark n t Forgotten stopped want = absurd want
UndoFails-from_want mark n t DeadMark stopped want = absurd want
UndoFails-from_want mark n t SerialEnd stopped want = absurd want
UndoFails-from_want mark n t (Memory reached reports) stopped want =
    subst (λ rs. Stopped mark n t t reached rs) (sym want.1) (subst (λ m. Stopped mark n t t m []) (sym want.0) stopped)

-- what the journal keeps after an undo
pub kept-front : {S R N : Type 0} (undoes : R → S → S → Type 0) (floor : ℕ) (node : S) (noted : Option N) (past items : List (Entry S R N)) (last k : ℕ) (state after : S) → items ≡ take k past → ((first : S) → Chained undoes first past state → Chained undoes first items after) → Chained undoes node past state → IsOrdered (timeline_of floor node noted past last) → Chained undoes node items after × IsOrdered (timeline_of floor node noted items last)
kept-front {S} {R} {N} undoes floor node noted past items last k state after front chain before ordered =
    let first : Station S N = record { serial = floor; node = node; note = noted } in
    let below = newest-take k first (stations past) ordered.rises in
    let stations_front : stations items ≡ take k (stations past) = ap stations front ∙ sym (take-map station_of k past) in (
      chain node before,
      record {
        rises = rw stations_front (Rises-take k floor (stations past) ordered.rises);
        given = rw stations_front (omega (arith, ordered.given, below));
      },
    )

-- an undo that ends at its mark
pub undone-front : {S R N : Type 0} (floor : ℕ) (node : S) (noted : Option N) (past items : List (Entry S R N)) (last mark keep : ℕ) → kept_to mark record { serial = floor; node = node; note = noted } (stations past) ≡ Some (take keep (stations past)) → items ≡ take keep past → cut_to mark (timeline_of floor node noted past last) ≡ Some (timeline_of floor node noted items last)
undone-front floor node noted past items last mark keep kept front =
    rw (kept, front) (ap (λ ss. Some record { first = record { serial = floor; node = node; note = noted }; later = ss; last = last }) (take-map station_of keep past))

-- and what it reports
pub reported-front : {S R N : Type 0} (floor : ℕ) (node : S) (noted : Option N) (past items : List (Entry S R N)) (last keep n : ℕ) (reports : List (Report N)) → keep ≤ length past → items ≡ take keep past → reports ≡ replicate n (report_of (stations (drop keep past))) → reports ≡ replicate n (report_of (cut_stations (timeline_of floor node noted past last) (timeline_of floor node noted items last)))
reported-front floor node noted past items last keep n reports within front told =
    let count : length (stations items) ≡ keep = rw front (simp length-map (length-take-le keep past within)) in
    told ∙ ap (λ ss. replicate n (report_of ss)) (sym (drop-map station_of keep past) ∙ ap (λ i. drop i (stations past)) (sym count))

-- what an undo would report, were it done
pub report-kept : {S R N : Type 0} (floor : ℕ) (node : S) (noted : Option N) (past lent : List (Entry S R N)) (last mark keep : ℕ) (report : Report N) (t : Timeline S N) → timeline_of floor node noted past last ≡ t → kept_to mark t.first t.later ≡ Some (take keep t.later) → keep ≤ length t.later → lent ≡ past → report ≡ report_of (stations (take (length lent - keep) (drop keep lent))) → IsReportOf mark t report
report-kept {S} {R} {N} floor node noted past lent last mark keep report t is kept within same told =
    let later : stations past ≡ t.later = ap (λ (u : Timeline S N). u.later) is in
    let count = length-take-le keep t.later within in (
      record { first = t.first; later = take keep t.later; last = t.last },
      ap (λ (o : Option (List (Station S N))). option_map (λ ks. record { first = t.first; later = ks; last = t.last }) o) kept,
      told
          ∙ ap (λ (ps : List (Entry S R N)). report_of (stations ps)) (take_rest lent keep ∙ ap (λ (ps : List (Entry S R N)). drop keep ps) same)
          ∙ ap (λ (ss : List (Station S N)). report_of ss) (sym (drop-map station_of keep past) ∙ ap (λ (ss : List (Station S N)). drop keep ss) later ∙ ap (λ (i : ℕ). drop i t.later) (sym count)),
    )

-- the reports of an undo that stopped
pub reported-stopped : {S R N : Type 0} (past : List (Entry S R N)) (keep k n cut : ℕ) (all reports : List (Report N)) → keep ≤ k → k ≤ length past → cut ≡ length past - k → all ≡ replicate n (report_of (stations (drop keep past))) → (cut ≡ 0 → reports ≡ []) → (0 < cut → reports ≡ map (λ r. shortened cut r) all) → reports ≡ stopped_reports n (drop k (stations past))
reported-stopped {S} {R} {N} past keep k n cut all reports order within is told none some =
    let behind = drop-map station_of k past in
    elim (cases_lt k (length past)) [
      | inl below ↦
          let count : 0 < length (stations (drop k past)) = simp (length-map, length-drop) (omega arith) in
          let short = λ (r : Report N). shortened (length past - k) r in
          let written = subst (λ c. 0 < c → reports ≡ map (λ r. shortened c r) all) is some in
          written (omega arith) ∙ ap (λ rs. map short rs) told ∙ map-replicate short n (report_of (stations (drop keep past))) ∙ ap (λ r. replicate n r) (shortened-report_of keep k past order within) ∙ sym (stopped_reports-some n (stations (drop k past)) count) ∙ ap (λ ss. stopped_reports n ss) (sym behind)
      | inr above ↦
          let empty = drop_all k (stations past) (simp length-map above) in
          none (omega arith) ∙ ap (λ ss. stopped_reports n ss) (sym empty)
    ]

-- where an undo stands that stopped, by the entries that it left
pub stopped-front : {S R N : Type 0} (floor : ℕ) (node : S) (noted : Option N) (past items : List (Entry S R N)) (last mark n keep k : ℕ) (reports : List (Report N)) → IsOrdered (timeline_of floor node noted past last) → kept_to mark record { serial = floor; node = node; note = noted } (stations past) ≡ Some (take keep (stations past)) → keep ≤ k → k ≤ length past → (k ≡ keep → k ≡ length past) → items ≡ take k past → reports ≡ stopped_reports n (drop k (stations past)) → Stopped mark n (timeline_of floor node noted past last) (timeline_of floor node noted items last) (here (timeline_of floor node noted items last)).serial reports
stopped-front {S} {R} {N} floor node noted past items last mark n keep k reports ordered kept order within uncut front told =
    let first : Station S N = record { serial = floor; node = node; note = noted } in
    let stations_front : take k (stations past) ≡ stations items = take-map station_of k past ∙ ap stations (sym front) in
    subst (λ ss. Stopped mark n (timeline_of floor node noted past last) record { first = first; later = ss; last = last } (newest first ss).serial reports) stations_front (Stopped-at mark n keep k last first (stations past) reports ordered.rises kept order (rw length-map within) (rw length-map uncut) told)

-- the reports of the entries behind `keep`, made from a slice of them
pub told-behind : {S R N : Type 0} (past lent : List (Entry S R N)) (keep n : ℕ) (reports : List (Report N)) → lent ≡ past → reports ≡ replicate n (report_of (stations (take (length lent - keep) (drop keep lent)))) → reports ≡ replicate n (report_of (stations (drop keep past)))
told-behind past lent keep n reports same told =
    told ∙ ap (λ ps. replicate n (report_of (stations ps))) (take_rest lent keep ∙ ap (λ ps. drop keep ps) same)

-- there are as many entries as stations behind the first
pub kept-within : {S R N : Type 0} (past : List (Entry S R N)) (keep : ℕ) (t : Timeline S N) (floor : ℕ) (node : S) (noted : Option N) (last : ℕ) → timeline_of floor node noted past last ≡ t → keep ≤ length t.later → keep ≤ length past
kept-within past keep t floor node noted last is within =
    let count = ap (λ u. length u.later) is in
    let same = length-map past station_of in
    omega (arith, count, same, within)

-- where an undo stands that ran out of memory before its first cut
pub stopped-before : {S R N : Type 0} (floor : ℕ) (node : S) (noted : Option N) (past : List (Entry S R N)) (last mark n keep : ℕ) (t : Timeline S N) → IsOrdered (timeline_of floor node noted past last) → kept_to mark record { serial = floor; node = node; note = noted } (stations past) ≡ Some (take keep (stations past)) → keep ≤ length past → timeline_of floor node noted past last ≡ t → Stopped mark n t t (here t).serial []
stopped-before floor node noted past last mark n keep t ordered kept within is =
    let behind = drop_all (length past) (stations past) (simp length-map (omega arith)) in
    let stopped = stopped-front floor node noted past past last mark n keep (length past) [] ordered kept within (omega arith) (λ _. refl) (sym (take_all (length past) past (omega arith))) (sym (ap (λ ss. stopped_reports n ss) behind)) in
    subst (λ u. Stopped mark n u u (here u).serial []) is stopped

-- a timeline is a front of itself
pub IsFront-same : {S N : Type 0} (t : Timeline S N) → IsFront t t
IsFront-same t = record {
  same_first = refl;
  front = sym (append-nil t.later) ∙ ap (λ ss. t.later ++ ss) (sym (drop-length t.later));
  same_last = refl;
}

-- the entries that an undo leaves stand for a front
pub IsFront-front : {S R N : Type 0} (floor : ℕ) (node : S) (noted : Option N) (past items : List (Entry S R N)) (last k : ℕ) (t : Timeline S N) → k ≤ length past → items ≡ take k past → timeline_of floor node noted past last ≡ t → IsFront t (timeline_of floor node noted items last)
IsFront-front floor node noted past items last k t within front is =
    let ss = stations past in
    let kept : stations items ≡ take k ss = ap stations front ∙ sym (take-map station_of k past) in
    let count : length (stations items) ≡ k = rw front (simp length-map (length-take-le k past within)) in
    let whole : ss ≡ stations items ++ drop (length (stations items)) ss = rw count (rw kept (sym (take-append-drop k ss))) in
    subst (λ u. IsFront u (timeline_of floor node noted items last)) is record { same_first = refl; front = whole; same_last = refl }

-- an undo that ends at its mark stands there
pub at_mark-front : {S R N : Type 0} (floor : ℕ) (node : S) (noted : Option N) (past items : List (Entry S R N)) (last mark keep : ℕ) → kept_to mark record { serial = floor; node = node; note = noted } (stations past) ≡ Some (take keep (stations past)) → items ≡ take keep past → (here (timeline_of floor node noted items last)).serial ≡ mark
at_mark-front {S} {R} {N} floor node noted past items last mark keep kept front =
    let first : Station S N = record { serial = floor; node = node; note = noted } in
    let names = kept_to-names mark first (stations past) (take keep (stations past)) kept in
    let stations_front : stations items ≡ take keep (stations past) = ap stations front ∙ sym (take-map station_of keep past) in
    ap (λ ss. (newest first ss).serial) stations_front ∙ names.0

-- each entry that an undo takes away has its note
pub noted-front : {S R N : Type 0} (floor : ℕ) (node : S) (noted : Option N) (past items : List (Entry S R N)) (last k : ℕ) (t : Timeline S N) → k ≤ length past → items ≡ take k past → timeline_of floor node noted past last ≡ t → length (notes_of (cut_stations t (timeline_of floor node noted items last))) ≡ length (cut_stations t (timeline_of floor node noted items last))
noted-front floor node noted past items last k t within front is =
    let count : length (stations items) ≡ k = rw front (simp length-map (length-take-le k past within)) in
    let behind : drop (length (stations items)) (stations past) ≡ stations (drop k past) = rw count (drop-map station_of k past) in
    let notes = notes_of-stations (drop k past) in
    subst (λ u. length (notes_of (cut_stations u (timeline_of floor node noted items last))) ≡ length (cut_stations u (timeline_of floor node noted items last))) is (rw (behind, notes) (simp length-map refl))

-- why a step failed is why its event is not performed
pub PerformFails-by : {S A N F : Type 0} (IsRuled : Result (Accepted S A N) F → Type 0) (MayRunOut : Type 0) (old : Timeline S N) (error : Failure F) (e : JournalError F N) → Refuses IsRuled MayRunOut error → FailsBy error (here old).serial e → PerformFails IsRuled MayRunOut old e
PerformFails-by IsRuled MayRunOut old (failure.Refused f) e refuses is = subst (λ x. PerformFails IsRuled MayRunOut old x) (sym is) refuses
PerformFails-by IsRuled MayRunOut old failure.Memory e may want = PerformFails-from_want IsRuled MayRunOut old e may want

-- Where the mark's station is an entry's, a forget makes it the first, and keeps the entries behind it.
pub forgotten-front : {S R N : Type 0} (floor : ℕ) (node : S) (noted : Option N) (past dropped items : List (Entry S R N)) (last mark keep : ℕ) (p : Entry S R N) → kept_to mark record { serial = floor; node = node; note = noted } (stations past) ≡ Some (take keep (stations past)) → past ≡ dropped ++ p ∷ items → length dropped + 1 ≡ keep → forgotten_to mark (timeline_of floor node noted past last) ≡ Some (timeline_of p.serial p.node.value (Some p.note) items last)
forgotten-front {S} {R} {N} floor node noted past dropped items last mark keep p kept parts count =
    let first : Station S N = record { serial = floor; node = node; note = noted } in
    let front = stations dropped ++ station_of p ∷ [] in
    let behind = stations items in
    let whole : stations past ≡ front ++ behind = ap stations parts ∙ map-append station_of dropped (p ∷ items) ∙ sym (append_assoc (stations dropped) (station_of p ∷ []) behind) in
    let many : keep ≡ length front = sym count ∙ ap (λ n. n + 1) (sym (length-map dropped station_of)) ∙ sym (length-append (stations dropped) (station_of p ∷ [])) in
    let seam : take keep (front ++ behind) ≡ front = ap (λ n. take n (front ++ behind)) many ∙ take-append_seam front behind in
    let keeps : kept_to mark first (front ++ behind) ≡ Some front = subst (λ ss. kept_to mark first ss ≡ Some (take keep ss)) whole kept ∙ ap (λ ss. Some ss) seam in
    let found : from_mark mark first (stations past) ≡ Some (station_of p, behind) = ap (λ ss. from_mark mark first ss) whole ∙ from_mark-front mark first front behind keeps ∙ ap (λ (s : Station S N). Some (s, behind)) (newest-push first (stations dropped) (station_of p)) in
    ap (λ o. option_map (λ p. record { first = p.0; later = p.1; last = last }) o) found

-- What the journal keeps after a forget.
pub kept-forgotten : {S R N : Type 0} (undoes : R → S → S → Type 0) (floor : ℕ) (node : S) (noted : Option N) (past dropped items : List (Entry S R N)) (last mark : ℕ) (p : Entry S R N) (state : S) → past ≡ dropped ++ p ∷ items → forgotten_to mark (timeline_of floor node noted past last) ≡ Some (timeline_of p.serial p.node.value (Some p.note) items last) → Chained undoes node past state → IsOrdered (timeline_of floor node noted past last) → Chained undoes p.node.value items state × IsOrdered (timeline_of p.serial p.node.value (Some p.note) items last)
kept-forgotten undoes floor node noted past dropped items last mark p state parts found chain ordered =
    (Chained-behind undoes node dropped p items state (subst (λ ps. Chained undoes node ps state) parts chain), IsOrdered-forgotten mark (timeline_of floor node noted past last) (timeline_of p.serial p.node.value (Some p.note) items last) found ordered)

-- Where it is the first station's, a forget changes nothing.
pub forgotten-same : {S N : Type 0} (mark : ℕ) (t : Timeline S N) → kept_to mark t.first t.later ≡ Some [] → forgotten_to mark t ≡ Some t
forgotten-same mark t kept =
    ap (λ o. option_map (λ p. record { first = p.0; later = p.1; last = t.last }) o) (from_mark-front mark t.first [] t.later kept)
