-- How a journal is continued and undone, step by step.
use Rattle.std.proofs.Common.{◌≡◌, ◌∙◌, ℕ, ◌==◌, ◌+◌, Bool, true, false, if◌then◌else◌, List, [], ◌∷◌, ◌++◌, Option, None, Some}
use Rattle.std.proofs.Common.{refl, sym, ap, option_map}
use Rattle.std.proofs.lemmas.List.{append-nil, append_assoc}
use Rattle.undo_journal.specs.Timeline.{Station, Timeline, appended, cut_to, here, kept_to, newest}
use Rattle.upgrade_rehearsal.specs.Going.{Extends, IsBack}

-- the newest station of a journal is the one that was appended last
newest_behind : {S N : Type 0} (s : Station S N) (ss : List (Station S N)) (x : Station S N) → newest s (ss ++ x ∷ []) ≡ x
newest_behind s [] x = refl
newest_behind s (t ∷ ts) x = newest_behind t ts x

pub at_new : {S N : Type 0} (t : Timeline S N) (node : S) (note : N) → (here (appended t node note)).node ≡ node
at_new t node note =
    ap (λ s. s.node) (newest_behind t.first t.later (record { serial = t.last + 1; node = node; note = Some note }))

module _ {S N : Type 0} where
  -- nothing happens
  pub stays : (t : Timeline S N) → Extends t t
  stays t = record { first = refl; more = []; later = sym (append-nil t.later) }

  -- an event is accepted
  pub goes_by : (t : Timeline S N) (node : S) (note : N) → Extends t (appended t node note)
  goes_by t node note =
      record { first = refl; more = record { serial = t.last + 1; node = node; note = Some note } ∷ []; later = refl }

  -- first this, and then that
  pub goes_both : (t u v : Timeline S N) → Extends t u → Extends u v → Extends t v
  goes_both t u v one other = record {
    first = other.first ∙ one.first;
    more = one.more ++ other.more;
    later = other.later ∙ ap (λ ss. ss ++ other.more) one.later ∙ append_assoc t.later one.more other.more;
  }

  -- if a journal is back, it is at the station where it was
  pub here_again : (t u : Timeline S N) → IsBack t u → here u ≡ here t
  here_again t u back = ap (λ s. newest s u.later) back.first ∙ ap (λ ss. newest t.first ss) back.later

  -- and what comes then is appended to what there was
  pub goes_from : (t u v : Timeline S N) → IsBack t u → Extends u v → Extends t v
  goes_from t u v back on = record {
    first = on.first ∙ back.first;
    more = on.more;
    later = on.later ∙ ap (λ ss. ss ++ on.more) back.later;
  }

  pub back_both : (t u v : Timeline S N) → IsBack t u → IsBack u v → IsBack t v
  back_both t u v one other = record { first = other.first ∙ one.first; later = other.later ∙ one.later }

-- What an undo keeps of stations it also keeps if others were appended to them.

kept_by : {S N : Type 0} (b : Bool) (more kept : List (Station S N)) (o : Option (List (Station S N))) →
    (if b then Some [] else None) ≡ Some kept → (if b then Some [] else o) ≡ Some kept
kept_by true more kept o is = is
kept_by false more kept o is = let clash : None ≡ Some kept = is in cc

kept_next : {S N : Type 0} (b : Bool) (t : Station S N) (kept : List (Station S N)) (o p : Option (List (Station S N))) →
    ((ks : List (Station S N)) → o ≡ Some ks → p ≡ Some ks) → (if b then Some [] else option_map (λ ks. t ∷ ks) o) ≡ Some kept →
    (if b then Some [] else option_map (λ ks. t ∷ ks) p) ≡ Some kept
kept_next true t kept o p more is = is
kept_next false t kept None p more is = let clash : None ≡ Some kept = is in cc
kept_next false t kept (Some ks) p more is = ap (λ q. option_map (λ xs. t ∷ xs) q) (more ks refl) ∙ is

kept_more : {S N : Type 0} (m : ℕ) (s : Station S N) (ss more kept : List (Station S N)) → kept_to m s ss ≡ Some kept →
    kept_to m s (ss ++ more) ≡ Some kept
kept_more m s [] [] kept is = is
kept_more m s [] (t ∷ ts) kept is = kept_by (m == s.serial) ts kept (option_map (λ ks. t ∷ ks) (kept_to m t ts)) is
kept_more m s (t ∷ ts) more kept is =
    kept_next (m == s.serial) t kept (kept_to m t ts) (kept_to m t (ts ++ more)) (λ ks same. kept_more m t ts more ks same) is

-- a mark's undo, at the mark, keeps all
cut_whole : {S N : Type 0} (m : ℕ) (t : Timeline S N) → cut_to m t ≡ Some t → kept_to m t.first t.later ≡ Some t.later
cut_whole m t is = by (kept_to m t.first t.later) refl is
  where
    by : (o : Option (List (Station _ _))) → kept_to m t.first t.later ≡ o →
        option_map (λ kept. record { first = t.first; later = kept; last = t.last }) o ≡ Some t → o ≡ Some t.later
    by None same is = let clash : None ≡ Some t = is in cc
    by (Some kept) same is =
        let whole : record { first = t.first; later = kept; last = t.last } ≡ t = cc in
        ap (λ (u : Timeline _ _). Some u.later) whole

-- an undo to a mark of the journal's present place brings the journal back from wherever it was continued to
pub back_to : {S N : Type 0} (m : ℕ) (t u v : Timeline S N) → cut_to m t ≡ Some t → Extends t u → cut_to m u ≡ Some v → IsBack t v
back_to m t u v at on cut =
    let kept : kept_to m u.first u.later ≡ Some t.later =
    ap (λ s. kept_to m s u.later) on.first ∙ ap (λ ss. kept_to m t.first ss) on.later
    ∙ kept_more m t.first t.later on.more t.later (cut_whole m t at) in
    let whole : Some v ≡ Some (record { first = u.first; later = t.later; last = u.last }) =
    sym cut ∙ ap (λ o. option_map (λ ks. record { first = u.first; later = ks; last = u.last }) o) kept in
    let is : v ≡ record { first = u.first; later = t.later; last = u.last } = cc in
    record { first = ap (λ x. x.first) is ∙ on.first; later = ap (λ x. x.later) is }

-- and the mark is that of the journal that is back
pub mark_again : {S N : Type 0} (m : ℕ) (t u : Timeline S N) → IsBack t u → cut_to m t ≡ Some t → cut_to m u ≡ Some u
mark_again m t u back at =
    let kept : kept_to m u.first u.later ≡ Some u.later =
    ap (λ s. kept_to m s u.later) back.first ∙ ap (λ ss. kept_to m t.first ss) back.later ∙ cut_whole m t at
    ∙ ap Some (sym back.later) in
    ap (λ o. option_map (λ ks. record { first = u.first; later = ks; last = u.last }) o) kept
