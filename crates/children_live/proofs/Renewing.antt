-- Supervisors specify their children anew: each child that runs then ran before, and no two of them were one.
use Rattle.std.proofs.Common.{◌≡◌, ℕ, zero, suc, inl, inr, List, [], ◌∷◌, Option, None, Some, position, remove, slice_get, refl, sym, ap, subst, ◌∙◌, arith}
use Rattle.std.proofs.lemmas.Option.{none-some}
use Rattle.std.specs.Prelude.{option_and_then}
use Rattle.app_table.specs.Applications.{Application, has_id}
use Rattle.app_table.specs.Renewing.{child_for, renewed, without_at}
use Rattle.app_table.specs.declared.child.Child.{Child}
use Rattle.app_table.specs.declared.spot.Spot.{Spot}
use Rattle.child_specs.specs.declared.child.ChildSpec.{ChildSpec}
use Rattle.children_live.proofs.Children.{at, runs_of}
use Rattle.children_live.proofs.Placing.{behind, behind_differ}
use Rattle.children_live.specs.Children.{AreRenewed, ChildrenLive, runs_at}
use Rattle.process_store.specs.Table.{Table}

-- Where the children of an application that run were before.

record Kept (before after : List Child) : Type 0 where
  pub from : ℕ → ℕ
  pub was : (k p : ℕ) → runs_of (slice_get after k) ≡ Some p → runs_of (slice_get before (from k)) ≡ Some p
  pub apart : (k l p q : ℕ) → runs_of (slice_get after k) ≡ Some p → runs_of (slice_get after l) ≡ Some q → from k ≡ from l → k ≡ l

same_kept : (row : List Child) → Kept row row
same_kept row = record { from = λ k. k; was = λ k p runs. runs; apart = λ k l p q one other same. same }

removed_from : (row : List Child) (index k : ℕ) → slice_get (remove row index) k ≡ slice_get row (behind index k)
removed_from [] zero k = refl
removed_from [] (suc index) zero = refl
removed_from [] (suc index) (suc k) = refl
removed_from (c ∷ row) zero k = refl
removed_from (c ∷ row) (suc index) zero = refl
removed_from (c ∷ row) (suc index) (suc k) = removed_from row index k

behind_never : (index k : ℕ) → index ≡ behind index k → ⊥
behind_never zero k same = absurd (omega (arith, same))
behind_never (suc index) zero same = absurd (omega (arith, same))
behind_never (suc index) (suc k) same = behind_never index k (omega (arith, same))

-- a child in front of others

abbrev from_front : ℕ → (ℕ → ℕ) → ℕ → ℕ
from_front index from zero = index
from_front index from (suc k) = from k

for_runs : (s : ChildSpec) (o : Option Child) (p : ℕ) → runs_of (Some (child_for s o)) ≡ Some p → runs_of o ≡ Some p
for_runs s None p runs = absurd (none-some p runs)
for_runs s (Some c) p runs = runs

front_was : (s : ChildSpec) (row others : List Child) (index : ℕ) (it : Kept (remove row index) others) (k p : ℕ) →
    runs_of (slice_get (child_for s (slice_get row index) ∷ others) k) ≡ Some p →
    runs_of (slice_get row (from_front index (λ n. behind index (it.from n)) k)) ≡ Some p
front_was s row others index it zero p runs = for_runs s (slice_get row index) p runs
front_was s row others index it (suc k) p runs = sym (ap runs_of (removed_from row index (it.from k))) ∙ it.was k p runs

front_apart : (s : ChildSpec) (row others : List Child) (index : ℕ) (it : Kept (remove row index) others) (k l p q : ℕ) →
    runs_of (slice_get (child_for s (slice_get row index) ∷ others) k) ≡ Some p →
    runs_of (slice_get (child_for s (slice_get row index) ∷ others) l) ≡ Some q →
    from_front index (λ n. behind index (it.from n)) k ≡ from_front index (λ n. behind index (it.from n)) l → k ≡ l
front_apart s row others index it zero zero p q one other same = refl
front_apart s row others index it zero (suc l) p q one other same = absurd (behind_never index (it.from l) same)
front_apart s row others index it (suc k) zero p q one other same = absurd (behind_never index (it.from k) (sym same))
front_apart s row others index it (suc k) (suc l) p q one other same =
    ap suc (it.apart k l p q one other (behind_differ index (it.from k) (it.from l) same))

new_was : (s : ChildSpec) (row others : List Child) (it : Kept row others) (k p : ℕ) →
    runs_of (slice_get (child_for s None ∷ others) k) ≡ Some p → runs_of (slice_get row (from_front 0 it.from k)) ≡ Some p
new_was s row others it zero p runs = absurd (none-some p runs)
new_was s row others it (suc k) p runs = it.was k p runs

new_apart : (s : ChildSpec) (row others : List Child) (it : Kept row others) (k l p q : ℕ) →
    runs_of (slice_get (child_for s None ∷ others) k) ≡ Some p → runs_of (slice_get (child_for s None ∷ others) l) ≡ Some q →
    from_front 0 it.from k ≡ from_front 0 it.from l → k ≡ l
new_apart s row others it zero zero p q one other same = refl
new_apart s row others it zero (suc l) p q one other same = absurd (none-some p one)
new_apart s row others it (suc k) zero p q one other same = absurd (none-some q other)
new_apart s row others it (suc k) (suc l) p q one other same = ap suc (it.apart k l p q one other same)

front_kept : (s : ChildSpec) (row others : List Child) (o : Option ℕ) → Kept (without_at o row) others →
    Kept row (child_for s (option_and_then (slice_get row) o) ∷ others)
front_kept s row others None it = record {
  from = from_front 0 it.from;
  was = new_was s row others it;
  apart = new_apart s row others it;
}
front_kept s row others (Some index) it = record {
  from = from_front index (λ n. behind index (it.from n));
  was = front_was s row others index it;
  apart = front_apart s row others index it;
}

renewed_kept : (specs : List ChildSpec) (row : List Child) → Kept row (renewed specs row)
renewed_kept [] row = same_kept row
renewed_kept (s ∷ specs) row =
    let o = position (has_id s.id) row in
    front_kept s row (renewed specs (without_at o row)) o (renewed_kept specs (without_at o row))

-- And those of all applications.

record AllKept (apps after : List Application) : Type 0 where
  pub from : ℕ → ℕ → ℕ
  pub was : (app k p : ℕ) → runs_at (at app k) after ≡ Some p → runs_at (at app (from app k)) apps ≡ Some p
  pub apart : (app k l p q : ℕ) → runs_at (at app k) after ≡ Some p → runs_at (at app l) after ≡ Some q → from app k ≡ from app l → k ≡ l

abbrev from_first : (ℕ → ℕ) → (ℕ → ℕ → ℕ) → ℕ → ℕ → ℕ
from_first first rest zero k = first k
from_first first rest (suc app) k = rest app k

module _ (a b : Application) (apps after : List Application) (it : Kept a.children b.children) (all : AllKept apps after) where
  first_was : (app k p : ℕ) → runs_at (at app k) (b ∷ after) ≡ Some p →
      runs_at (at app (from_first it.from all.from app k)) (a ∷ apps) ≡ Some p
  first_was zero k p runs = it.was k p runs
  first_was (suc app) k p runs = all.was app k p runs

  first_apart : (app k l p q : ℕ) → runs_at (at app k) (b ∷ after) ≡ Some p → runs_at (at app l) (b ∷ after) ≡ Some q →
      from_first it.from all.from app k ≡ from_first it.from all.from app l → k ≡ l
  first_apart zero k l p q one other same = it.apart k l p q one other same
  first_apart (suc app) k l p q one other same = all.apart app k l p q one other same

  first_kept : AllKept (a ∷ apps) (b ∷ after)
  first_kept = record { from = from_first it.from all.from; was = first_was; apart = first_apart }

all_kept : (apps after : List Application) → AreRenewed apps after → AllKept apps after
all_kept [] [] renewed = record { from = λ app k. k; was = λ app k p runs. runs; apart = λ app k l p q one other same. same }
all_kept [] (b ∷ after) renewed = absurd renewed
all_kept (a ∷ apps) [] renewed = absurd renewed
all_kept (a ∷ apps) (b ∷ after) (inl is, rest) =
    first_kept a b apps after (subst (λ (x : Application). Kept a.children x.children) (sym is) (same_kept a.children)) (all_kept apps after rest)
all_kept (a ∷ apps) (b ∷ after) (inr (specs, is), rest) =
    first_kept a b apps after (subst (λ (x : Application). Kept a.children x.children) (sym is) (renewed_kept specs a.children)) (all_kept apps after rest)

pub renewed_live : (apps after : List Application) (t : Table) → AreRenewed apps after → ChildrenLive apps t → ChildrenLive after t
renewed_live apps after t are kept =
    let it = all_kept apps after are in
    record {
      live = λ spot p runs. kept.live (at spot.app (it.from spot.app spot.child)) p (it.was spot.app spot.child p runs);
      apart = λ one other p runs also.
          let same = kept.apart (at one.app (it.from one.app one.child)) (at other.app (it.from other.app other.child)) p (it.was one.app one.child p runs) (it.was other.app other.child p also) in
          let app : one.app ≡ other.app = ap (λ (s : Spot). s.app) same in
          let indices : it.from one.app one.child ≡ it.from one.app other.child =
          ap (λ (s : Spot). s.child) same ∙ ap (λ n. it.from n other.child) (sym app) in
          let there : runs_at (at one.app other.child) after ≡ Some p = ap (λ n. runs_at (at n other.child) after) app ∙ also in
          let child = it.apart one.app one.child other.child p p runs there indices in
          (λ i. record { app = app i; child = child i });
    }
