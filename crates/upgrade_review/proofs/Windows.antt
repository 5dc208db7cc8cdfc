-- Windows of points: at most one begins at a point, and it depends only on what holds at the points.
use Rattle.std.proofs.Common.{◌≡◌, ◌∙◌, ℕ, ◌+◌, ◌-◌, ◌<◌, ◌≤◌, Bool, true, false, List, Option, None, Some, ◌⊎◌, inl, inr}
use Rattle.std.proofs.Common.{arith, refl, sym, ap, subst, true≢false}
use Rattle.std.proofs.lemmas.Bool.{cases_lt}
use Rattle.low_instructions.specs.declared.modules.Direction.{Direction}
use Rattle.upgrade_review.proofs.Adding.{adds_alike, adds_both, adds_nothing}
use Rattle.upgrade_review.specs.Calls.{Ends, IsWindow, IsWindowFinding, IsWindowFrom}
use Rattle.upgrade_review.specs.Gathering.{Adds}
use Rattle.upgrade_review.specs.declared.finding.Finding.{Finding}
use Rattle.upgrade_review.specs.declared.interface.Call.{Call}

both_never : (b : Bool) → b ≡ true → b ≡ false → ⊥
both_never b is never = true≢false (sym is ∙ never)

-- at most one window begins at a point
pub only_window : (holds : ℕ → Bool) (last from : ℕ) (to other : Option ℕ) → IsWindow holds last from to →
    IsWindow holds last from other → other ≡ to
only_window holds last from None None one another = refl
only_window holds last from None (Some t) one another =
    let ends : (from < t) × (t ≤ last) × (holds t ≡ false) = another.end in
    absurd (both_never (holds t) (one.all t (omega arith) ends.1 tt) ends.2)
only_window holds last from (Some s) None one another =
    let ends : (from < s) × (s ≤ last) × (holds s ≡ false) = one.end in
    absurd (both_never (holds s) (another.all s (omega arith) ends.1 tt) ends.2)
only_window holds last from (Some s) (Some t) one another =
    let first : (from < s) × (s ≤ last) × (holds s ≡ false) = one.end in
    let second : (from < t) × (t ≤ last) × (holds t ≡ false) = another.end in
    elim (cases_lt s t) [
      | inl below ↦ absurd (both_never (holds s) (another.all s (omega arith) first.1 below) first.2)
      | inr above ↦ elim (cases_lt t s) [
        | inl below ↦ absurd (both_never (holds t) (one.all t (omega arith) second.1 below) second.2)
        | inr under ↦ let same : t ≡ s = omega arith in ap Some same
      ]
    ]

-- a window begins at a point at which something holds, and doesn't hold at the point before
pub holds_first : (holds : ℕ → Bool) (last from : ℕ) (to : Option ℕ) → IsWindow holds last from to → holds from ≡ true
holds_first holds last from None it = it.all from (omega arith) it.within tt
holds_first holds last from (Some t) it =
    let ends : (from < t) × (t ≤ last) × (holds t ≡ false) = it.end in
    it.all from (omega arith) it.within ends.0

-- the same, by what holds at the points
ends_alike : (holds other : ℕ → Bool) (last from : ℕ) (to : Option ℕ) → ((i : ℕ) → i ≤ last → holds i ≡ other i) →
    Ends holds last from to → Ends other last from to
ends_alike holds other last from None same ends = tt
ends_alike holds other last from (Some t) same ends = (ends.0, ends.1, sym (same t ends.1) ∙ ends.2)

pub window_alike : (holds other : ℕ → Bool) (last from : ℕ) (to : Option ℕ) → ((i : ℕ) → i ≤ last → holds i ≡ other i) →
    IsWindow holds last from to → IsWindow other last from to
window_alike holds other last from to same it = record {
  begin = λ some. (let before : from - 1 ≤ last = omega (arith, it.within) in sym (same (from - 1) before) ∙ it.begin some);
  all = λ i above below inside. sym (same i below) ∙ it.all i above below inside;
  within = it.within;
  end = ends_alike holds other last from to same it.end;
}

pub finding_alike : (way : Direction) (holds other : ℕ → Bool) (last : ℕ) (caller : List ℕ) (k : Call) (f : Finding) →
    ((i : ℕ) → i ≤ last → holds i ≡ other i) → IsWindowFinding way holds last caller k f → IsWindowFinding way other last caller k f
finding_alike way holds other last caller k f same w =
    (w.0, (w.1.0, window_alike holds other last w.0 w.1.0 same w.1.1, w.1.2, w.1.3))

-- What is found of a number, for each number below a bound.

abbrev pub Below : {F : Type 0} → (ℕ → F → Type 0) → ℕ → F → Type 0
Below {F} R n f = (i : ℕ) × (i < n) × R i f

module _ {F : Type 0} (R : ℕ → F → Type 0) where
  pub below_none : (found : List F) → Adds (Below R 0) found found
  below_none found = adds_nothing (Below R 0) found (λ f none. omega (arith, none.1))

  more : (n : ℕ) (f : F) → Below R n f ⊎ R n f → Below R (n + 1) f
  more n f either = elim either [ inl w ↦ (w.0, omega (arith, w.1), w.2) | inr here ↦ (n, omega arith, here) ]

  less : (n : ℕ) (f : F) → Below R (n + 1) f → Below R n f ⊎ R n f
  less n f w = elim (cases_lt w.0 n) [
    | inl below ↦ inl (w.0, below, w.2)
    | inr above ↦ let at : w.0 ≡ n = omega (arith, w.1) in inr (subst (λ i. R i f) at w.2)
  ]

  pub below_more : (n : ℕ) (old between new : List F) → Adds (Below R n) old between → Adds (R n) between new →
      Adds (Below R (n + 1)) old new
  below_more n old between new before here =
      adds_alike (λ f. Below R n f ⊎ R n f) (Below R (n + 1)) old new (more n) (less n)
      (adds_both (Below R n) (R n) old between new before here)

  pub below_all : (n : ℕ) (old new : List F) → ((i : ℕ) (f : F) → R i f → i < n) → Adds (Below R n) old new →
      Adds (λ f. (i : ℕ) × R i f) old new
  below_all n old new within = adds_alike (Below R n) (λ f. (i : ℕ) × R i f) old new
      (λ f w. (w.0, w.2)) (λ f w. (w.0, within w.0 f w.1, w.1))

-- A window begins within the points.
pub begins_within : (way : Direction) (holds : ℕ → Bool) (last from : ℕ) (caller : List ℕ) (k : Call) (f : Finding) →
    IsWindowFrom way holds last from caller k f → from ≤ last
begins_within way holds last from caller k f w = w.1.within
