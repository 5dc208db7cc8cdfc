-- What is noted of pids, one after the other, and of the members of a list.
use Rattle.std.proofs.Common.{◌≡◌, ◌∙◌, ◌⊎◌, inl, inr, ℕ, ◌+◌, ◌<◌, ◌≤◌, List, Contains, Option, None, Some, Result, OnOk, length, refl, sym, ap, subst, arith}
use Rattle.std.proofs.lemmas.Bool.{cases_lt}
use Rattle.std.proofs.lemmas.Option.{get_or_from_slice_get, slice_get_read, slice_get_within}
use Rattle.upgrade_review.proofs.Adding.{adds_alike, adds_both, adds_nothing}
use Rattle.upgrade_review.proofs.Noting.{on_ok}
use Rattle.upgrade_review.specs.Gathering.{Adds, FromEach}
use Rattle.node_views.specs.declared.node_view.NodeView.{NodeView}
use Rattle.rehearsals.specs.Observing.{IsOnBoot, IsOnReturn}
use Rattle.rehearsals.specs.declared.observing.Observation.{Observation}
use Rattle.rehearsals.specs.declared.way.Boot.{Boot}
use Rattle.rehearsals.specs.declared.way.Returned.{Returned}

module _ {F : Type 0} (D : ℕ → Type 0) (make : ℕ → F) where
  abbrev pub Below : ℕ → F → Type 0
  Below n o = (p : ℕ) × (p < n) × D p × (o ≡ make p)

  abbrev pub Any : F → Type 0
  Any o = (p : ℕ) × D p × (o ≡ make p)

  pub pid_noted : (n : ℕ) (old between new : List F) → D n → Adds (Below n) old between → Adds (λ o. o ≡ make n) between new →
      Adds (Below (n + 1)) old new
  pid_noted n old between new holds before here = adds_alike (λ o. Below n o ⊎ (o ≡ make n)) (Below (n + 1)) old new
      (λ o both. elim both [ inl w ↦ (w.0, omega (arith, w.1), w.2, w.3) | inr is ↦ (n, omega arith, holds, is) ])
      (λ o w. elim (cases_lt w.0 n) [
        | inl below ↦ inl (w.0, below, w.2, w.3)
        | inr above ↦ let at : w.0 ≡ n = omega (arith, w.1, above) in inr (w.3 ∙ ap make at)
      ])
      (adds_both (Below n) (λ o. o ≡ make n) old between new before here)

  pub pid_passed : (n : ℕ) (old new : List F) → (D n → ⊥) → Adds (Below n) old new → Adds (Below (n + 1)) old new
  pid_passed n old new fails before = adds_alike (Below n) (Below (n + 1)) old new
      (λ o w. (w.0, omega (arith, w.1), w.2, w.3))
      (λ o w. elim (cases_lt w.0 n) [
        | inl below ↦ (w.0, below, w.2, w.3)
        | inr above ↦ let at : w.0 ≡ n = omega (arith, w.1, above) in absurd (fails (subst D at w.2))
      ])
      before

  pub pids_noted : (n : ℕ) (old new : List F) → ((p : ℕ) → n ≤ p → D p → ⊥) → Adds (Below n) old new → Adds Any old new
  pids_noted n old new past all = adds_alike (Below n) Any old new
      (λ o w. (w.0, w.2, w.3))
      (λ o w. elim (cases_lt w.0 n) [ inl below ↦ (w.0, below, w.1, w.2) | inr above ↦ absurd (past w.0 above w.1) ])
      all

-- of each member of a list
pub members_noted : {X F : Type 0} (R : X → F → Type 0) (xs : List X) (old new : List F) →
    Adds (FromEach (λ i x. R x) xs) old new → Adds (λ o. (x : X) × Contains xs x × R x o) old new
members_noted {X} {F} R xs old new all = adds_alike (FromEach (λ i x. R x) xs) (λ o. (x : X) × Contains xs x × R x o) old new
    (λ o w. (w.1, (w.0, slice_get_within xs w.0 w.1 w.2, get_or_from_slice_get xs w.0 w.1 w.1 w.2), w.3))
    (λ o w. ((w.1).0, w.0, slice_get_read xs (length xs) (w.1).0 w.0 refl (w.1).1 (sym (w.1).2), w.2))
    all

-- of an optional value, if there is one
pub on_some : {T E X F : Type 0} (r : Result T E) (R : X → F → Type 0) (o : Option X) (x : X) (old new : List F) → o ≡ Some x →
    OnOk r (Adds (R x) old new) → OnOk r (Adds (λ f. (y : X) × (o ≡ Some y) × R y f) old new)
on_some {T} {E} {X} {F} r R o x old new is on =
    on_ok r (Adds (R x) old new) (Adds (λ f. (y : X) × (o ≡ Some y) × R y f) old new)
    (λ adds. adds_alike (R x) (λ f. (y : X) × (o ≡ Some y) × R y f) old new (λ f w. (x, is, w))
    (λ f w. let same : w.0 ≡ x = (let both : Some w.0 ≡ Some x = sym w.1 ∙ is in cc) in subst (λ y. R y f) same w.2) adds) on

pub on_none : {X F : Type 0} (R : X → F → Type 0) (o : Option X) (found : List F) → o ≡ None →
    Adds (λ f. (y : X) × (o ≡ Some y) × R y f) found found
on_none {X} {F} R o found is = adds_nothing (λ f. (y : X) × (o ≡ Some y) × R y f) found
    (λ f w. let clash : Some w.0 ≡ None = sym w.1 ∙ is in cc)

-- one is noted if this holds, and else nothing

pub noted_if : {T E F : Type 0} (r : Result T E) (D : F → Type 0) (P : Type 0) (one : F) (old new : List F) → P →
    ((f : F) → D f → f ≡ one) → ((f : F) → f ≡ one → P → D f) → OnOk r (Adds (λ f. f ≡ one) old new) → OnOk r (Adds D old new)
noted_if {T} {E} {F} r D P one old new holds only is on = on_ok r (Adds (λ f. f ≡ one) old new) (Adds D old new)
    (λ adds. adds_alike (λ f. f ≡ one) D old new (λ f same. is f same holds) only adds) on

-- of what was seen of both ways without traffic
pub on_return : {T E : Type 0} (r : Result T E) (before : NodeView) (seen returned : Returned) (old new : List Observation) →
    returned ≡ seen → OnOk r (Adds (IsOnReturn before seen) old new) → OnOk r (Adds (IsOnReturn before returned) old new)
on_return r before seen returned old new is on = subst (λ s. OnOk r (Adds (IsOnReturn before s) old new)) (sym is) on

-- of the boot of the release that is installed
pub on_boot : {T E : Type 0} (r : Result T E) (seen it : Boot) (old new : List Observation) → it ≡ seen →
    OnOk r (Adds (IsOnBoot seen) old new) → OnOk r (Adds (IsOnBoot it) old new)
on_boot r seen it old new is on = subst (λ b. OnOk r (Adds (IsOnBoot b) old new)) (sym is) on
