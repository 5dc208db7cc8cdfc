-- What is found so far, one more in each turn.
use Rattle.std.proofs.Common.{◌≡◌, ◌↔◌, ◌⊎◌, inl, inr, ℕ, zero, suc, ◌+◌, ◌<◌, ◌≤◌, List, [], ◌∷◌, ◌++◌, Contains, Option, None, Some}
use Rattle.std.proofs.Common.{Bool, true, false, cond, IsSome, length, refl, sym, subst, ap, arith, ◌∙◌, option_and_then}
use Rattle.std.proofs.lemmas.Bool.{cases_lt}
use Rattle.std.proofs.lemmas.List.Elements.{Contains-append_left, Contains-push, Contains-push_cases}
use Rattle.std.proofs.lemmas.Option.{slice_get_past, slice_get_within}
use Rattle.std.proofs.lemmas.Slice.Eq.{bytes_eq-Decides}
use Rattle.std.specs.List.{find, slice_get}
use Rattle.std.specs.Str.{bytes_eq}
use Rattle.node_views.specs.Changes.{process_of}
use Rattle.node_views.specs.declared.node_view.ModuleView.{ModuleView}
use Rattle.node_views.specs.declared.node_view.NodeView.{NodeView}
use Rattle.node_views.specs.declared.process_view.ProcessView.{ProcessView}

-- Pids that are below a bound, and have a property.
module _ (P : ℕ → Type 0) where
  abbrev pub Pids : List ℕ → ℕ → Type 0
  Pids items n = (p : ℕ) → Contains items p ↔ ((p < n) × P p)

  pub pid_found : (items : List ℕ) (n : ℕ) → Pids items n → P n → Pids (items ++ n ∷ []) (n + 1)
  pid_found items n so holds p = (
    (λ there. elim (Contains-push_cases items n p there) [
      | inl before ↦ (omega (arith, ((so p).0 before).0), ((so p).0 before).1)
      | inr same ↦ (omega (arith, same), subst P same holds)
    ]),
    (λ w. elim (cases_lt p n) [
      | inl below ↦ Contains-append_left items (n ∷ []) p ((so p).1 (below, w.1))
      | inr above ↦ let at : n ≡ p = omega (arith, w.0, above) in subst (Contains (items ++ n ∷ [])) at (Contains-push items n)
    ]),
  )

  pub pid_passed : (items : List ℕ) (n : ℕ) → Pids items n → (P n → ⊥) → Pids items (n + 1)
  pid_passed items n so fails p = (
    (λ there. (omega (arith, ((so p).0 there).0), ((so p).0 there).1)),
    (λ w. elim (cases_lt p n) [
      | inl below ↦ (so p).1 (below, w.1)
      | inr above ↦ let at : p ≡ n = omega (arith, w.0, above) in absurd (fails (subst P at w.1))
    ]),
  )

-- behind all pids of a view nobody lives
pub nobody_past : (v : NodeView) (pid : ℕ) → length v.processes ≤ pid → process_of pid v ≡ None
nobody_past v pid past = ap (λ (o : Option (Option ProcessView)). option_and_then (λ p. p) o) (slice_get_past v.processes pid past)

-- a module that is found by a name stands at an index, and has the name
stands_by : (m : ModuleView) (ms : List ModuleView) (name : List ℕ) (b : Bool) → bytes_eq m.name name ≡ b →
    ((i : ℕ) × (x : ModuleView) × (slice_get ms i ≡ Some x) × (x.name ≡ name)) ⊎ (b ≡ true) →
    (i : ℕ) × (x : ModuleView) × (slice_get (m ∷ ms) i ≡ Some x) × (x.name ≡ name)
stands_by m ms name b e (inl w) = (suc w.0, w.1, w.2, w.3)
stands_by m ms name b e (inr is) = (zero, m, refl, (bytes_eq-Decides m.name name).0 (e ∙ is))

later_or_here : (b : Bool) (m : ModuleView) (o : Option ModuleView) → IsSome (cond b (Some m) o) → IsSome o ⊎ (b ≡ true)
later_or_here true m o some = inr refl
later_or_here false m o some = inl some

stands : (ms : List ModuleView) (name : List ℕ) → IsSome (find (λ m. bytes_eq m.name name) ms) →
    (i : ℕ) × (m : ModuleView) × (slice_get ms i ≡ Some m) × (m.name ≡ name)
stands [] name none = let clash : false ≡ true = none in cc
stands (m ∷ ms) name some = stands_by m ms name (bytes_eq m.name name) refl
    (elim (later_or_here (bytes_eq m.name name) m (find (λ x. bytes_eq x.name name) ms) some) [
      | inl later ↦ inl (stands ms name later)
      | inr here ↦ inr here
    ])

-- and a module that stands at an index is found by its name
some_later : (b : Bool) (m : ModuleView) (o : Option ModuleView) → IsSome o → IsSome (cond b (Some m) o)
some_later true m o some = refl
some_later false m o some = some

pub is_found : (ms : List ModuleView) (i : ℕ) (m : ModuleView) → slice_get ms i ≡ Some m →
    IsSome (find (λ x. bytes_eq x.name m.name) ms)
is_found [] i m is = let clash : None ≡ Some m = is in cc
is_found (y ∷ ys) zero m is =
    let same : y ≡ m = (let there : Some y ≡ Some m = is in cc) in
    let alike : bytes_eq y.name m.name ≡ true = (bytes_eq-Decides y.name m.name).1 (ap (λ (x : ModuleView). x.name) same) in
    subst (λ b. IsSome (cond b (Some y) (find (λ x. bytes_eq x.name m.name) ys))) (sym alike) refl
is_found (y ∷ ys) (suc i) m is =
    some_later (bytes_eq y.name m.name) y (find (λ x. bytes_eq x.name m.name) ys) (is_found ys i m is)

-- Modules up to one, whose names have a property.
module _ (xs : List ModuleView) (P : List ℕ → Type 0) where
  abbrev pub UpTo : ℕ → List ℕ → Type 0
  UpTo n name =
      (i : ℕ) × (m : ModuleView) × (i < n) × (slice_get xs i ≡ Some m) × (m.name ≡ name) × P name

  abbrev pub Names : List (List ℕ) → List (List ℕ) → ℕ → Type 0
  Names old items n = (name : List ℕ) → Contains items name ↔ (Contains old name ⊎ UpTo n name)

  pub name_found : (old items : List (List ℕ)) (n : ℕ) (m : ModuleView) → slice_get xs n ≡ Some m → P m.name →
      Names old items n → Names old (items ++ m.name ∷ []) (n + 1)
  name_found old items n m is holds so name = (
    (λ there. elim (Contains-push_cases items m.name name there) [
      | inl before ↦ elim ((so name).0 before) [ inl was ↦ inl was | inr w ↦ inr (w.0, w.1, omega (arith, w.2), w.3, w.4, w.5) ]
      | inr same ↦ inr (n, m, omega arith, is, same, subst P same holds)
    ]),
    (λ both. elim both [
      | inl was ↦ Contains-append_left items (m.name ∷ []) name ((so name).1 (inl was))
      | inr w ↦ elim (cases_lt w.0 n) [
        | inl below ↦ Contains-append_left items (m.name ∷ []) name ((so name).1 (inr (w.0, w.1, below, w.3, w.4, w.5)))
        | inr above ↦
            let at : w.0 ≡ n = omega (arith, w.2, above) in
            let there : slice_get xs n ≡ Some w.1 = subst (λ i. slice_get xs i ≡ Some w.1) at w.3 in
            let same : m ≡ w.1 = cc in
            let named : m.name ≡ name = ap (λ (x : ModuleView). x.name) same ∙ w.4 in
            subst (Contains (items ++ m.name ∷ [])) named (Contains-push items m.name)
      ]
    ]),
  )

  pub name_passed : (old items : List (List ℕ)) (n : ℕ) (m : ModuleView) → slice_get xs n ≡ Some m → (P m.name → ⊥) →
      Names old items n → Names old items (n + 1)
  name_passed old items n m is fails so name = (
    (λ there. elim ((so name).0 there) [ inl was ↦ inl was | inr w ↦ inr (w.0, w.1, omega (arith, w.2), w.3, w.4, w.5) ]),
    (λ both. elim both [
      | inl was ↦ (so name).1 (inl was)
      | inr w ↦ elim (cases_lt w.0 n) [
        | inl below ↦ (so name).1 (inr (w.0, w.1, below, w.3, w.4, w.5))
        | inr above ↦
            let at : w.0 ≡ n = omega (arith, w.2, above) in
            let there : slice_get xs n ≡ Some w.1 = subst (λ i. slice_get xs i ≡ Some w.1) at w.3 in
            let same : w.1 ≡ m = cc in
            let named : name ≡ m.name = sym w.4 ∙ ap (λ (x : ModuleView). x.name) same in
            absurd (fails (subst P named w.5))
      ]
    ]),
  )

  -- behind the last one all have had their turn
  pub names_found : (old items : List (List ℕ)) (n : ℕ) → length xs ≤ n →
      ((name : List ℕ) → P name → IsSome (find (λ m. bytes_eq m.name name) xs)) → Names old items n →
      (name : List ℕ) → Contains items name ↔ (Contains old name ⊎ P name)
  names_found old items n past named so name = (
    (λ there. elim ((so name).0 there) [ inl was ↦ inl was | inr w ↦ inr w.5 ]),
    (λ both. elim both [
      | inl was ↦ (so name).1 (inl was)
      | inr holds ↦
          let w = stands xs name (named name holds) in
          (so name).1 (inr (w.0, w.1, (let within : w.0 < length xs = slice_get_within xs w.0 w.1 w.2 in omega (arith, within)), w.2, w.3, holds))
    ]),
  )
