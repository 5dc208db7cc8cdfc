-- Each child is met once.
use Rattle.std.proofs.Common.{◌≡◌, ◌≤◌, ◌+◌, ℕ, zero, suc, Bool, false, true, List, [], ◌∷◌, ◌++◌, Some, refl, sym, ap, ◌∙◌, arith}
use Rattle.std.specs.Prelude.{All, ◌&&◌, ◌||◌, if◌then◌else◌, not}
use Rattle.std.specs.List.{AllPairs, list_any}
use Rattle.std.proofs.lemmas.List.Elements.{All-append, All-cons, All-head, All-nil, All-tail, All-weaker}
use Rattle.std.proofs.lemmas.List.Folds.{list_any-append}
use Rattle.app_table.proofs.Options.{false_true, some_is}
use Rattle.app_table.proofs.Walks.{all_if, in_whole, stands_there}
use Rattle.app_table.specs.Applications.{Application, child_at}
use Rattle.app_table.specs.Modules.{each_child, each_of, has_module, has_none, idle_for, is_named_in, startable, startable_for}
use Rattle.app_table.specs.declared.child.Child.{Child}
use Rattle.app_table.specs.declared.name.ChildName.{ChildName}
use Rattle.app_table.specs.declared.spot.Spot.{Spot}

abbrev pub Differ : Spot → Spot → Type 0
Differ p q = p ≡ q → ⊥

module _ {A : Type 0} (R : A → A → Type 0) where
  pairs_nil : AllPairs R []
  pairs_nil i j d below within = absurd (omega (arith, within))

  pairs_cons : (x : A) (xs : List A) → All (λ y. R x y) xs → AllPairs R xs → AllPairs R (x ∷ xs)
  pairs_cons x xs first rest i zero d below within = absurd (omega (arith, below))
  pairs_cons x xs first rest zero (suc j) d below within = first j d (omega (arith, within))
  pairs_cons x xs first rest (suc i) (suc j) d below within = rest i j d (omega (arith, below)) (omega (arith, within))

  pairs_head : (x : A) (xs : List A) → AllPairs R (x ∷ xs) → All (λ y. R x y) xs
  pairs_head x xs pairs k d within = pairs 0 (suc k) d (omega arith) (omega (arith, within))

  pairs_tail : (x : A) (xs : List A) → AllPairs R (x ∷ xs) → AllPairs R xs
  pairs_tail x xs pairs i j d below within = pairs (suc i) (suc j) d (omega (arith, below)) (omega (arith, within))

  pairs_append : (xs ys : List A) → AllPairs R xs → AllPairs R ys → All (λ x. All (λ y. R x y) ys) xs → AllPairs R (xs ++ ys)
  pairs_append [] ys firsts seconds across = seconds
  pairs_append (x ∷ xs) ys firsts seconds across =
      pairs_cons x (xs ++ ys) (All-append (λ y. R x y) xs ys (pairs_head x xs firsts) (All-head (λ z. All (λ y. R z y) ys) x xs across)) (pairs_append xs ys (pairs_tail x xs firsts) seconds (All-tail (λ z. All (λ y. R z y) ys) x xs across))

-- ---- under one module

module _ (f : Application → Spot → Child → List Spot) (only : (a : Application) (spot : Spot) (c : Child) → All (λ p. p ≡ spot) (f a spot c)) (once : (a : Application) (spot : Spot) (c : Child) → AllPairs Differ (f a spot c)) where
  abbrev From : ℕ → ℕ → Spot → Type 0
  From app k p = (p.app ≡ app) × (k ≤ p.child)

  low_children : (a : Application) (app k : ℕ) (cs : List Child) → All (From app k) (each_child f a app k cs)
  low_children a app k [] = All-nil (From app k)
  low_children a app k (c ∷ cs) =
      let spot : Spot = record { app = app; child = k } in
      All-append (From app k) (f a spot c) (each_child f a app (k + 1) cs)
      (All-weaker (λ p. p ≡ spot) (From app k) (λ p same. (ap (λ (q : Spot). q.app) same, let e : p.child ≡ k = ap (λ (q : Spot). q.child) same in omega (arith, e))) (f a spot c) (only a spot c))
      (All-weaker (From app (k + 1)) (From app k) (λ p low. (low.0, omega (arith, low.1))) (each_child f a app (k + 1) cs) (low_children a app (k + 1) cs))

  children_once : (a : Application) (app k : ℕ) (cs : List Child) → AllPairs Differ (each_child f a app k cs)
  children_once a app k [] = pairs_nil Differ
  children_once a app k (c ∷ cs) =
      let spot : Spot = record { app = app; child = k } in
      pairs_append Differ (f a spot c) (each_child f a app (k + 1) cs) (once a spot c) (children_once a app (k + 1) cs)
      (All-weaker (λ p. p ≡ spot) (λ p. All (λ q. Differ p q) (each_child f a app (k + 1) cs)) (λ p here. All-weaker (From app (k + 1)) (λ q. Differ p q) (λ q low same.
      let e : q.child ≡ k = ap (λ (s : Spot). s.child) (sym same ∙ here) in
      absurd (omega (arith, e, low.1))) (each_child f a app (k + 1) cs) (low_children a app (k + 1) cs)) (f a spot c) (only a spot c))

  low_apps : (k : ℕ) (apps : List Application) → All (λ p. k ≤ p.app) (each_of f k apps)
  low_apps k [] = All-nil (λ p. k ≤ p.app)
  low_apps k (a ∷ apps) =
      All-append (λ p. k ≤ p.app) (each_child f a k 0 a.children) (each_of f (k + 1) apps)
      (All-weaker (From k 0) (λ p. k ≤ p.app) (λ p low. omega (arith, low.0)) (each_child f a k 0 a.children) (low_children a k 0 a.children))
      (All-weaker (λ p. k + 1 ≤ p.app) (λ p. k ≤ p.app) (λ p low. omega (arith, low)) (each_of f (k + 1) apps) (low_apps (k + 1) apps))

  apps_once : (k : ℕ) (apps : List Application) → AllPairs Differ (each_of f k apps)
  apps_once k [] = pairs_nil Differ
  apps_once k (a ∷ apps) =
      pairs_append Differ (each_child f a k 0 a.children) (each_of f (k + 1) apps) (children_once a k 0 a.children) (apps_once (k + 1) apps)
      (All-weaker (From k 0) (λ p. All (λ q. Differ p q) (each_of f (k + 1) apps)) (λ p here. All-weaker (λ q. k + 1 ≤ q.app) (λ q. Differ p q) (λ q low same.
      let e : p.app ≡ q.app = ap (λ (s : Spot). s.app) same in
      absurd (omega (arith, e, here.0, low))) (each_of f (k + 1) apps) (low_apps (k + 1) apps)) (each_child f a k 0 a.children) (low_children a k 0 a.children))

only_if : (spot : Spot) (b : Bool) → All (λ p. p ≡ spot) (if b then spot ∷ [] else [])
only_if spot b = all_if (λ p. p ≡ spot) b (spot ∷ []) (All-cons (λ p. p ≡ spot) spot [] refl (All-nil (λ p. p ≡ spot)))

once_if : (spot : Spot) (b : Bool) → AllPairs Differ (if b then spot ∷ [] else [])
once_if spot true = pairs_cons Differ spot [] (All-nil (λ q. Differ spot q)) (pairs_nil Differ)
once_if spot false = pairs_nil Differ

-- ---- under several modules

-- the child at a spot has a module, or none of several
module _ (apps : List Application) where
  abbrev HasAt : List ℕ → Spot → Type 0
  HasAt m p = (c : Child) × (child_at p apps ≡ Some c) × (has_module m c ≡ true)

  abbrev NoneAt : List (List ℕ) → Spot → Type 0
  NoneAt before p = (c : Child) × (child_at p apps ≡ Some c) × (list_any (λ b. has_module b c) before ≡ false)

  abbrev FirstAt : List (List ℕ) → List ℕ → Spot → Type 0
  FirstAt before m p = HasAt m p × NoneAt before p

  first_if : (before : List (List ℕ)) (m : List ℕ) (spot : Spot) (c : Child) (s h x y z : Bool) → child_at spot apps ≡ Some c → has_module m c ≡ x → list_any (λ b. has_module b c) before ≡ y → All (FirstAt before m) (if s && h && (x && not y) && z then spot ∷ [] else [])
  first_if before m spot c false h x y z there has none = All-nil (FirstAt before m)
  first_if before m spot c true false x y z there has none = All-nil (FirstAt before m)
  first_if before m spot c true true false y z there has none = All-nil (FirstAt before m)
  first_if before m spot c true true true true z there has none = All-nil (FirstAt before m)
  first_if before m spot c true true true false z there has none =
      all_if (FirstAt before m) (true && true && (true && not false) && z) (spot ∷ []) (All-cons (FirstAt before m) spot [] ((c, there, has), (c, there, none)) (All-nil (FirstAt before m)))

  first_all : (names : List ChildName) (before : List (List ℕ)) (m : List ℕ) → All (FirstAt before m) (each_of (idle_for names before m) 0 apps)
  first_all names before m =
      in_whole (FirstAt before m) (idle_for names before m) apps (λ a spot c here there. first_if before m spot c a.is_started (has_none c.state) (has_module m c) (list_any (λ b. has_module b c) before) (is_named_in names a.spec.name c) (stands_there spot apps a c here there) refl refl)

  or_left : (a b : Bool) → (a || b) ≡ false → a ≡ false
  or_left true b none = none
  or_left false b none = refl

  or_right : (a b : Bool) → (a || b) ≡ false → b ≡ false
  or_right true b none = absurd (false_true (sym none))
  or_right false b none = none

  none_less : (before : List (List ℕ)) (m : List ℕ) (p : Spot) → NoneAt (before ++ m ∷ []) p → NoneAt before p
  none_less before m p (c, there, none) =
      let test = λ (b : List ℕ). has_module b c in
      (c, there, or_left (list_any test before) (list_any test (m ∷ [])) (sym (list_any-append test before (m ∷ [])) ∙ none))

  last_none : (before : List (List ℕ)) (m : List ℕ) (c : Child) → list_any (λ b. has_module b c) (before ++ m ∷ []) ≡ false → has_module m c ≡ false
  last_none before m c none =
      let test = λ (b : List ℕ). has_module b c in
      or_left (has_module m c) false (or_right (list_any test before) (list_any test (m ∷ [])) (sym (list_any-append test before (m ∷ [])) ∙ none))

  none_all : (names : List ChildName) (before ms : List (List ℕ)) → All (NoneAt before) (startable_for names before ms apps)
  none_all names before [] = All-nil (NoneAt before)
  none_all names before (m ∷ ms) =
      All-append (NoneAt before) (each_of (idle_for names before m) 0 apps) (startable_for names (before ++ m ∷ []) ms apps)
      (All-weaker (FirstAt before m) (NoneAt before) (λ p first. first.1) (each_of (idle_for names before m) 0 apps) (first_all names before m))
      (All-weaker (NoneAt (before ++ m ∷ [])) (NoneAt before) (none_less before m) (startable_for names (before ++ m ∷ []) ms apps) (none_all names (before ++ m ∷ []) ms))

  differ : (before : List (List ℕ)) (m : List ℕ) (p q : Spot) → FirstAt before m p → NoneAt (before ++ m ∷ []) q → Differ p q
  differ before m p q first (d, there, none) same =
      let one : d ≡ first.0.0 = some_is (sym there ∙ ap (λ (s : Spot). child_at s apps) (sym same) ∙ first.0.1) in
      false_true (sym (last_none before m d none) ∙ ap (has_module m) one ∙ first.0.2)

  startable_once : (names : List ChildName) (before ms : List (List ℕ)) → AllPairs Differ (startable_for names before ms apps)
  startable_once names before [] = pairs_nil Differ
  startable_once names before (m ∷ ms) =
      let firsts = each_of (idle_for names before m) 0 apps in
      let rest = startable_for names (before ++ m ∷ []) ms apps in
      pairs_append Differ firsts rest
      (apps_once (idle_for names before m) (λ a spot c. only_if spot (a.is_started && has_none c.state && (has_module m c && not (list_any (λ b. has_module b c) before)) && is_named_in names a.spec.name c)) (λ a spot c. once_if spot (a.is_started && has_none c.state && (has_module m c && not (list_any (λ b. has_module b c) before)) && is_named_in names a.spec.name c)) 0 apps)
      (startable_once names (before ++ m ∷ []) ms)
      (All-weaker (FirstAt before m) (λ p. All (λ q. Differ p q) rest) (λ p first. All-weaker (NoneAt (before ++ m ∷ [])) (λ q. Differ p q) (λ q none. differ before m p q first none) rest (none_all names (before ++ m ∷ []) ms)) firsts (first_all names before m))

pub all_found_once : (names : List ChildName) (ms : List (List ℕ)) (apps : List Application) → AllPairs Differ (startable names ms apps)
all_found_once names ms apps = startable_once apps names [] ms
