-- What is met on the way through all children.
use Rattle.std.proofs.Common.{◌≡◌, ◌<◌, ◌+◌, ℕ, suc, Bool, false, true, List, [], ◌∷◌, ◌++◌, Option, Some, refl, sym, ap, ◌∙◌, subst, arith, length, get_or, take, drop, append_assoc, slice_get}
use Rattle.std.specs.Prelude.{All, if◌then◌else◌, ◌&&◌, option_and_then}
use Rattle.std.proofs.lemmas.List.{drop_more, take_more}
use Rattle.std.proofs.lemmas.List.Elements.{All-append, All-cons, All-nil}
use Rattle.app_table.specs.Applications.{Application, child_at}
use Rattle.app_table.specs.Changes.{IsIdleAt, RunsAs}
use Rattle.app_table.specs.Modules.{as_process, each_child, each_of, has_none, idle_for, is_first_for, is_named_in, runs_for, running_for, running_with, startable, startable_for}
use Rattle.app_table.specs.declared.child.Child.{Child}
use Rattle.app_table.specs.declared.child.ChildState.{ChildState}
use Rattle.app_table.specs.declared.child.ChildState.TheVariants.{Running, Due, Stopped}
use Rattle.app_table.specs.declared.name.ChildName.{ChildName}
use Rattle.app_table.specs.declared.spot.Spot.{Spot}

-- what is found is put behind what was found, and the rest is left
pub one_step : {A : Type 0} (found found' front rest rest' whole : List A) → found' ≡ found ++ front → rest ≡ front ++ rest' → found ++ rest ≡ whole → found' ++ rest' ≡ whole
one_step found found' front rest rest' whole put parts all =
    ap (λ v. v ++ rest') put ∙ append_assoc found front rest' ∙ ap (λ v. found ++ v) (sym parts) ∙ all

pub running_more : (ms : List (List ℕ)) (k : ℕ) (m : List ℕ) (apps : List Application) → k < length ms → m ≡ get_or ms k m → running_for (take k ms) (drop k ms) apps ≡ each_of (runs_for (take k ms) m) 0 apps ++ running_for (take (k + 1) ms) (drop (k + 1) ms) apps
running_more ms k m apps within is =
    ap (λ t. running_for (take k ms) t apps) (drop_more ms k m within) ∙ ap (λ (z : List ℕ). each_of (runs_for (take k ms) z) 0 apps ++ running_for (take k ms ++ z ∷ []) (drop (k + 1) ms) apps) (sym is) ∙ ap (λ t. each_of (runs_for (take k ms) m) 0 apps ++ running_for t (drop (k + 1) ms) apps) (sym (take_more ms k m within ∙ ap (λ (z : List ℕ). take k ms ++ z ∷ []) (sym is)))

pub startable_more : (names : List ChildName) (ms : List (List ℕ)) (k : ℕ) (m : List ℕ) (apps : List Application) → k < length ms → m ≡ get_or ms k m → startable_for names (take k ms) (drop k ms) apps ≡ each_of (idle_for names (take k ms) m) 0 apps ++ startable_for names (take (k + 1) ms) (drop (k + 1) ms) apps
startable_more names ms k m apps within is =
    ap (λ t. startable_for names (take k ms) t apps) (drop_more ms k m within) ∙ ap (λ (z : List ℕ). each_of (idle_for names (take k ms) z) 0 apps ++ startable_for names (take k ms ++ z ∷ []) (drop (k + 1) ms) apps) (sym is) ∙ ap (λ t. each_of (idle_for names (take k ms) m) 0 apps ++ startable_for names t (drop (k + 1) ms) apps) (sym (take_more ms k m within ∙ ap (λ (z : List ℕ). take k ms ++ z ∷ []) (sym is)))

-- what holds of all that is found

module _ {A : Type 0} (P : A → Type 0) (f : Application → Spot → Child → List A) (whole : List Application) (holds : (a : Application) (spot : Spot) (c : Child) → slice_get whole spot.app ≡ Some a → slice_get a.children spot.child ≡ Some c → All P (f a spot c)) where
  in_children : (a : Application) (app : ℕ) → slice_get whole app ≡ Some a → (cs : List Child) (k : ℕ) → ((j : ℕ) (c : Child) → slice_get cs j ≡ Some c → slice_get a.children (k + j) ≡ Some c) → All P (each_child f a app k cs)
  in_children a app here [] k at = All-nil P
  in_children a app here (c ∷ cs) k at =
      let first : k + 0 ≡ k = omega arith in
      let spot : Spot = record { app = app; child = k } in
      All-append P (f a spot c) (each_child f a app (k + 1) cs)
      (holds a spot c here (subst (λ n. slice_get a.children n ≡ Some c) first (at 0 c refl)))
      (in_children a app here cs (k + 1) (λ j d e. subst (λ n. slice_get a.children n ≡ Some d) (let next : k + suc j ≡ (k + 1) + j = omega arith in next) (at (suc j) d e)))

  in_apps : (apps : List Application) (k : ℕ) → ((j : ℕ) (a : Application) → slice_get apps j ≡ Some a → slice_get whole (k + j) ≡ Some a) → All P (each_of f k apps)
  in_apps [] k at = All-nil P
  in_apps (a ∷ apps) k at =
      let first : k + 0 ≡ k = omega arith in
      All-append P (each_child f a k 0 a.children) (each_of f (k + 1) apps)
      (in_children a k (subst (λ n. slice_get whole n ≡ Some a) first (at 0 a refl)) a.children 0 (λ j c e. subst (λ n. slice_get a.children n ≡ Some c) (let same : j ≡ 0 + j = omega arith in same) e))
      (in_apps apps (k + 1) (λ j b e. subst (λ n. slice_get whole n ≡ Some b) (let next : k + suc j ≡ (k + 1) + j = omega arith in next) (at (suc j) b e)))

  pub in_whole : All P (each_of f 0 whole)
  in_whole = in_apps whole 0 (λ j a e. subst (λ n. slice_get whole n ≡ Some a) (let same : j ≡ 0 + j = omega arith in same) e)

pub all_if : {A : Type 0} (P : A → Type 0) (b : Bool) (xs : List A) → All P xs → All P (if b then xs else [])
all_if P true xs all = all
all_if P false xs all = All-nil P

pub stands_there : (spot : Spot) (apps : List Application) (a : Application) (c : Child) → slice_get apps spot.app ≡ Some a → slice_get a.children spot.child ≡ Some c → child_at spot apps ≡ Some c
stands_there spot apps a c here there =
    subst (λ (o : Option Application). option_and_then (λ b. slice_get b.children spot.child) o ≡ Some c) (sym here) there

-- those that run

as_process_runs : (spot : Spot) (apps : List Application) (c : Child) (s : ChildState) → child_at spot apps ≡ Some c → c.state ≡ s → All (λ it. RunsAs it apps) (as_process spot s)
as_process_runs spot apps c (Running pid) there is =
    All-cons (λ it. RunsAs it apps) (record { spot = spot; pid = pid }) [] (c, there, is) (All-nil (λ it. RunsAs it apps))
as_process_runs spot apps c Due there is = All-nil (λ it. RunsAs it apps)
as_process_runs spot apps c Stopped there is = All-nil (λ it. RunsAs it apps)

running_all : (before ms : List (List ℕ)) (apps : List Application) → All (λ it. RunsAs it apps) (running_for before ms apps)
running_all before [] apps = All-nil (λ it. RunsAs it apps)
running_all before (m ∷ ms) apps =
    All-append (λ it. RunsAs it apps) (each_of (runs_for before m) 0 apps) (running_for (before ++ m ∷ []) ms apps)
    (in_whole (λ it. RunsAs it apps) (runs_for before m) apps (λ a spot c here there. all_if (λ it. RunsAs it apps) (is_first_for before m c) (as_process spot c.state) (as_process_runs spot apps c c.state (stands_there spot apps a c here there) refl)))
    (running_all (before ++ m ∷ []) ms apps)

pub all_found_run : (ms : List (List ℕ)) (apps : List Application) → All (λ it. RunsAs it apps) (running_with ms apps)
all_found_run ms apps = running_all [] ms apps

-- those that have no process

idle_if : (spot : Spot) (apps : List Application) (c : Child) (s h x y : Bool) → child_at spot apps ≡ Some c → has_none c.state ≡ h → All (λ it. IsIdleAt it apps) (if s && h && x && y then spot ∷ [] else [])
idle_if spot apps c false h x y there is = All-nil (λ it. IsIdleAt it apps)
idle_if spot apps c true false x y there is = All-nil (λ it. IsIdleAt it apps)
idle_if spot apps c true true x y there is =
    all_if (λ it. IsIdleAt it apps) (true && true && x && y) (spot ∷ []) (All-cons (λ it. IsIdleAt it apps) spot [] (c, there, is) (All-nil (λ it. IsIdleAt it apps)))

startable_all : (names : List ChildName) (before ms : List (List ℕ)) (apps : List Application) → All (λ it. IsIdleAt it apps) (startable_for names before ms apps)
startable_all names before [] apps = All-nil (λ it. IsIdleAt it apps)
startable_all names before (m ∷ ms) apps =
    All-append (λ it. IsIdleAt it apps) (each_of (idle_for names before m) 0 apps) (startable_for names (before ++ m ∷ []) ms apps)
    (in_whole (λ it. IsIdleAt it apps) (idle_for names before m) apps (λ a spot c here there. idle_if spot apps c a.is_started (has_none c.state) (is_first_for before m c) (is_named_in names a.spec.name c) (stands_there spot apps a c here there) refl))
    (startable_all names (before ++ m ∷ []) ms apps)

pub all_found_idle : (names : List ChildName) (ms : List (List ℕ)) (apps : List Application) → All (λ it. IsIdleAt it apps) (startable names ms apps)
all_found_idle names ms apps = startable_all names [] ms apps
