-- States of children that are set, and set back from the last to the first.
use Rattle.std.proofs.Common.{◌≡◌, ◌<◌, ◌+◌, ℕ, zero, suc, ◌⊎◌, Bool, List, [], ◌∷◌, Option, None, Some, refl, sym, ap, ◌∙◌, inl, inr, arith, drop, get_or, length, map, slice_get}
use Rattle.std.proofs.lemmas.List.{drop_more}
use Rattle.std.specs.Prelude.{All, if◌then◌else◌, option_and_then}
use Rattle.std.proofs.lemmas.List.Elements.{All-head, All-map, All-tail}
use mathlib.Core.Logic.{⊎_elim}
use Rattle.values.proofs.Edits.{changed_at-same}
use Rattle.values.specs.Edits.{changed_at}
use Rattle.app_table.proofs.Options.{none_some}
use Rattle.app_table.specs.Applications.{Application, child_at, set_child, with_child}
use Rattle.app_table.specs.Changes.{AreNoted, RunsAs, all_run, all_stopped, at_spots}
use Rattle.app_table.specs.Children.{in_state}
use Rattle.app_table.specs.Undo.{all_unended, all_unrun}
use Rattle.app_table.specs.declared.child.Child.{Child}
use Rattle.app_table.specs.declared.child.ChildState.{ChildState}
use Rattle.app_table.specs.declared.child.ChildState.TheVariants.{Running, Due, Stopped}
use Rattle.app_table.specs.declared.spot.Spot.{Spot}
use Rattle.app_table.specs.declared.undo.ChildProcess.{ChildProcess}
use Rattle.app_table.specs.declared.undo.Rerun.{Rerun}

module _ {A : Type 0} where
  -- two changes at one index
  twice : (f g h : A → A) → ((x : A) → g (f x) ≡ h x) → (xs : List A) (i : ℕ) → changed_at g (changed_at f xs i) i ≡ changed_at h xs i
  twice f g h both [] i = refl
  twice f g h both (x ∷ xs) zero = ap (λ y. y ∷ xs) (both x)
  twice f g h both (x ∷ xs) (suc i) = ap (λ ys. x ∷ ys) (twice f g h both xs i)

  -- two changes in either order
  commute : (f g : A → A) (xs : List A) (i j : ℕ) → (i ≡ j → (x : A) → g (f x) ≡ f (g x)) → changed_at g (changed_at f xs i) j ≡ changed_at f (changed_at g xs j) i
  commute f g [] i j same = refl
  commute f g (x ∷ xs) zero zero same = ap (λ y. y ∷ xs) (same refl x)
  commute f g (x ∷ xs) zero (suc j) same = refl
  commute f g (x ∷ xs) (suc i) zero same = refl
  commute f g (x ∷ xs) (suc i) (suc j) same = ap (λ ys. x ∷ ys) (commute f g xs i j (λ e. same (ap suc e)))

abbrev setting : ChildState → ℕ → Application → Application
setting s index a = with_child (λ (b : Bool) (c : Child). in_state s c) index a

set_twice : (s t : ChildState) (p : Spot) (apps : List Application) → set_child t p (set_child s p apps) ≡ set_child t p apps
set_twice s t p apps =
    twice (setting s p.child) (setting t p.child) (setting t p.child) (λ (a : Application). ap (λ (cs : List Child). record a { children = cs }) (twice (in_state s) (in_state t) (in_state t) (λ c. refl) a.children p.child)) apps p.app

set_commute : (s t : ChildState) (p q : Spot) (apps : List Application) → (p.app ≡ q.app → p.child ≡ q.child → ⊥) → set_child t q (set_child s p apps) ≡ set_child s p (set_child t q apps)
set_commute s t p q apps differ =
    commute (setting s p.child) (setting t q.child) apps p.app q.app (λ here (a : Application). ap (λ (cs : List Child). record a { children = cs }) (commute (in_state s) (in_state t) a.children p.child q.child (λ there c. absurd (differ here there))))

nat_cases : (m n : ℕ) → (m ≡ n) ⊎ (m ≡ n → ⊥)
nat_cases zero zero = inl refl
nat_cases zero (suc n) = inr (λ e. absurd (omega arith))
nat_cases (suc m) zero = inr (λ e. absurd (omega arith))
nat_cases (suc m) (suc n) =
    ⊎_elim (λ (e : m ≡ n). inl (ap suc e)) (λ (d : m ≡ n → ⊥). inr (λ (e : suc m ≡ suc n). d (let f : m ≡ n = omega arith in f))) (nat_cases m n)

abbrev Apart : Spot → Spot → Type 0
Apart p q = p.app ≡ q.app → p.child ≡ q.child → ⊥

spot_cases : (p q : Spot) → (p ≡ q) ⊎ Apart p q
spot_cases p q =
    ⊎_elim
    (λ (here : p.app ≡ q.app). ⊎_elim
    (λ (there : p.child ≡ q.child). inl (ap (λ (n : ℕ). record p { app = n }) here ∙ ap (λ (n : ℕ). record q { child = n }) there))
    (λ (differ : p.child ≡ q.child → ⊥). inr (λ h t. differ t))
    (nat_cases p.child q.child))
    (λ (differ : p.app ≡ q.app → ⊥). inr (λ h t. differ h))
    (nat_cases p.app q.app)

-- Settings, each of a child at a spot: the first first, and the last first.

abbrev Setting : Type 0
Setting = Spot × ChildState

abbrev pub all_set : List Setting → List Application → List Application
all_set [] apps = apps
all_set (w ∷ ws) apps = all_set ws (set_child w.1 w.0 apps)

abbrev pub all_reset : List Setting → List Application → List Application
all_reset [] apps = apps
all_reset (w ∷ ws) apps = set_child w.1 w.0 (all_reset ws apps)

one_more : (x : ChildState) (p : Spot) (u : Setting) (t : List Application) → u.0 ≡ p → set_child x p (set_child u.1 u.0 t) ≡ set_child x p t
one_more x p u t same = ap (λ q. set_child x p (set_child u.1 q t)) same ∙ set_twice u.1 x p t

covered : (x y : ChildState) (p : Spot) (us : List Setting) (t : List Application) → set_child x p (all_reset us (set_child y p t)) ≡ set_child x p (all_reset us t)
covered x y p [] t = set_twice y x p t
covered x y p (u ∷ us) t =
    ⊎_elim
    (λ (same : u.0 ≡ p). one_more x p u (all_reset us (set_child y p t)) same ∙ covered x y p us t ∙ sym (one_more x p u (all_reset us t) same))
    (λ (differ : Apart u.0 p). set_commute u.1 x u.0 p (all_reset us (set_child y p t)) differ ∙ ap (λ (w : List Application). set_child u.1 u.0 w) (covered x y p us t) ∙ sym (set_commute u.1 x u.0 p (all_reset us t) differ))
    (spot_cases u.0 p)

-- what is set is set back
abbrev Covers : List Setting → List Setting → Type 0
Covers [] us = Unit {0}
Covers (w ∷ ws) [] = ⊥
Covers (w ∷ ws) (u ∷ us) = (w.0 ≡ u.0) × Covers ws us

reset_alike : (ws us : List Setting) → Covers ws us → (t : List Application) → all_reset us (all_set ws t) ≡ all_reset us t
reset_alike [] us covers t = refl
reset_alike (w ∷ ws) [] covers t = absurd covers
reset_alike (w ∷ ws) (u ∷ us) covers t =
    ap (λ (v : List Application). set_child u.1 u.0 v) (reset_alike ws us covers.1 (set_child w.1 w.0 t)) ∙ ap (λ q. set_child u.1 u.0 (all_reset us (set_child w.1 q t))) covers.0 ∙ covered u.1 w.1 u.0 us t

-- a child that is in a state
abbrev StandsIn : Setting → List Application → Type 0
StandsIn u apps = (c : Child) × (child_at u.0 apps ≡ Some c) × (c.state ≡ u.1)

set_same_in : (s : ChildState) (p : Spot) (apps : List Application) (c : Child) (o : Option Application) → slice_get apps p.app ≡ o → option_and_then (λ a. slice_get a.children p.child) o ≡ Some c → c.state ≡ s → set_child s p apps ≡ apps
set_same_in s p apps c None here at is = absurd (none_some at)
set_same_in s p apps c (Some a) here at is =
    changed_at-same (setting s p.child) apps p.app a here (ap (λ (cs : List Child). record a { children = cs }) (changed_at-same (in_state s) a.children p.child c at (ap (λ (z : ChildState). record c { state = z }) (sym is))))

as_before : (us : List Setting) (apps : List Application) → All (λ u. StandsIn u apps) us → all_reset us apps ≡ apps
as_before [] apps all = refl
as_before (u ∷ us) apps all =
    let first = All-head (λ v. StandsIn v apps) u us all in
    ap (λ (v : List Application). set_child u.1 u.0 v) (as_before us apps (All-tail (λ v. StandsIn v apps) u us all)) ∙ set_same_in u.1 u.0 apps first.0 (slice_get apps u.0.app) refl first.1 first.2

restored : (ws us : List Setting) (apps : List Application) → Covers ws us → All (λ u. StandsIn u apps) us → all_reset us (all_set ws apps) ≡ apps
restored ws us apps covers all = reset_alike ws us covers apps ∙ as_before us apps all

-- Children that are stopped run again.

abbrev stopping : ChildProcess → Setting
stopping c = (c.spot, Stopped)

abbrev running_on : ChildProcess → Setting
running_on c = (c.spot, Running c.pid)

all_stopped_is : (cs : List ChildProcess) (apps : List Application) → all_stopped cs apps ≡ all_set (map stopping cs) apps
all_stopped_is [] apps = refl
all_stopped_is (c ∷ cs) apps = all_stopped_is cs (set_child Stopped c.spot apps)

all_unended_is : (cs : List ChildProcess) (apps : List Application) → all_unended cs apps ≡ all_reset (map running_on cs) apps
all_unended_is [] apps = refl
all_unended_is (c ∷ cs) apps = ap (λ (v : List Application). set_child (Running c.pid) c.spot v) (all_unended_is cs apps)

stopping_covers : (cs : List ChildProcess) → Covers (map stopping cs) (map running_on cs)
stopping_covers [] = tt
stopping_covers (c ∷ cs) = (refl, stopping_covers cs)

pub stop_back : (cs : List ChildProcess) (apps : List Application) → All (λ c. RunsAs c apps) cs → all_unended cs (all_stopped cs apps) ≡ apps
stop_back cs apps all =
    ap (λ (v : List Application). all_unended cs v) (all_stopped_is cs apps) ∙ all_unended_is cs (all_set (map stopping cs) apps) ∙ restored (map stopping cs) (map running_on cs) apps (stopping_covers cs) (All-map (λ u. StandsIn u apps) running_on cs all)

-- Children that run have no process again.

abbrev noting : Rerun → Setting
noting r = (r.spot, if r.was_due then Due else Stopped)

all_run_is : (cs : List ChildProcess) (apps : List Application) → all_run cs apps ≡ all_set (map running_on cs) apps
all_run_is [] apps = refl
all_run_is (c ∷ cs) apps = all_run_is cs (set_child (Running c.pid) c.spot apps)

all_unrun_is : (rs : List Rerun) (apps : List Application) → all_unrun rs apps ≡ all_reset (map noting rs) apps
all_unrun_is [] apps = refl
all_unrun_is (r ∷ rs) apps = ap (λ (v : List Application). set_child (if r.was_due then Due else Stopped) r.spot v) (all_unrun_is rs apps)

running_covers : (rs : List Rerun) (pids : List ℕ) → Covers (map running_on (at_spots (map (λ r. r.spot) rs) pids)) (map noting rs)
running_covers [] pids = tt
running_covers (r ∷ rs) [] = tt
running_covers (r ∷ rs) (pid ∷ pids) = (refl, running_covers rs pids)

pub run_back : (rs : List Rerun) (pids : List ℕ) (apps : List Application) → AreNoted rs apps → all_unrun rs (all_run (at_spots (map (λ r. r.spot) rs) pids) apps) ≡ apps
run_back rs pids apps all =
    let cs = at_spots (map (λ (r : Rerun). r.spot) rs) pids in
    ap (λ (v : List Application). all_unrun rs v) (all_run_is cs apps) ∙ all_unrun_is rs (all_set (map running_on cs) apps) ∙ restored (map running_on cs) (map noting rs) apps (running_covers rs pids) (All-map (λ u. StandsIn u apps) noting rs all)

-- one more child runs
pub run_more : (rs : List Rerun) (pids : List ℕ) (k : ℕ) (d : Rerun) (e : ℕ) (apps after : List Application) → k < length rs → k < length pids → after ≡ set_child (Running (get_or pids k e)) (get_or rs k d).spot apps → all_run (at_spots (map (λ r. r.spot) (drop (k + 1) rs)) (drop (k + 1) pids)) after ≡ all_run (at_spots (map (λ r. r.spot) (drop k rs)) (drop k pids)) apps
run_more rs pids k d e apps after below within is =
    ap (λ (v : List Application). all_run (at_spots (map (λ (r : Rerun). r.spot) (drop (k + 1) rs)) (drop (k + 1) pids)) v) is ∙ sym (ap (λ (l : List Rerun). all_run (at_spots (map (λ (r : Rerun). r.spot) l) (drop k pids)) apps) (drop_more rs k d below) ∙ ap (λ (l : List ℕ). all_run (at_spots ((get_or rs k d).spot ∷ map (λ (r : Rerun). r.spot) (drop (k + 1) rs)) l) apps) (drop_more pids k e within))
