-- Which children run, before and after a step of the applications.
use Rattle.std.proofs.Common.{◌≡◌, ◌<◌, ◌+◌, ◌⊎◌, ◌∙◌, ℕ, zero, suc, All, Bool, true, false, cond, if◌then◌else◌, List, [], ◌∷◌}
use Rattle.std.proofs.Common.{length, position, slice_get, Option, None, Some, is_some, option_and_then, option_map, refl, sym}
use Rattle.std.proofs.Common.{ap, subst, arith, eqb-true, inl, inr}
use Rattle.std.proofs.Math.Bool.{not}
use Rattle.std.proofs.lemmas.Bool.{cases_eq, eq-eqb, true≢false}
use Rattle.std.proofs.lemmas.Grind.{common_steps}
use Rattle.std.proofs.lemmas.List.Elements.{All-cons, All-nil}
use Rattle.std.proofs.lemmas.Option.{none-some, same_Some}
use Rattle.std.specs.List.{position_or_len}
use Rattle.erl_term.specs.declared.term.Term.{Term}
use Rattle.values.specs.Edits.{changed_at}
use Rattle.app_table.proofs.Spots.{by_pid, found}
use Rattle.app_table.specs.Applications.{Application, all_ended, changed_child, changed_if, child_at, ended, has_process}
use Rattle.app_table.specs.Applications.{index_of, revived, set_child, spot_by_pid, spot_in, spot_of, started, started_at}
use Rattle.app_table.specs.Applications.{with_children}
use Rattle.app_table.specs.Changes.{all_run, at_spots}
use Rattle.app_table.specs.Children.{after_end, in_state, runs_as, runs_in}
use Rattle.app_table.specs.Ordered.{pid_in}
use Rattle.app_table.specs.declared.child.Child.{Child}
use Rattle.app_table.specs.declared.child.ChildState.{ChildState}
use Rattle.app_table.specs.declared.child.ChildState.TheVariants.{Running, Due, Stopped}
use Rattle.app_table.specs.declared.spot.Spot.{Spot}
use Rattle.children_live.specs.Children.{runs_at}

-- the pid of a child, where there is one, and where it runs
abbrev pub runs_of : Option Child → Option ℕ
runs_of o = option_and_then (λ c. pid_in c.state) o

-- the pid of the child at an index of an application, where there is one, and where it runs
abbrev pub runs_in_app : ℕ → Option Application → Option ℕ
runs_in_app child o = runs_of (option_and_then (λ a. slice_get a.children child) o)

-- no two children run as one process
abbrev pub Apart : List Application → Type 0
Apart apps = (one other : Spot) (pid : ℕ) → runs_at one apps ≡ Some pid → runs_at other apps ≡ Some pid → one ≡ other

abbrev pub at : ℕ → ℕ → Spot
at app child = record { app = app; child = child }

-- two spots are one, or differ
spots : (one other : Spot) → (one ≡ other) ⊎ (one.app ≡ other.app → one.child ≡ other.child → ⊥)
spots one other =
    elim (cases_eq one.app other.app) [
      | inl same ↦ elim (cases_eq one.child other.child) [
        | inl also ↦ inl (λ i. record { app = same i; child = also i })
        | inr differ ↦ inr (λ _ also. differ also)
      ]
      | inr differ ↦ inr (λ same _. differ same)
    ]

-- What passes a test is found by it.

module _ {A : Type 0} (p : A → Bool) where
  within : (xs : List A) (k : ℕ) (x : A) → slice_get xs k ≡ Some x → p x ≡ true → position_or_len p xs < length xs
  within [] k x there passes = absurd (none-some x there)
  within (y ∷ ys) zero x there passes =
      let is : p y ≡ true = ap p (same_Some y x there) ∙ passes in
      subst (λ b. cond (not b) (1 + position_or_len p ys) 0 < length (y ∷ ys)) (sym is) (omega arith)
  within (y ∷ ys) (suc k) x there passes =
      let rest : position_or_len p ys < length ys = within ys k x there passes in
      elim (p y) as (λ b. cond (not b) (1 + position_or_len p ys) 0 < length (y ∷ ys)) [
        | true ↦ omega arith
        | false ↦ omega (arith, rest)
      ]

  passes_somewhere : (xs : List A) (k : ℕ) (x : A) → slice_get xs k ≡ Some x → p x ≡ true → is_some (position p xs) ≡ true
  passes_somewhere xs k x there passes =
      let before : position_or_len p xs < length xs = within xs k x there passes in
      grind (arith, common_steps, before)

-- A child that is changed so that it runs as a process, or doesn't run; and the others.

pub elsewhere : {A : Type 0} (f : A → A) (xs : List A) (p k : ℕ) → (k ≡ p → ⊥) → slice_get (changed_at f xs p) k ≡ slice_get xs k
elsewhere f [] p k differs = refl
elsewhere f (x ∷ xs) zero zero differs = absurd (differs refl)
elsewhere f (x ∷ xs) zero (suc k) differs = refl
elsewhere f (x ∷ xs) (suc p) zero differs = refl
elsewhere f (x ∷ xs) (suc p) (suc k) differs = elsewhere f xs p k (λ same. differs (ap suc same))

module _ (f : Bool → Child → Child) (o : Option ℕ) (gives : (b : Bool) (c : Child) → pid_in (f b c).state ≡ o) where
  row_here : (b : Bool) (row : List Child) (k pid : ℕ) → runs_of (slice_get (changed_at (f b) row k) k) ≡ Some pid → o ≡ Some pid
  row_here b [] k pid runs = absurd (none-some pid runs)
  row_here b (c ∷ cs) zero pid runs = sym (gives b c) ∙ runs
  row_here b (c ∷ cs) (suc k) pid runs = row_here b cs k pid runs

  changed_here : (apps : List Application) (app child pid : ℕ) →
      runs_at (at app child) (changed_child f (at app child) apps) ≡ Some pid → o ≡ Some pid
  changed_here [] app child pid runs = absurd (none-some pid runs)
  changed_here (a ∷ others) zero child pid runs = row_here a.is_started a.children child pid runs
  changed_here (a ∷ others) (suc app) child pid runs = changed_here others app child pid runs

  changed_elsewhere : (apps : List Application) (app child i k : ℕ) → (i ≡ app → k ≡ child → ⊥) →
      child_at (at i k) (changed_child f (at app child) apps) ≡ child_at (at i k) apps
  changed_elsewhere [] app child i k differs = refl
  changed_elsewhere (a ∷ others) zero child zero k differs =
      elsewhere (f a.is_started) a.children child k (λ same. differs refl same)
  changed_elsewhere (a ∷ others) zero child (suc i) k differs = refl
  changed_elsewhere (a ∷ others) (suc app) child zero k differs = refl
  changed_elsewhere (a ∷ others) (suc app) child (suc i) k differs =
      changed_elsewhere others app child i k (λ same also. differs (ap suc same) also)

  changed_from : (its : Spot) (apps : List Application) (spot : Spot) (p : ℕ) → runs_at spot (changed_child f its apps) ≡ Some p →
      ((spot ≡ its) × (o ≡ Some p)) ⊎ ((runs_at spot apps ≡ Some p) × (spot ≡ its → ⊥))
  changed_from its apps spot p runs =
      elim (spots spot its) [
        | inl here ↦
            let there = subst (λ s. runs_at s (changed_child f its apps) ≡ Some p) here runs in
            inl (here, changed_here apps its.app its.child p there)
        | inr differs ↦
            let same = changed_elsewhere apps its.app its.child spot.app spot.child differs in
            let apart = λ (e : spot ≡ its). differs (ap (λ (s : Spot). s.app) e) (ap (λ (s : Spot). s.child) e) in
            inr (sym (ap runs_of same) ∙ runs, apart)
      ]

-- A child is put into a state: it runs as that says, and each other as before.
pub set_from : (state : ChildState) (its : Spot) (apps : List Application) (spot : Spot) (p : ℕ) →
    runs_at spot (set_child state its apps) ≡ Some p →
    ((spot ≡ its) × (pid_in state ≡ Some p)) ⊎ ((runs_at spot apps ≡ Some p) × (spot ≡ its → ⊥))
set_from state its apps spot p runs =
    changed_from (λ b c. in_state state c) (pid_in state) (λ b c. refl) its apps spot p runs

-- Several run as processes: each runs as one that it is given, and each other as before.
pub run_from : (given : List Spot) (pids : List ℕ) (apps : List Application) (spot : Spot) (p : ℕ) →
    runs_at spot (all_run (at_spots given pids) apps) ≡ Some p →
    (runs_at spot apps ≡ Some p) ⊎ ((k : ℕ) × (slice_get given k ≡ Some spot) × (slice_get pids k ≡ Some p))
run_from [] pids apps spot p runs = inl runs
run_from (its ∷ others) [] apps spot p runs = inl runs
run_from (its ∷ others) (pid ∷ pids) apps spot p runs =
    elim (run_from others pids (set_child (Running pid) its apps) spot p runs) [
      | inl next ↦ elim (set_from (Running pid) its apps spot p next) [
        | inl here ↦ inr (0, ap (λ s. Some s) (sym here.0), here.1)
        | inr was ↦ inl was.0
      ]
      | inr found ↦ inr (suc found.0, found.1, found.2)
    ]

-- A child that runs as a process is found by its pid.

state_runs : (pid : ℕ) (s : ChildState) → pid_in s ≡ Some pid → runs_in pid s ≡ true
state_runs pid (Running its) is = eq-eqb its pid (same_Some its pid is)
state_runs pid Due is = absurd (none-some pid is)
state_runs pid Stopped is = absurd (none-some pid is)

runs_state : (pid : ℕ) (s : ChildState) → runs_in pid s ≡ true → pid_in s ≡ Some pid
runs_state pid (Running its) runs = ap (λ n. Some n) (eqb-true its pid runs)
runs_state pid Due runs = absurd (true≢false (sym runs))
runs_state pid Stopped runs = absurd (true≢false (sym runs))

found_runs : (pid : ℕ) (apps : List Application) (spot : Spot) → spot_by_pid pid apps ≡ Some spot → runs_at spot apps ≡ Some pid
found_runs pid apps spot is =
    let (c, stands, runs) = by_pid pid apps spot is in
    ap runs_of stands ∙ runs_state pid c.state runs

in_row : (pid : ℕ) (row : List Child) (k : ℕ) → runs_of (slice_get row k) ≡ Some pid → is_some (position (runs_as pid) row) ≡ true
in_row pid row k runs =
    elim (slice_get row k) as (λ o. slice_get row k ≡ o → runs_of o ≡ Some pid → is_some (position (runs_as pid) row) ≡ true) [
      | None ↦ λ there runs. absurd (none-some pid runs)
      | Some c ↦ λ there runs. passes_somewhere (runs_as pid) row k c there (state_runs pid c.state runs)
    ] refl runs

in_app : (pid : ℕ) (apps : List Application) (app child : ℕ) (o : Option Application) → slice_get apps app ≡ o →
    runs_in_app child o ≡ Some pid → is_some (position (has_process pid) apps) ≡ true
in_app pid apps app child None there runs = absurd (none-some pid runs)
in_app pid apps app child (Some a) there runs =
    passes_somewhere (has_process pid) apps app a there (in_row pid a.children child runs)

in_apps : (pid : ℕ) (apps : List Application) (spot : Spot) →
    runs_at spot apps ≡ Some pid → is_some (position (has_process pid) apps) ≡ true
in_apps pid apps spot runs = in_app pid apps spot.app spot.child (slice_get apps spot.app) refl runs

none_mapped : {A B : Type 0} (f : A → B) (o : Option A) → is_some o ≡ true → option_map f o ≡ None → ⊥
none_mapped f None some none = true≢false (sym some)
none_mapped f (Some x) some none = none-some (f x) (sym none)

no_spot_in : (pid app : ℕ) (apps : List Application) (a : Application) → slice_get apps app ≡ Some a →
    has_process pid a ≡ true → spot_in (runs_as pid) app apps ≡ None → ⊥
no_spot_in pid app apps a there has none =
    let found = λ (o : Option Application). option_and_then (λ a. position (runs_as pid) a.children) o in
    none_mapped (λ child. at app child) (position (runs_as pid) a.children) has
    (subst (λ o. option_map (λ child. at app child) (found o) ≡ None) there none)

no_process : (pid : ℕ) (apps : List Application) → spot_by_pid pid apps ≡ None → (spot : Spot) → runs_at spot apps ≡ Some pid → ⊥
no_process pid apps none spot runs =
    elim (position (has_process pid) apps) as (λ o. position (has_process pid) apps ≡ o → ⊥) [
      | None ↦ λ nowhere. true≢false (sym (in_apps pid apps spot runs) ∙ ap is_some nowhere)
      | Some app ↦ λ there.
          let (a, here, has) = found (has_process pid) apps app there in
          let nothing = subst (λ o. option_and_then (λ app. spot_in (runs_as pid) app apps) o ≡ None) there none in
          no_spot_in pid app apps a here has nothing
    ] refl

-- Where a process ends, no child runs as it, and each other runs as before.

no_pid_in : (b : Bool) → pid_in (if b then Due else Stopped) ≡ None
no_pid_in true = refl
no_pid_in false = refl

ended_at : (reason : Term) (pid : ℕ) (apps : List Application) → Apart apps → (o : Option Spot) → spot_by_pid pid apps ≡ o →
    (spot : Spot) (p : ℕ) → runs_at spot (changed_if (λ b c. after_end b reason c) o apps) ≡ Some p →
    (runs_at spot apps ≡ Some p) × (p ≡ pid → ⊥)
ended_at reason pid apps apart None nowhere spot p runs =
    (runs, λ same. no_process pid apps nowhere spot (runs ∙ ap (λ n. Some n) same))
ended_at reason pid apps apart (Some its) there spot p runs =
    elim (changed_from (λ b c. after_end b reason c) None (λ b c. no_pid_in _) its apps spot p runs) [
      | inl here ↦ absurd (none-some p here.1)
      | inr was ↦
          let one = λ (same : p ≡ pid). apart spot its pid (was.0 ∙ ap (λ n. Some n) same) (found_runs pid apps its there) in
          (was.0, λ same. was.1 (one same))
    ]

pub ended_from : (reason : Term) (pid : ℕ) (apps : List Application) → Apart apps → (spot : Spot) (p : ℕ) →
    runs_at spot (ended reason pid apps) ≡ Some p → (runs_at spot apps ≡ Some p) × (p ≡ pid → ⊥)
ended_from reason pid apps apart spot p runs = ended_at reason pid apps apart (spot_by_pid pid apps) refl spot p runs

pub ended_apart : (reason : Term) (pid : ℕ) (apps : List Application) → Apart apps → Apart (ended reason pid apps)
ended_apart reason pid apps apart one other p runs also =
    apart one other p (ended_from reason pid apps apart one p runs).0 (ended_from reason pid apps apart other p also).0

pub all_ended_from : (reason : Term) (pids : List ℕ) (apps : List Application) → Apart apps → (spot : Spot) (p : ℕ) →
    runs_at spot (all_ended reason pids apps) ≡ Some p → (runs_at spot apps ≡ Some p) × All (λ q. p ≡ q → ⊥) pids
all_ended_from reason [] apps apart spot p runs = (runs, All-nil (λ q. p ≡ q → ⊥))
all_ended_from reason (pid ∷ pids) apps apart spot p runs =
    let (first, others) = all_ended_from reason pids (ended reason pid apps) (ended_apart reason pid apps apart) spot p runs in
    let (was, differs) = ended_from reason pid apps apart spot p first in
    (was, All-cons (λ q. p ≡ q → ⊥) pid pids differs others)

pub all_ended_apart : (reason : Term) (pids : List ℕ) (apps : List Application) → Apart apps → Apart (all_ended reason pids apps)
all_ended_apart reason [] apps apart = apart
all_ended_apart reason (pid ∷ pids) apps apart =
    all_ended_apart reason pids (ended reason pid apps) (ended_apart reason pid apps apart)

-- A child is revived: it runs as another process, and each other as before.

revived_at : (pid : ℕ) (apps : List Application) (o : Option Spot) (spot : Spot) (p : ℕ) →
    runs_at spot (changed_if (λ b c. in_state (Running pid) c) o apps) ≡ Some p →
    (runs_at spot apps ≡ Some p) ⊎ ((o ≡ Some spot) × (pid ≡ p))
revived_at pid apps None spot p runs = inl runs
revived_at pid apps (Some its) spot p runs =
    elim (set_from (Running pid) its apps spot p runs) [
      | inl here ↦ inr (ap (λ s. Some s) (sym here.0), same_Some pid p here.1)
      | inr was ↦ inl was.0
    ]

pub revived_from : (name : List ℕ) (id : Term) (pid : ℕ) (apps : List Application) (spot : Spot) (p : ℕ) →
    runs_at spot (revived name id pid apps) ≡ Some p →
    (runs_at spot apps ≡ Some p) ⊎ ((spot_of name id apps ≡ Some spot) × (pid ≡ p))
revived_from name id pid apps spot p runs = revived_at pid apps (spot_of name id apps) spot p runs

-- An application starts: its children run as they are given, and those of each other as before.

started_here : (children : List Child) (apps : List Application) (index k p : ℕ) →
    runs_at (at index k) (changed_at (with_children true children) apps index) ≡ Some p → runs_of (slice_get children k) ≡ Some p
started_here children [] index k p runs = absurd (none-some p runs)
started_here children (a ∷ others) zero k p runs = runs
started_here children (a ∷ others) (suc index) k p runs = started_here children others index k p runs

started_in : (children : List Child) (apps : List Application) (o : Option ℕ) (spot : Spot) (p : ℕ) →
    runs_at spot (started_at o children apps) ≡ Some p →
    (runs_at spot apps ≡ Some p) ⊎ ((o ≡ Some spot.app) × (runs_of (slice_get children spot.child) ≡ Some p))
started_in children apps None spot p runs = inl runs
started_in children apps (Some index) spot p runs =
    let start = with_children true children in
    elim (cases_eq spot.app index) [
      | inl here ↦
          let there = subst (λ n. runs_at (at n spot.child) (changed_at start apps index) ≡ Some p) here runs in
          inr (ap (λ n. Some n) (sym here), started_here children apps index spot.child p there)
      | inr differs ↦ inl (ap (runs_in_app spot.child) (sym (elsewhere start apps index spot.app differs)) ∙ runs)
    ]

pub started_from : (name : List ℕ) (children : List Child) (apps : List Application) (spot : Spot) (p : ℕ) →
    runs_at spot (started name children apps) ≡ Some p →
    (runs_at spot apps ≡ Some p) ⊎ ((index_of name apps ≡ Some spot.app) × (runs_of (slice_get children spot.child) ≡ Some p))
started_from name children apps spot p runs = started_in children apps (index_of name apps) spot p runs
