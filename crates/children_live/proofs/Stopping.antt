-- Children stop, with the applications that stop: none of them runs, and each other runs as before.
use Rattle.std.proofs.Common.{◌≡◌, ◌∙◌, ℕ, zero, suc, All, List, [], ◌∷◌, filter_map, get_or, map, reverse, slice_get}
use Rattle.std.proofs.Common.{Option, None, Some, refl, sym, ap, subst, inl, inr}
use Rattle.std.proofs.lemmas.Bool.{cases_eq}
use Rattle.std.proofs.lemmas.List.Elements.{All-cons, All-map, All-nil}
use Rattle.std.proofs.lemmas.List.Sorted.{All-permutation, IsPermutation-reverse}
use Rattle.std.proofs.lemmas.Option.{none-some}
use Rattle.std.specs.List.{cons_option}
use Rattle.app_table.proofs.Walks.{all_found_run}
use Rattle.app_table.specs.Applications.{Application, index_of, set_child}
use Rattle.app_table.specs.Changes.{RunsAs, all_stopped, app_stopped, children_of, ending_order, pids_back, stopped}
use Rattle.app_table.specs.Children.{in_state}
use Rattle.app_table.specs.Modules.{running_with}
use Rattle.app_table.specs.Ordered.{pid_in}
use Rattle.app_table.specs.declared.child.Child.{Child}
use Rattle.app_table.specs.declared.child.ChildState.TheVariants.{Stopped}
use Rattle.app_table.specs.declared.spot.Spot.{Spot}
use Rattle.app_table.specs.declared.undo.ChildProcess.{ChildProcess}
use Rattle.children_live.proofs.Children.{Apart, at, elsewhere, runs_in_app, runs_of, set_from}
use Rattle.children_live.proofs.Lives.{vacated_on}
use Rattle.children_live.specs.Children.{ChildrenLive, runs_at}
use Rattle.process_effects.specs.Ends.{all_vacated}
use Rattle.process_store.specs.Table.{Table}
use Rattle.sys_protocol.specs.Stopping.{app_pids, app_pids_at, app_stopped_at, stopped_app, to_stop}

-- Some children stop.

abbrev NoneAt : List ChildProcess → Spot → Type 0
NoneAt cs spot = All (λ c. spot ≡ c.spot → ⊥) cs

stopped_from : (cs : List ChildProcess) (apps : List Application) (spot : Spot) (p : ℕ) →
    runs_at spot (all_stopped cs apps) ≡ Some p → (runs_at spot apps ≡ Some p) × NoneAt cs spot
stopped_from [] apps spot p runs = (runs, All-nil (λ (c : ChildProcess). spot ≡ c.spot → ⊥))
stopped_from (c ∷ cs) apps spot p runs =
    let (next, others) = stopped_from cs (set_child Stopped c.spot apps) spot p runs in
    elim (set_from Stopped c.spot apps spot p next) [
      | inl here ↦ absurd (none-some p here.1)
      | inr was ↦ (was.0, All-cons (λ (c : ChildProcess). spot ≡ c.spot → ⊥) c cs was.1 others)
    ]

-- a child that runs as one of their processes stands at its spot
runs_there : (c : ChildProcess) (apps : List Application) → RunsAs c apps → runs_at c.spot apps ≡ Some c.pid
runs_there c apps (child, there, is) = ap runs_of there ∙ ap pid_in is

no_process_of : (cs : List ChildProcess) (apps : List Application) → Apart apps → All (λ c. RunsAs c apps) cs →
    (spot : Spot) (p : ℕ) → runs_at spot apps ≡ Some p → NoneAt cs spot → All (λ c. p ≡ c.pid → ⊥) cs
no_process_of cs apps apart stand spot p runs others k d below =
    let c = get_or cs k d in
    let its = runs_there c apps (stand k d below) in
    (λ same. others k d below (apart spot c.spot p runs (its ∙ ap (λ q. Some q) (sym same))))

pub stopped_live : (modules : List (List ℕ)) (apps : List Application) (t : Table) → ChildrenLive apps t →
    ChildrenLive (all_stopped (running_with modules apps) apps) (all_vacated (to_stop modules apps) t)
stopped_live modules apps t kept =
    let cs = running_with modules apps in
    record {
      live = λ spot p runs.
          let (was, others) = stopped_from cs apps spot p runs in
          let stay = no_process_of cs apps kept.apart (all_found_run modules apps) spot p was others in
          let leave = All-map (λ q. p ≡ q → ⊥) (λ (c : ChildProcess). c.pid) cs stay in
          vacated_on (to_stop modules apps) t p leave (kept.live spot p was);
      apart = λ one other p runs also.
          kept.apart one other p (stopped_from cs apps one p runs).0 (stopped_from cs apps other p also).0;
    }

-- An application stops.

none_stopped : (row : List Child) (k p : ℕ) → runs_of (slice_get (map (in_state Stopped) row) k) ≡ Some p → ⊥
none_stopped [] k p runs = none-some p runs
none_stopped (c ∷ cs) zero p runs = none-some p runs
none_stopped (c ∷ cs) (suc k) p runs = none_stopped cs k p runs

none_in : (apps : List Application) (index k p : ℕ) → runs_at (at index k) (app_stopped index apps) ≡ Some p → ⊥
none_in [] index k p runs = none-some p runs
none_in (a ∷ others) zero k p runs = none_stopped a.children k p runs
none_in (a ∷ others) (suc index) k p runs = none_in others index k p runs

app_stopped_from : (index : ℕ) (apps : List Application) (spot : Spot) (p : ℕ) →
    runs_at spot (app_stopped index apps) ≡ Some p → (runs_at spot apps ≡ Some p) × (spot.app ≡ index → ⊥)
app_stopped_from index apps spot p runs =
    elim (cases_eq spot.app index) [
      | inl here ↦
          let there = subst (λ n. runs_at (at n spot.child) (app_stopped index apps) ≡ Some p) here runs in
          absurd (none_in apps index spot.child p there)
      | inr differs ↦ (ap (runs_in_app spot.child) (sym (elsewhere stopped apps index spot.app differs)) ∙ runs, differs)
    ]

-- its processes are those as which its children run

with_pid : (P : ℕ → Type 0) (o : Option ℕ) (pids : List ℕ) → ((p : ℕ) → o ≡ Some p → P p) → All P pids →
    All P (cons_option o pids)
with_pid P None pids holds all = all
with_pid P (Some p) pids holds all = All-cons P p pids (holds p refl) all

row_pids : (P : ℕ → Type 0) (row : List Child) → ((k p : ℕ) → runs_of (slice_get row k) ≡ Some p → P p) →
    All P (filter_map (λ c. pid_in c.state) row)
row_pids P [] holds = All-nil P
row_pids P (c ∷ cs) holds =
    let rest = row_pids P cs (λ k. holds (suc k)) in
    with_pid P (pid_in c.state) (filter_map (λ c. pid_in c.state) cs) (holds 0) rest

ending : (P : ℕ → Type 0) (o : Option Application) → ((k p : ℕ) → runs_in_app k o ≡ Some p → P p) →
    All P (pids_back (children_of o))
ending P None holds = All-nil P
ending P (Some a) holds =
    let pids = filter_map (λ (c : Child). pid_in c.state) a.children in
    All-permutation P pids (reverse pids) (IsPermutation-reverse pids) (row_pids P a.children holds)

not_ending : (index : ℕ) (apps : List Application) → Apart apps → (spot : Spot) (p : ℕ) → runs_at spot apps ≡ Some p →
    (spot.app ≡ index → ⊥) → All (λ q. p ≡ q → ⊥) (ending_order index apps)
not_ending index apps apart spot p runs differs =
    ending (λ q. p ≡ q → ⊥) (slice_get apps index) (λ k q its same.
    let one = apart spot (at index k) p runs (its ∙ ap (λ n. Some n) (sym same)) in
    differs (ap (λ (s : Spot). s.app) one))

at_stopped_live : (o : Option ℕ) (apps : List Application) (t : Table) → ChildrenLive apps t →
    ChildrenLive (app_stopped_at o apps) (all_vacated (app_pids_at o apps) t)
at_stopped_live None apps t kept = kept
at_stopped_live (Some index) apps t kept = record {
  live = λ spot p runs.
      let (was, differs) = app_stopped_from index apps spot p runs in
      let leave = not_ending index apps kept.apart spot p was differs in
      vacated_on (ending_order index apps) t p leave (kept.live spot p was);
  apart = λ one other p runs also.
      kept.apart one other p (app_stopped_from index apps one p runs).0 (app_stopped_from index apps other p also).0;
}

pub stopped_app_live : (name : List ℕ) (apps : List Application) (t : Table) → ChildrenLive apps t →
    ChildrenLive (stopped_app name apps) (all_vacated (app_pids name apps) t)
stopped_app_live name apps t kept = at_stopped_live (index_of name apps) apps t kept
