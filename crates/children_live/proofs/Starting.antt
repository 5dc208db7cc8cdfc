-- Each child that starts is a process of its own, which lives.
use Rattle.std.proofs.Common.{◌≡◌, ◌<◌, ◌∙◌, ℕ, zero, suc, List, [], ◌∷◌, map, slice_get, Option, None, Some, refl, sym, ap}
use Rattle.std.proofs.Common.{subst, arith, inl, inr}
use Rattle.std.proofs.lemmas.Option.{none-some, same_Some}
use Rattle.std.specs.Prelude.{IsSome}
use Rattle.app_table.specs.Applications.{Application, loaded, revived, started}
use Rattle.app_table.specs.Changes.{all_run, at_spots}
use Rattle.app_table.specs.Modules.{startable}
use Rattle.app_table.specs.declared.child.Child.{Child}
use Rattle.app_table.specs.declared.name.ChildName.{ChildName}
use Rattle.app_table.specs.declared.spot.Spot.{Spot}
use Rattle.child_specs.specs.declared.child.ChildSpec.{ChildSpec}
use Rattle.erl_semantics.specs.declared.instance.Instance.{Instance}
use Rattle.erl_semantics.specs.declared.outcome.Outcome.{Outcome}
use Rattle.erl_term.specs.declared.term.Term.{Term}
use Rattle.otp_files.specs.declared.app.AppSpec.{AppSpec}
use Rattle.otp_files.specs.declared.app.StartModule.{StartModule}
use Rattle.process_effects.specs.declared.told.Reply.{Reply}
use Rattle.process_store.specs.Table.{Table, living, next_pid}
use Rattle.sys_protocol.specs.AppStarts.{initialized}
use Rattle.sys_protocol.specs.ChildStarts.{AllStart, Restarts, StartsChild, after_start, named_by}
use Rattle.sys_protocol.specs.Refusals.{RunsStartModule}
use Rattle.sys_protocol.specs.RunningChildren.{all_running}
use Rattle.sys_protocol.specs.StartResults.{name_fault, name_in, starts}
use Rattle.sys_protocol.specs.Stopping.{StartAgain, to_start}
use Rattle.children_live.proofs.Children.{at, revived_from, run_from, runs_of, started_from}
use Rattle.children_live.proofs.Lives.{LiveOn, begun_lives, begun_on, faultless_starts, given}
use Rattle.children_live.specs.Children.{ChildrenLive, runs_at}

-- Processes start: everybody lives on, and those that were started, by their indices, live, are above all that lived, and differ.
pub record HaveStarted (t : Table) (pids : ℕ → Option ℕ) (after : Table) : Type 0 where
  pub on : LiveOn t after
  pub live : (k pid : ℕ) → pids k ≡ Some pid → IsSome (living pid after)
  pub above : (k pid q : ℕ) → pids k ≡ Some pid → IsSome (living q t) → q < pid
  pub differ : (j k pid : ℕ) → pids j ≡ Some pid → pids k ≡ Some pid → j ≡ k

-- none
nobody_started : (t : Table) (pids : ℕ → Option ℕ) → ((k : ℕ) → pids k ≡ None) → HaveStarted t pids t
nobody_started t pids none = record {
  on = λ q lives. lives;
  live = λ k pid is. absurd (none-some pid (sym (none k) ∙ is));
  above = λ k pid q is lives. absurd (none-some pid (sym (none k) ∙ is));
  differ = λ j k pid is also. absurd (none-some pid (sym (none j) ∙ is));
}

-- one and then others

first_of_all : (P : ℕ → Type 0) (pid : ℕ) (pids : List ℕ) → P pid → ((k q : ℕ) → slice_get pids k ≡ Some q → P q) → (k q : ℕ) →
    slice_get (pid ∷ pids) k ≡ Some q → P q
first_of_all P pid pids holds others zero q is = subst P (same_Some pid q is) holds
first_of_all P pid pids holds others (suc k) q is = others k q is

first_differs : (pid : ℕ) (pids : List ℕ) → ((k q : ℕ) → slice_get pids k ≡ Some q → pid < q) →
    ((j k q : ℕ) → slice_get pids j ≡ Some q → slice_get pids k ≡ Some q → j ≡ k) → (j k q : ℕ) →
    slice_get (pid ∷ pids) j ≡ Some q → slice_get (pid ∷ pids) k ≡ Some q → j ≡ k
first_differs pid pids above differ zero zero q is also = refl
first_differs pid pids above differ zero (suc k) q is also =
    let same : pid ≡ q = same_Some pid q is in
    let below = above k q also in
    absurd (omega (arith, same, below))
first_differs pid pids above differ (suc j) zero q is also =
    let same : pid ≡ q = same_Some pid q also in
    let below = above j q is in
    absurd (omega (arith, same, below))
first_differs pid pids above differ (suc j) (suc k) q is also = ap suc (differ j k q is also)

start_lives : (code : List Instance) (c : ChildSpec) (t : Table) (o : Outcome) → StartsChild code c t o →
    IsSome (living (next_pid t) (after_start code o t))
start_lives code c t o does =
    let does_start = faultless_starts (next_pid t) (starts o.acts) o.end (name_fault (name_in o.acts) t) does.faultless in
    begun_lives (named_by o) code o.acts t does_start

pub children_start : (code : List Instance) (cs : List ChildSpec) (t : Table) (pids : List ℕ) (after : Table) →
    (told : List Reply) → AllStart code cs t pids after told → HaveStarted t (slice_get pids) after
children_start code [] t [] after told all =
    subst (λ u. HaveStarted t (slice_get []) u) (sym all.0) (nobody_started t (slice_get []) (λ k. refl))
children_start code [] t (pid ∷ pids) after told all = absurd all
children_start code (c ∷ cs) t [] after told all = absurd all
children_start code (c ∷ cs) t (pid ∷ pids) after told (is, (o, others, does, rest, tells)) =
    let next = after_start code o t in
    let first : LiveOn t next = begun_on (named_by o) code o.acts t in
    let tail : HaveStarted next (slice_get pids) after = children_start code cs next pids after others rest in
    let here : IsSome (living pid next) = subst (λ p. IsSome (living p next)) (sym is) (start_lives code c t o does) in
    record {
      on = λ q lives. tail.on q (first q lives);
      live = first_of_all (λ p. IsSome (living p after)) pid pids (tail.on pid here) tail.live;
      above = λ k p q at lives.
          let below = subst (λ r. q < r) (sym is) (given q t lives) in
          first_of_all (λ r. q < r) pid pids below (λ j r there. tail.above j r q there (first q lives)) k p at;
      differ = first_differs pid pids (λ k q there. tail.above k q pid there here) tail.differ;
    }

-- Children that run as they are given have their pids.
all_running_at : (cs : List ChildSpec) (pids : List ℕ) (k p : ℕ) → runs_of (slice_get (all_running cs pids) k) ≡ Some p →
    slice_get pids k ≡ Some p
all_running_at [] pids k p runs = absurd (none-some p runs)
all_running_at (c ∷ cs) [] k p runs = absurd (none-some p runs)
all_running_at (c ∷ cs) (pid ∷ pids) zero p runs = runs
all_running_at (c ∷ cs) (pid ∷ pids) (suc k) p runs = all_running_at cs pids k p runs

abbrev pub pids_of : List Child → ℕ → Option ℕ
pids_of children k = runs_of (slice_get children k)

pub app_runs : (code : List Instance) (o : Option StartModule) (t : Table) (children : List Child) (after : Table) →
    (told : List Reply) → RunsStartModule code o t children after told → HaveStarted t (pids_of children) after
app_runs code None t children after told (none, same, tells) =
    let nothing = λ (k : ℕ). ap (λ cs. pids_of cs k) none in
    subst (λ u. HaveStarted t (pids_of children) u) (sym same) (nobody_started t (pids_of children) nothing)
app_runs code (Some m) t children after told runs =
    let (pids, all, are) = runs.all_run in
    let mid = initialized code runs.outcome t in
    let first : LiveOn t mid = begun_on None code runs.outcome.acts t in
    let have : HaveStarted mid (slice_get pids) after = children_start code runs.specs mid pids after runs.others all in
    let pid_at : (k p : ℕ) → pids_of children k ≡ Some p → slice_get pids k ≡ Some p = λ k p is.
    all_running_at runs.specs pids k p (subst (λ cs. pids_of cs k ≡ Some p) are is) in
    record {
      on = λ q lives. have.on q (first q lives);
      live = λ k p is. have.live k p (pid_at k p is);
      above = λ k p q is lives. have.above k p q (pid_at k p is) (first q lives);
      differ = λ j k p is also. have.differ j k p (pid_at j p is) (pid_at k p also);
    }

-- An application starts.
pub started_live : (name : List ℕ) (children : List Child) (apps : List Application) (t after : Table) →
    HaveStarted t (pids_of children) after → ChildrenLive apps t → ChildrenLive (started name children apps) after
started_live name children apps t after have kept = record {
  live = λ spot p runs.
      elim (started_from name children apps spot p runs) [
        | inl was ↦ have.on p (kept.live spot p was)
        | inr its ↦ have.live spot.child p its.1
      ];
  apart = λ one other p runs also.
      elim (started_from name children apps one p runs) [
        | inl was ↦ elim (started_from name children apps other p also) [
          | inl too ↦ kept.apart one other p was too
          | inr its ↦ let past = have.above other.child p p its.1 (kept.live one p was) in absurd (omega (arith, past))
        ]
        | inr mine ↦ elim (started_from name children apps other p also) [
          | inl too ↦ let past = have.above one.child p p mine.1 (kept.live other p too) in absurd (omega (arith, past))
          | inr its ↦
              let app : one.app ≡ other.app = same_Some one.app other.app (sym mine.0 ∙ its.0) in
              let child = have.differ one.child other.child p mine.1 its.1 in
              (λ i. record { app = app i; child = child i })
        ]
      ];
}

-- Children run as processes that have started.
all_run_live : (given : List Spot) (pids : List ℕ) (apps : List Application) (t after : Table) →
    HaveStarted t (slice_get pids) after → ChildrenLive apps t → ChildrenLive (all_run (at_spots given pids) apps) after
all_run_live given pids apps t after have kept = record {
  live = λ spot p runs.
      elim (run_from given pids apps spot p runs) [
        | inl was ↦ have.on p (kept.live spot p was)
        | inr its ↦ have.live its.0 p its.2
      ];
  apart = λ one other p runs also.
      elim (run_from given pids apps one p runs) [
        | inl was ↦ elim (run_from given pids apps other p also) [
          | inl too ↦ kept.apart one other p was too
          | inr its ↦ let past = have.above its.0 p p its.2 (kept.live one p was) in absurd (omega (arith, past))
        ]
        | inr mine ↦ elim (run_from given pids apps other p also) [
          | inl too ↦ let past = have.above mine.0 p p mine.2 (kept.live other p too) in absurd (omega (arith, past))
          | inr its ↦ same_Some one other (sym mine.1 ∙ ap (slice_get given) (have.differ mine.0 its.0 p mine.2 its.2) ∙ its.1)
        ]
      ];
}

-- before any is started no child runs

loaded_runs : (specs : List AppSpec) (app child : ℕ) → runs_at (at app child) (map loaded specs) ≡ None
loaded_runs [] app child = refl
loaded_runs (s ∷ ss) zero child = refl
loaded_runs (s ∷ ss) (suc app) child = loaded_runs ss app child

pub loaded_live : (specs : List AppSpec) (t : Table) → ChildrenLive (map loaded specs) t
loaded_live specs t = record {
  live = λ spot p runs. absurd (none-some p (sym (loaded_runs specs spot.app spot.child) ∙ runs));
  apart = λ one other p runs also. absurd (none-some p (sym (loaded_runs specs one.app one.child) ∙ runs));
}

-- Children start again.
pub start_again_live : (code : List Instance) (names : List ChildName) (modules : List (List ℕ)) (apps : List Application) →
    (t : Table) (apps_after : List Application) (after : Table) (told : List Reply) →
    StartAgain code names modules apps t apps_after after told → ChildrenLive apps t → ChildrenLive apps_after after
start_again_live code names modules apps t apps_after after told start kept =
    let pids = start.pids in
    let have : HaveStarted t (slice_get pids) after =
    children_start code (to_start names modules apps) t pids after told start.start in
    let run = all_run_live (startable names modules apps) pids apps t after have kept in
    subst (λ (xs : List Application). ChildrenLive xs after) (sym start.run) run

-- A child is revived.
pub revived_live : (code : List Instance) (c : ChildSpec) (t : Table) (pid : ℕ) (after : Table) (told : List Reply) →
    (name : List ℕ) (id : Term) (apps : List Application) →
    Restarts code c t pid after told → ChildrenLive apps t → ChildrenLive (revived name id pid apps) after
revived_live code c t pid after told name id apps (is, (o, does, made, tells)) kept =
    let next = after_start code o t in
    let on : LiveOn t after = λ q lives.
    subst (λ (u : Table). IsSome (living q u)) (sym made) (begun_on (named_by o) code o.acts t q lives) in
    let first : IsSome (living pid next) = subst (λ p. IsSome (living p next)) (sym is) (start_lives code c t o does) in
    let here : IsSome (living pid after) = subst (λ (u : Table). IsSome (living pid u)) (sym made) first in
    let fresh : (p : ℕ) → IsSome (living p t) → pid ≡ p → ⊥ = λ p lives same.
    (let below = given p t lives in absurd (omega (arith, below, same, is))) in
    record {
      live = λ spot p runs.
          elim (revived_from name id pid apps spot p runs) [
            | inl was ↦ on p (kept.live spot p was)
            | inr its ↦ subst (λ q. IsSome (living q after)) its.1 here
          ];
      apart = λ one other p runs also.
          elim (revived_from name id pid apps one p runs) [
            | inl was ↦ elim (revived_from name id pid apps other p also) [
              | inl too ↦ kept.apart one other p was too
              | inr its ↦ absurd (fresh p (kept.live one p was) its.1)
            ]
            | inr mine ↦ elim (revived_from name id pid apps other p also) [
              | inl too ↦ absurd (fresh p (kept.live other p too) mine.1)
              | inr its ↦ same_Some one other (sym mine.0 ∙ its.0)
            ]
          ];
    }
