-- Applications leave, or get other specifications: each child runs as before, or has left.
use Rattle.std.proofs.Common.{◌≡◌, ◌∙◌, ◌-◌, ℕ, zero, suc, List, [], ◌∷◌, ◌++◌, length, take, Option, None}
use Rattle.std.proofs.Common.{Some, refl, sym, ap, arith}
use Rattle.std.proofs.lemmas.Option.{none-some}
use Rattle.app_table.specs.Applications.{Application, loaded, index_of}
use Rattle.app_table.specs.Changes.{all_replaced, put_back, spec_set_at, specs_set, unloaded, with_spec}
use Rattle.app_table.specs.declared.specs.FormerSpecs.{FormerSpecs}
use Rattle.app_table.specs.declared.specs.Replaced.{Replaced}
use Rattle.app_table.specs.declared.spot.Spot.{Spot}
use Rattle.children_live.proofs.Children.{at}
use Rattle.children_live.specs.Children.{ChildrenLive, runs_at}
use Rattle.otp_files.specs.declared.app.AppSpec.{AppSpec}
use Rattle.process_store.specs.Table.{Table}
use Rattle.sys_protocol.specs.Stopping.{unloaded_app, unloaded_at}
use Rattle.values.specs.Edits.{changed_at}

-- Each child that runs ran before, at the same spot.

same_spots : (apps after : List Application) (t : Table) →
    ((spot : Spot) (p : ℕ) → runs_at spot after ≡ Some p → runs_at spot apps ≡ Some p) → ChildrenLive apps t →
    ChildrenLive after t
same_spots apps after t was kept = record {
  live = λ spot p runs. kept.live spot p (was spot p runs);
  apart = λ one other p runs also. kept.apart one other p (was one p runs) (was other p also);
}

-- An application is unloaded: those behind it move up.

abbrev pub behind : ℕ → ℕ → ℕ
behind zero app = suc app
behind (suc index) zero = zero
behind (suc index) (suc app) = suc (behind index app)

pub behind_differ : (index one other : ℕ) → behind index one ≡ behind index other → one ≡ other
behind_differ zero one other same = omega (arith, same)
behind_differ (suc index) zero zero same = refl
behind_differ (suc index) zero (suc other) same = absurd (omega (arith, same))
behind_differ (suc index) (suc one) zero same = absurd (omega (arith, same))
behind_differ (suc index) (suc one) (suc other) same = ap suc (behind_differ index one other (omega (arith, same)))

unloaded_from : (index : ℕ) (apps : List Application) (app child : ℕ) →
    runs_at (at app child) (unloaded index apps) ≡ runs_at (at (behind index app) child) apps
unloaded_from zero [] app child = refl
unloaded_from (suc index) [] zero child = refl
unloaded_from (suc index) [] (suc app) child = refl
unloaded_from zero (a ∷ apps) app child = refl
unloaded_from (suc index) (a ∷ apps) zero child = refl
unloaded_from (suc index) (a ∷ apps) (suc app) child = unloaded_from index apps app child

at_unloaded_live : (o : Option ℕ) (apps : List Application) (t : Table) → ChildrenLive apps t →
    ChildrenLive (unloaded_at o apps) t
at_unloaded_live None apps t kept = kept
at_unloaded_live (Some index) apps t kept =
    let from = λ (s : Spot). at (behind index s.app) s.child in
    let was : (s : Spot) (p : ℕ) → runs_at s (unloaded index apps) ≡ Some p → runs_at (from s) apps ≡ Some p =
    λ s p runs. sym (unloaded_from index apps s.app s.child) ∙ runs in
    record {
      live = λ spot p runs. kept.live (from spot) p (was spot p runs);
      apart = λ one other p runs also.
          let same = kept.apart (from one) (from other) p (was one p runs) (was other p also) in
          let app : one.app ≡ other.app = behind_differ index one.app other.app (ap (λ (s : Spot). s.app) same) in
          let child : one.child ≡ other.child = ap (λ (s : Spot). s.child) same in
          (λ i. record { app = app i; child = child i });
    }

pub unloaded_live : (name : List ℕ) (apps : List Application) (t : Table) → ChildrenLive apps t →
    ChildrenLive (unloaded_app name apps) t
unloaded_live name apps t kept = at_unloaded_live (index_of name apps) apps t kept

-- An application gets a specification, or one is added that has no children.

with_spec_from : (spec : AppSpec) (apps : List Application) (index app child : ℕ) →
    runs_at (at app child) (changed_at (with_spec spec) apps index) ≡ runs_at (at app child) apps
with_spec_from spec [] index app child = refl
with_spec_from spec (a ∷ apps) zero zero child = refl
with_spec_from spec (a ∷ apps) zero (suc app) child = refl
with_spec_from spec (a ∷ apps) (suc index) zero child = refl
with_spec_from spec (a ∷ apps) (suc index) (suc app) child = with_spec_from spec apps index app child

added_from : (spec : AppSpec) (apps : List Application) (app child : ℕ) →
    runs_at (at app child) (apps ++ loaded spec ∷ []) ≡ runs_at (at app child) apps
added_from spec [] zero child = refl
added_from spec [] (suc app) child = refl
added_from spec (a ∷ apps) zero child = refl
added_from spec (a ∷ apps) (suc app) child = added_from spec apps app child

spec_set_from : (o : Option ℕ) (spec : AppSpec) (apps : List Application) (spot : Spot) →
    runs_at spot (spec_set_at o spec apps) ≡ runs_at spot apps
spec_set_from None spec apps spot = added_from spec apps spot.app spot.child
spec_set_from (Some index) spec apps spot = with_spec_from spec apps index spot.app spot.child

specs_set_from : (specs : List AppSpec) (apps : List Application) (spot : Spot) →
    runs_at spot (specs_set specs apps) ≡ runs_at spot apps
specs_set_from [] apps spot = refl
specs_set_from (spec ∷ specs) apps spot =
    let index = index_of spec.name apps in
    specs_set_from specs (spec_set_at index spec apps) spot ∙ spec_set_from index spec apps spot

pub specs_set_live : (specs : List AppSpec) (apps : List Application) (t : Table) → ChildrenLive apps t →
    ChildrenLive (specs_set specs apps) t
specs_set_live specs apps t kept =
    same_spots apps (specs_set specs apps) t (λ spot p runs. sym (specs_set_from specs apps spot) ∙ runs) kept

-- Specifications are put back, and the last applications leave.

replaced_from : (rs : List Replaced) (apps : List Application) (spot : Spot) →
    runs_at spot (all_replaced rs apps) ≡ runs_at spot apps
replaced_from [] apps spot = refl
replaced_from (r ∷ rs) apps spot =
    with_spec_from r.spec (all_replaced rs apps) r.index spot.app spot.child ∙ replaced_from rs apps spot

taken_from : (count : ℕ) (apps : List Application) (app child p : ℕ) → runs_at (at app child) (take count apps) ≡ Some p →
    runs_at (at app child) apps ≡ Some p
taken_from zero [] app child p runs = runs
taken_from (suc count) [] app child p runs = runs
taken_from zero (a ∷ apps) app child p runs = absurd (none-some p runs)
taken_from (suc count) (a ∷ apps) zero child p runs = runs
taken_from (suc count) (a ∷ apps) (suc app) child p runs = taken_from count apps app child p runs

pub put_back_live : (former : FormerSpecs) (apps : List Application) (t : Table) → ChildrenLive apps t →
    ChildrenLive (put_back former apps) t
put_back_live former apps t kept =
    let back = all_replaced former.replaced apps in
    same_spots apps (put_back former apps) t (λ spot p runs.
    let still = taken_from (length back - former.added) back spot.app spot.child p runs in
    sym (replaced_from former.replaced apps spot) ∙ still) kept
