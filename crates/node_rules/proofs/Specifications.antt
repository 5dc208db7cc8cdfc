-- The specifications of applications stay as they are where processes end and children start; and where an install puts others in
-- their index, they can be put back.
use Rattle.std.proofs.Common.{◌≡◌, ◌≤◌, ℕ, Bool, List, [], ◌∷◌, ◌++◌, append-nil, append_assoc, length, map, slice_get, option_map, Option, None, Some, refl, sym, ap, subst, ◌∙◌, arith}
use Rattle.std.proofs.lemmas.List.{length-map}
use Rattle.std.proofs.lemmas.List.Elements.{All-weaker}
use Rattle.std.proofs.lemmas.Option.{none-some, same_Some, slice_get-map}
use Rattle.std.proofs.lemmas.Slice.Eq.{bytes_eq-Decides}
use Rattle.app_table.proofs.Replacing.{gives_added, gives_itself, gives_replaced}
use Rattle.app_table.proofs.Spots.{by_name}
use Rattle.app_table.specs.Applications.{Application, all_ended, changed_if, ended, loaded, index_of, revived, spot_by_pid, spot_of, with_child}
use Rattle.app_table.specs.Changes.{former_specs, replaced_as, replaced_at, replaced_by, spec_set_at, specs_set}
use Rattle.app_table.specs.Children.{after_end, in_state}
use Rattle.app_table.specs.Undo.{Fits, GivesBack, IsOfIndex}
use Rattle.app_table.specs.declared.child.Child.{Child}
use Rattle.app_table.specs.declared.child.ChildState.TheVariants.{Running}
use Rattle.app_table.specs.declared.specs.FormerSpecs.{FormerSpecs}
use Rattle.app_table.specs.declared.specs.Replaced.{Replaced}
use Rattle.app_table.specs.declared.spot.Spot.{Spot}
use Rattle.code_loading.specs.Loading.{lingering}
use Rattle.code_replacement.specs.Replacing.{RunningSystem, all_without, without_lingering}
use Rattle.erl_semantics.specs.declared.outcome.End.{End}
use Rattle.erl_semantics.specs.declared.outcome.End.TheVariants.{Rest, Value, Exit}
use Rattle.erl_term.specs.declared.term.Term.{Term}
use Rattle.node_rules.specs.Step.{ended_by}
use Rattle.otp_files.specs.declared.app.AppSpec.{AppSpec}
use Rattle.process_effects.specs.Told.{killed}
use Rattle.process_table.specs.Commit.{normal}
use Rattle.values.proofs.Edits.{map-changed_at}

abbrev pub specs : List Application → List AppSpec
specs apps = map (λ (a : Application). a.spec) apps

-- Whether specifications can be put back hangs on those that stand there alone.

mapped : {A B : Type 0} (f : A → B) (o : Option A) (y : B) → option_map f o ≡ Some y → (x : A) × (o ≡ Some x) × (f x ≡ y)
mapped f None y is = absurd (none-some y is)
mapped f (Some x) y is = (x, refl, same_Some (f x) y is)

at_index_too : (r : Replaced) (apps after : List Application) → specs after ≡ specs apps → IsOfIndex r apps → IsOfIndex r after
at_index_too r apps after same (a, at, name) =
    let spec = λ (it : Application). it.spec in
    let there = sym (slice_get-map spec after r.index) ∙ ap (λ (ss : List AppSpec). slice_get ss r.index) same in
    let here = slice_get-map spec apps r.index ∙ ap (option_map spec) at in
    let (b, is, also) = mapped spec (slice_get after r.index) a.spec (there ∙ here) in
    (b, is, ap (λ (s : AppSpec). s.name) also ∙ name)

pub fits_too : (f : FormerSpecs) (apps after : List Application) → specs after ≡ specs apps → Fits f apps → Fits f after
fits_too f apps after same fits =
    let spec = λ (it : Application). it.spec in
    let long : length apps ≡ length after = sym (length-map apps spec) ∙ sym (ap length same) ∙ length-map after spec in
    let here = λ (r : Replaced). IsOfIndex r apps in
    let there = λ (r : Replaced). IsOfIndex r after in
    (subst (λ n. f.added ≤ n) long fits.0, All-weaker here there (λ r is. at_index_too r apps after same is) f.replaced fits.1)

-- A child that is changed leaves them as they are.

child-specs : (f : Bool → Child → Child) (o : Option Spot) (apps : List Application) → specs (changed_if f o apps) ≡ specs apps
child-specs f None apps = refl
child-specs f (Some spot) apps =
    map-changed_at (λ (a : Application). a.spec) (with_child f spot.child) (λ a. refl) apps spot.app

pub revived-specs : (name : List ℕ) (id : Term) (pid : ℕ) (apps : List Application) →
    specs (revived name id pid apps) ≡ specs apps
revived-specs name id pid apps = child-specs (λ is_started c. in_state (Running pid) c) (spot_of name id apps) apps

all_ended-specs : (reason : Term) (pids : List ℕ) (apps : List Application) → specs (all_ended reason pids apps) ≡ specs apps
all_ended-specs reason [] apps = refl
all_ended-specs reason (pid ∷ pids) apps =
    let one = child-specs (λ is_started c. after_end is_started reason c) (spot_by_pid pid apps) apps in
    all_ended-specs reason pids (ended reason pid apps) ∙ one

pub ended_by-specs : (pid : ℕ) (end : End) (apps : List Application) → specs (ended_by pid end apps) ≡ specs apps
ended_by-specs pid (Rest at) apps = refl
ended_by-specs pid (Value v) apps = all_ended-specs normal (pid ∷ []) apps
ended_by-specs pid (Exit reason) apps = all_ended-specs reason (pid ∷ []) apps

pub all_without-specs : (names : List (List ℕ)) (s : RunningSystem) → specs (all_without names s).apps ≡ specs s.apps
all_without-specs [] s = refl
all_without-specs (n ∷ ns) s =
    let one = all_ended-specs killed (lingering n s.modules s.processes) s.apps in
    all_without-specs ns (without_lingering n s) ∙ one

-- Specifications that are put in place of others can be put back.

one_set : (before : List Application) (rs : List Replaced) (spec : AppSpec) (apps : List Application) (o : Option ℕ) →
    index_of spec.name apps ≡ o → GivesBack before rs apps → GivesBack before (rs ++ replaced_at o apps) (spec_set_at o spec apps)
one_set before rs spec apps None at g =
    let after = apps ++ loaded spec ∷ [] in
    subst (λ (xs : List Replaced). GivesBack before xs after) (sym (append-nil rs)) (gives_added before rs apps (loaded spec) g)
one_set before rs spec apps (Some index) at g =
    let (a, there, named) = by_name spec.name apps index at in
    let name = (bytes_eq-Decides a.spec.name spec.name).0 named in
    let after = spec_set_at (Some index) spec apps in
    let noted = ap (λ (xs : List Replaced). rs ++ xs) (sym (ap (replaced_as index) there)) in
    subst (λ (xs : List Replaced). GivesBack before xs after) noted (gives_replaced before rs apps index a spec there name g)

all_set : (before : List Application) (rs : List Replaced) (ss : List AppSpec) (apps : List Application) →
    GivesBack before rs apps → GivesBack before (rs ++ replaced_by ss apps) (specs_set ss apps)
all_set before rs [] apps g = subst (λ (xs : List Replaced). GivesBack before xs apps) (sym (append-nil rs)) g
all_set before rs (spec ∷ ss) apps g =
    let o = index_of spec.name apps in
    let next = spec_set_at o spec apps in
    let one = one_set before rs spec apps o refl g in
    let all = all_set before (rs ++ replaced_at o apps) ss next one in
    let joined = append_assoc rs (replaced_at o apps) (replaced_by ss next) in
    subst (λ (xs : List Replaced). GivesBack before xs (specs_set ss next)) joined all

pub former_fits : (ss : List AppSpec) (apps : List Application) → Fits (former_specs ss apps) (specs_set ss apps)
former_fits ss apps = (omega arith, (all_set apps [] ss apps (gives_itself apps)).indices)
