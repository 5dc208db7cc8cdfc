-- A change that is made and taken back.
use Rattle.std.proofs.Common.{◌≡◌, ℕ, zero, suc, Bool, false, true, List, [], ◌∷◌, ◌++◌, Option, None, Some, refl, sym, ap, ◌∙◌, subst, map, slice_get}
use Rattle.std.specs.Prelude.{option_and_then}
use Rattle.values.specs.Edits.{changed_at}
use Rattle.app_table.proofs.Options.{none_some, some_is}
use Rattle.app_table.specs.Applications.{Application, changed_child, child_at, with_child, with_children}
use Rattle.app_table.specs.Changes.{app_stopped, stopped}
use Rattle.app_table.specs.Children.{in_state}
use Rattle.app_table.specs.Undo.{all_unended, in_states, unended, unstopped}
use Rattle.app_table.specs.declared.child.Child.{Child}
use Rattle.app_table.specs.declared.child.ChildState.{ChildState}
use Rattle.app_table.specs.declared.child.ChildState.TheVariants.{Stopped}
use Rattle.app_table.specs.declared.spot.Spot.{Spot}
use Rattle.app_table.specs.declared.undo.ChildProcess.{ChildProcess}

module _ {A : Type 0} where
  pub changed_back : (f g : A → A) (xs : List A) (index : ℕ) (x : A) → slice_get xs index ≡ Some x → g (f x) ≡ x → changed_at g (changed_at f xs index) index ≡ xs
  changed_back f g [] index x at back = refl
  changed_back f g (y ∷ xs) zero x at back = ap (λ z. z ∷ xs) (subst (λ z. g (f z) ≡ z) (sym (some_is at)) back)
  changed_back f g (y ∷ xs) (suc index) x at back = ap (λ ys. y ∷ ys) (changed_back f g xs index x at back)

-- of a child

children_back : (f g : Bool → Child → Child) (spot : Spot) (apps : List Application) (c : Child) (o : Option Application) → slice_get apps spot.app ≡ o → option_and_then (λ a. slice_get a.children spot.child) o ≡ Some c → ((b : Bool) → g b (f b c) ≡ c) → changed_child g spot (changed_child f spot apps) ≡ apps
children_back f g spot apps c None here at back = absurd (none_some at)
children_back f g spot apps c (Some a) here at back =
    changed_back (with_child f spot.child) (with_child g spot.child) apps spot.app a here (
    ap (λ cs. record { spec = a.spec; is_started = a.is_started; children = cs }) (changed_back (f a.is_started) (g a.is_started) a.children spot.child c at (back a.is_started))
    )

pub child_back : (f g : Bool → Child → Child) (spot : Spot) (apps : List Application) (c : Child) → child_at spot apps ≡ Some c → ((b : Bool) → g b (f b c) ≡ c) → changed_child g spot (changed_child f spot apps) ≡ apps
child_back f g spot apps c at back = children_back f g spot apps c (slice_get apps spot.app) refl at back

-- of the children that an application has

pub started_back : (children before : List Child) (apps : List Application) (index : ℕ) (a : Application) → slice_get apps index ≡ Some a → a.is_started ≡ false → before ≡ a.children → changed_at (with_children false before) (changed_at (with_children true children) apps index) index ≡ apps
started_back children before apps index a at stopped same =
    changed_back (with_children true children) (with_children false before) apps index a at (
    ap (λ b. record { spec = a.spec; is_started = b; children = before }) (sym stopped) ∙ ap (λ cs. record { spec = a.spec; is_started = a.is_started; children = cs }) same
    )

-- of those that have ended: one more

pub one_more : (es : List ChildProcess) (e : ChildProcess) (apps : List Application) → all_unended (es ++ e ∷ []) apps ≡ all_unended es (unended e apps)
one_more [] e apps = refl
one_more (first ∷ es) e apps = ap (λ t. unended first t) (one_more es e apps)

-- of the states of children that were stopped

states_back : (cs : List Child) → in_states (map (λ c. c.state) cs) (map (in_state Stopped) cs) ≡ cs
states_back [] = refl
states_back (c ∷ cs) = ap (λ (rest : List Child). c ∷ rest) (states_back cs)

pub app_back : (states : List ChildState) (apps : List Application) (index : ℕ) (a : Application) → slice_get apps index ≡ Some a → a.is_started ≡ true → states ≡ map (λ c. c.state) a.children → changed_at (unstopped states) (app_stopped index apps) index ≡ apps
app_back states apps index a at started are =
    changed_back stopped (unstopped states) apps index a at (
    ap (λ (b : Bool). record { spec = a.spec; is_started = b; children = in_states states (map (in_state Stopped) a.children) }) (sym started) ∙ ap (λ (ss : List ChildState). record { spec = a.spec; is_started = a.is_started; children = in_states ss (map (in_state Stopped) a.children) }) are ∙ ap (λ (cs : List Child). record { spec = a.spec; is_started = a.is_started; children = cs }) (states_back a.children)
    )
