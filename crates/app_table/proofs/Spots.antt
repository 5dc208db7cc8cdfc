-- A child that is found stands where it is found.
use Rattle.std.proofs.Common.{◌≡◌, ◌<◌, ℕ, zero, suc, Bool, true, List, [], ◌∷◌, Option, None, Some, refl, sym, ap, subst, arith, eqb-true, length, get_or, position, slice_get}
use Rattle.std.specs.Prelude.{option_and_then, option_map}
use Rattle.std.proofs.lemmas.List.Quantifiers.{position-Some}
use Rattle.app_table.proofs.Options.{false_true, none_some, some_is}
use Rattle.app_table.specs.Applications.{Application, child_at, has_id, has_name, has_process, index_of, spot_by_pid, spot_in, spot_of}
use Rattle.app_table.specs.Children.{in_state, is_due, is_due_in, runs_as, runs_in}
use Rattle.app_table.specs.declared.child.Child.{Child}
use Rattle.app_table.specs.declared.child.ChildState.{ChildState}
use Rattle.app_table.specs.declared.child.ChildState.TheVariants.{Running, Due, Stopped}
use Rattle.erl_term.specs.declared.term.Term.{Term}
use Rattle.app_table.specs.declared.spot.Spot.{Spot}

module _ {A : Type 0} where
  pub got : (xs : List A) (k : ℕ) (d : A) → k < length xs → slice_get xs k ≡ Some (get_or xs k d)
  got [] k d within = absurd (omega (arith, within))
  got (x ∷ xs) zero d within = refl
  got (x ∷ xs) (suc k) d within = got xs k d (omega (arith, within))

  pub found : (p : A → Bool) (xs : List A) (k : ℕ) → position p xs ≡ Some k → (x : A) × (slice_get xs k ≡ Some x) × (p x ≡ true)
  found p [] k at = absurd (none_some at)
  found p (x ∷ xs) k at =
      let first = position-Some p (x ∷ xs) k x at in
      (get_or (x ∷ xs) k x, got (x ∷ xs) k x first.0, first.1)

spot_at : (is : Child → Bool) (app : ℕ) (apps : List Application) (a : Application) (spot : Spot) (o : Option ℕ) → slice_get apps app ≡ Some a → position is a.children ≡ o → option_map (λ child. record { app = app; child = child }) o ≡ Some spot → (c : Child) × (child_at spot apps ≡ Some c) × (is c ≡ true)
spot_at is app apps a spot None here there at = absurd (none_some at)
spot_at is app apps a spot (Some k) here there at =
    let (c, stands, passes) = found is a.children k there in
    let spot_is = some_is at in
    (c, subst (λ s. child_at s apps ≡ Some c) spot_is (subst (λ o. option_and_then (λ a. slice_get a.children k) o ≡ Some c) (sym here) stands), passes)

spot_there : (is : Child → Bool) (app : ℕ) (apps : List Application) (spot : Spot) (o : Option Application) → slice_get apps app ≡ o → option_map (λ child. record { app = app; child = child }) (option_and_then (λ a. position is a.children) o) ≡ Some spot → (c : Child) × (child_at spot apps ≡ Some c) × (is c ≡ true)
spot_there is app apps spot None here at = absurd (none_some at)
spot_there is app apps spot (Some a) here at = spot_at is app apps a spot (position is a.children) here refl at

pub spot_in_is : (is : Child → Bool) (app : ℕ) (apps : List Application) (spot : Spot) → spot_in is app apps ≡ Some spot → (c : Child) × (child_at spot apps ≡ Some c) × (is c ≡ true)
spot_in_is is app apps spot at = spot_there is app apps spot (slice_get apps app) refl at

in_some : (pid : ℕ) (apps : List Application) (spot : Spot) (o : Option ℕ) → option_and_then (λ app. spot_in (runs_as pid) app apps) o ≡ Some spot → (c : Child) × (child_at spot apps ≡ Some c) × (runs_as pid c ≡ true)
in_some pid apps spot None at = absurd (none_some at)
in_some pid apps spot (Some app) at = spot_in_is (runs_as pid) app apps spot at

-- the child that runs as the process of a pid
pub by_pid : (pid : ℕ) (apps : List Application) (spot : Spot) → spot_by_pid pid apps ≡ Some spot → (c : Child) × (child_at spot apps ≡ Some c) × (runs_as pid c ≡ true)
by_pid pid apps spot at = in_some pid apps spot (position (has_process pid) apps) at

-- It runs as that process again, whatever has become of it.

its_state : (pid : ℕ) (s : ChildState) → runs_in pid s ≡ true → Running pid ≡ s
its_state pid (Running its) runs = ap Running (sym (eqb-true its pid runs))
its_state pid Due runs = absurd (false_true runs)
its_state pid Stopped runs = absurd (false_true runs)

pub runs_again : (pid : ℕ) (c : Child) → runs_as pid c ≡ true → in_state (Running pid) c ≡ c
runs_again pid c runs = ap (λ (s : ChildState). record { spec = c.spec; state = s }) (its_state pid c.state runs)

-- One that is due was due.

due_state : (s : ChildState) → is_due_in s ≡ true → Due ≡ s
due_state (Running its) is = absurd (false_true is)
due_state Due is = refl
due_state Stopped is = absurd (false_true is)

pub due_again : (c : Child) → is_due c ≡ true → in_state Due c ≡ c
due_again c is = ap (λ (s : ChildState). record { spec = c.spec; state = s }) (due_state c.state is)

-- the child of an Id, in the application of a name

in_app : (id : Term) (apps : List Application) (spot : Spot) (o : Option ℕ) → option_and_then (λ app. spot_in (has_id id) app apps) o ≡ Some spot → (c : Child) × (child_at spot apps ≡ Some c) × (has_id id c ≡ true)
in_app id apps spot None at = absurd (none_some at)
in_app id apps spot (Some app) at = spot_in_is (has_id id) app apps spot at

pub by_id : (name : List ℕ) (id : Term) (apps : List Application) (spot : Spot) → spot_of name id apps ≡ Some spot → (c : Child) × (child_at spot apps ≡ Some c) × (has_id id c ≡ true)
by_id name id apps spot at = in_app id apps spot (index_of name apps) at

-- the application of a name
pub by_name : (name : List ℕ) (apps : List Application) (index : ℕ) → index_of name apps ≡ Some index → (a : Application) × (slice_get apps index ≡ Some a) × (has_name name a ≡ true)
by_name name apps index at = found (has_name name) apps index at
