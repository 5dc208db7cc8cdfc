-- Where tokens that are no module go wrong: the first of their forms that is none.
use Rattle.std.specs.Prelude.{◌≡◌, ℕ, ◌≤◌, List, [], ◌∷◌, ◌++◌, length}
use Rattle.erl_scan.specs.declared.token.Spot.{Spot}
use Rattle.erl_ast.specs.declared.form.FormTree.{FormTree}
use Rattle.erl_ast.specs.Terminal.{Terminal, terminals}
use Rattle.erl_ast.specs.Forms.{BeginsForm, module_written}
use Rattle.erl_expressions.specs.declared.refusal.Refusal.{Refusal}
use Rattle.erl_expressions.specs.Refusing.{IsToldOf}

-- Tokens are these forms, one behind the other, and so much is left.
abbrev pub AreFormsTo : List FormTree → List Terminal → List Terminal → Type 0
AreFormsTo [] ts left = ts ≡ left
AreFormsTo (f ∷ fs) ts left = (rest : List Terminal) × BeginsForm f ts rest × AreFormsTo fs rest left

-- Tokens begin with no `-module(M).`, and with no form.

abbrev pub IsNoHead : List Terminal → Type 0
IsNoHead ts = (name : List ℕ) → (at word_at : ℕ) → (rest : List Terminal) → ts ≡ module_written name at word_at rest → ⊥

abbrev pub IsNoForm : List Terminal → Type 0
IsNoForm ts = (f : FormTree) → (rest : List Terminal) → BeginsForm f ts rest → ⊥

-- What stands before a form, with which these tokens go on: nothing, or `-module(M).` and whole forms.
pub data Reaches (ts form : List Terminal) : Type 0 where
  at_head : ts ≡ form → Reaches ts form
  at_form : {name : List ℕ} {at word_at : ℕ} {rest : List Terminal} → (fs : List FormTree) →
      ts ≡ module_written name at word_at rest → AreFormsTo fs rest form → Reaches ts form

-- The first form that is none, with all tokens behind it.
pub data IsFirstFaulty (ts form : List Terminal) : Type 0 where
  no_head : ts ≡ form → IsNoHead form → IsFirstFaulty ts form
  no_form : {name : List ℕ} {at word_at : ℕ} {rest : List Terminal} → (fs : List FormTree) →
      ts ≡ module_written name at word_at rest → AreFormsTo fs rest form → IsNoForm form → IsFirstFaulty ts form

-- A refusal of tokens is told of their first faulty form, which is cut off where it is told at their end: no dot ends it.
pub record IsToldFirst (ts : List Spot) (r : Refusal) : Type 0 where
  pub form : List Spot
  pub first : IsFirstFaulty (terminals ts) (terminals form)
  pub shorter : length form ≤ length ts
  pub told : IsToldOf form r

-- the same of tokens behind `-module(M).`
pub record FaultsBehind (ts : List Terminal) (r : Refusal) : Type 0 where
  pub forms : List FormTree
  pub form : List Spot
  pub before : AreFormsTo forms ts (terminals form)
  pub none_begins : IsNoForm (terminals form)
  pub shorter : length form ≤ length ts
  pub told : IsToldOf form r

-- A token stands among others, and from it on there are so many.
pub record StandsAt (ts : List Spot) (left : ℕ) (s : Spot) : Type 0 where
  pub before : List Spot
  pub after : List Spot
  pub split : ts ≡ before ++ s ∷ after
  pub count : length (s ∷ after) ≡ left
