-- A message arrives for the process of a name, which lives; a call that is not repeated is of a number that is not open.
use Rattle.std.proofs.Common.{◌≡◌, ◌^◌, ℕ, zero, suc, Bool, true, false, cond, is_some, ltb, List, ◌∷◌, map, replicate, Option, None, Some, IfSome, IsSome, refl, sym, ap, subst, ◌∙◌, arith}
use Rattle.std.proofs.lemmas.Grind.{common_steps}
use Rattle.std.proofs.lemmas.List.Quantifiers.{position-Some}
use Rattle.process_index.specs.declared.calls.Call.{Call}
use Rattle.process_store.proofs.Slots.{living_within}
use Rattle.process_store.specs.Table.{Table, is_named, is_open, living, pid_of}
use Rattle.process_table.specs.Steps.{arrive_refusal, call_of, kind_of}
use Rattle.process_table.specs.declared.error.ProcError.TheVariants.{NoProc, DuplicateCall, CounterEnd}
use Rattle.process_table.specs.declared.body.ClientMessage.{ClientMessage}
use Rattle.process_table.specs.declared.body.ClientMessage.TheVariants as body
use Rattle.process_table.specs.declared.error.ProcError.{ProcError}

-- no refusal
pub unrefused : (o : Option ProcError) → ((e : ProcError) → o ≡ Some e → ⊥) → o ≡ None
unrefused None never = refl
unrefused (Some e) never = absurd (never e refl)

-- a process that has a name lives
pub named_lives : (name : List ℕ) (t : Table) (pid : ℕ) → pid_of name t ≡ Some pid → IsSome (living pid t)
named_lives name t pid is =
    let found = position-Some (is_named name) t.slots pid None is in
    let named : is_named name (living pid t) ≡ true = ap (is_named name) (living_within t.slots pid None found.0) ∙ found.1 in
    elim (living pid t) as (λ o. is_named name o ≡ true → IsSome o) [
      | None ↦ λ e. absurd (grind (arith, common_steps, e))
      | Some l ↦ λ e. refl
    ] named

-- the call that an arrival is which is not refused, if it is one, is of a number that is not open

stands : (there asked below : Bool) → cond there (cond asked (Some DuplicateCall) (cond below None (Some CounterEnd))) (Some NoProc) ≡ None → (there ≡ true) × (asked ≡ false) × (below ≡ true)
stands true false true is = (refl, refl, refl)
stands true false false is = absurd cc
stands true true below is = absurd cc
stands false asked below is = absurd cc

pub unasked_call : (client : ℕ) (name : List ℕ) (what : ClientMessage) (t : Table) (call : Option Call) → call ≡ call_of client what → arrive_refusal name (kind_of what) t ≡ None → IfSome call (λ c. is_open c.number t ≡ false)
unasked_call client name what t call is free =
    subst (λ o. IfSome o (λ c. is_open c.number t ≡ false)) (sym is) (elim what as (λ b. arrive_refusal name (kind_of b) t ≡ None → IfSome (call_of client b) (λ c. is_open c.number t ≡ false)) [
      | body.Call number term ↦ λ e. (stands (is_some (pid_of name t)) (is_open number t) (ltb number (2 ^ 63)) e).1
      | body.Cast term ↦ λ e. tt
      | body.Info term ↦ λ e. tt
    ] free)

-- equal values, each of which is there
pub all_there : {A : Type 0} (xs : List A) (x : A) (o : Option A) (n : ℕ) → xs ≡ replicate n x → Some x ≡ o → map Some xs ≡ replicate n o
all_there xs x o n are is = ap (map Some) are ∙ each_there x n ∙ ap (λ p. replicate n p) is
  where
    each_there : {A : Type 0} (x : A) (n : ℕ) → map Some (replicate n x) ≡ replicate n (Some x)
    each_there x zero = refl
    each_there x (suc n) = ap (λ ps. Some x ∷ ps) (each_there x n)
