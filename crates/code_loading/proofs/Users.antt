-- Whether anybody is among those who use an instance; who is spared where there is no old code; and the current code, module after module.
use Rattle.std.proofs.Common.{◌≡◌, ◌+◌, ◌∙◌, ℕ, zero, suc, Bool, true, false, cond, List, [], ◌∷◌, ◌++◌, Option, None, Some, refl, sym, ap, arith}
use Rattle.std.specs.List.{cons_option, filter}
use Rattle.std.specs.Prelude.{drop, filter_map, map, option_and_then, option_to_list, slice_get}
use Rattle.std.proofs.lemmas.List.{append_assoc}
use Rattle.code_server.specs.Modules.{Table as Loaded, slots_of}
use Rattle.values.specs.Failure.{TellsFailure}
use Rattle.values.specs.declared.failure.Failure.{Failure}
use Rattle.values.specs.declared.failure.Failure.TheVariants.{Refused, Memory}
use Rattle.code_server.specs.declared.error.CodeError.{CodeError}
use Rattle.erl_ir.specs.Module.{Forms}
use Rattle.process_effects.proofs.Alive.{passing}
use Rattle.process_store.specs.declared.living.ProcessEntry.{ProcessEntry}
use Rattle.process_store.specs.Table.{Table}
use Rattle.code_loading.specs.Loading.{is_any, spared, spared_by}

some_none : {A : Type 0} {x : A} → Some x ≡ None → ⊥
some_none same = let never : ⊥ = cc in never

true_false : {b : Bool} → b ≡ true → b ≡ false → ⊥
true_false passes fails = let never : ⊥ = cc in never

-- of the processes that live, the first, which uses it or does not

pub fails_first : (test : Option ProcessEntry → Bool) (pid : ℕ) (l : ProcessEntry) (es : List (ℕ × ProcessEntry)) → test (Some l) ≡ false → passing test ((pid, l) ∷ es) ≡ passing test es
fails_first test pid l es fails = ap (λ b. map (λ (e : ℕ × ProcessEntry). e.0) (cond b ((pid, l) ∷ filter (λ e. test (Some e.1)) es) (filter (λ e. test (Some e.1)) es))) fails

pub passes_first : (test : Option ProcessEntry → Bool) (pid : ℕ) (l : ProcessEntry) (es : List (ℕ × ProcessEntry)) → test (Some l) ≡ true → is_any (passing test ((pid, l) ∷ es)) ≡ true
passes_first test pid l es passes = ap (λ b. is_any (map (λ (e : ℕ × ProcessEntry). e.0) (cond b ((pid, l) ∷ filter (λ e. test (Some e.1)) es) (filter (λ e. test (Some e.1)) es)))) passes

-- a load that is refused for lack of memory finds no old code, and nobody is killed

pub memory_alone : (e : Failure CodeError) (o : Option CodeError) → TellsFailure e o → o ≡ None → e ≡ Memory
memory_alone (Refused why) o tells none = absurd (some_none (sym tells ∙ none))
memory_alone Memory o tells none = refl

pub all_spared : (name : List ℕ) (modules : Loaded Forms) (t : Table) → slots_of name modules ≡ None → spared name modules t ≡ t
all_spared name modules t none = ap (λ o. spared_by (option_and_then (λ slots. slots.former) o) t) none

-- the current code of one module more

filled : {B : Type 0} (o : Option B) (xs : List B) → cons_option o xs ≡ option_to_list o ++ xs
filled None xs = refl
filled (Some x) xs = refl

module _ {A B : Type 0} where
  next_of : (f : A → Option B) (es : List A) (index : ℕ) → filter_map f (drop index es) ≡ option_to_list (option_and_then f (slice_get es index)) ++ filter_map f (drop (suc index) es)
  next_of f [] zero = refl
  next_of f [] (suc index) = refl
  next_of f (e ∷ es) zero = filled (f e) (filter_map f es)
  next_of f (e ∷ es) (suc index) = next_of f es index

pub one_module_more : {A B : Type 0} (f : A → Option B) (es : List A) (index : ℕ) (code more all : List B) → more ≡ code ++ option_to_list (option_and_then f (slice_get es index)) → code ++ filter_map f (drop index es) ≡ all → more ++ filter_map f (drop (index + 1) es) ≡ all
one_module_more f es index code more all pushed before =
    let one : index + 1 ≡ suc index = omega arith in
    let here = option_to_list (option_and_then f (slice_get es index)) in
    let left = filter_map f (drop (suc index) es) in
    ap (λ k. more ++ filter_map f (drop k es)) one ∙ ap (λ xs. xs ++ left) pushed ∙ append_assoc code here left ∙ ap (λ xs. code ++ xs) (sym (next_of f es index)) ∙ before
