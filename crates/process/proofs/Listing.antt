-- The current code of the modules at the indices that can be reached.
use Rattle.std.proofs.Common.{◌≡◌, ℕ, suc, ◌+◌, ◌-◌, ◌<◌, ◌≤◌, ◌⊎◌, inl, inr, true, false, Bool, ◌||◌, List, [], ◌∷◌, ◌++◌, slice_get, Option, None, Some, option_and_then, option_map, Less, is_eq, nat_cmp, refl, sym, ap, subst, ◌∙◌, arith, map}
use Rattle.std.specs.BTreeSet.{BTreeSet}
use Rattle.std.specs.List.{AllByRecursion, IsDistinct, list_any}
use Rattle.std.specs.List.Sorted.{IsStrictlySortedBy}
use Rattle.std.specs.Map.{keys_of}
use Rattle.std.specs.Str.{bytes_eq}
use Rattle.std.proofs.lemmas.Bool.{cases_lt, false≢true}
use Rattle.std.proofs.lemmas.Map.Keys.{sorted_head, sorted_tail}
use Rattle.std.proofs.lemmas.Option.{none-some}
use Rattle.erl_ir.specs.Module.{Forms}
use Rattle.erl_semantics.specs.State.{Instance}
use Rattle.erl_semantics.specs.Views.{instance}
use Rattle.erl_semantics.specs.declared.instance.Instance as held
use Rattle.code_server.specs.Modules.{Entry, Table, IsModuleTable}
use Rattle.code_server.specs.declared.modules.Instance as loaded
use Rattle.code_server.proofs.Standing.{Stands-index}
use Rattle.process.specs.JobCode.{IsReached, AreReached, IsJobCode, none, reached, without_code, not_reached, job_code, instance_of}
use Rattle.process.specs.Indices.{IsReachedAt, reached_at, AreReachedIndices, named_current, named_current_at, before_others, current_code}
use Rattle.process.proofs.Finding.{same_number, same_number-test, less_from}
use Rattle.process.proofs.Standing.{name_at, index-of_entry}

-- an index among others
abbrev pub IsIn : ℕ → List ℕ → Type 0
IsIn p [] = ⊥
IsIn p (x ∷ xs) = (x ≡ p) ⊎ IsIn p xs

split_or : (a b : Bool) → (a || b) ≡ true → (a ≡ true) ⊎ (b ≡ true)
split_or true b is = inl refl
split_or false b is = inr is

in_set : (p : ℕ) (xs : List ℕ) → list_any (λ k. is_eq (nat_cmp p k)) xs ≡ true → IsIn p xs
in_set p [] is = false≢true is
in_set p (x ∷ xs) is =
    elim (split_or (is_eq (nat_cmp p x)) (list_any (λ k. is_eq (nat_cmp p k)) xs) is) [
      | inl here ↦ inl (sym (same_number p x here))
      | inr there ↦ inr (in_set p xs there)
    ]

or_true : (a : Bool) → (a || true) ≡ true
or_true true = refl
or_true false = refl

set_has : (p : ℕ) (xs : List ℕ) → IsIn p xs → list_any (λ k. is_eq (nat_cmp p k)) xs ≡ true
set_has p [] is = absurd is
set_has p (x ∷ xs) (inl here) = ap (λ b. b || list_any (λ k. is_eq (nat_cmp p k)) xs) (same_number-test p x (sym here))
set_has p (x ∷ xs) (inr there) = ap (λ b. is_eq (nat_cmp p x) || b) (set_has p xs there) ∙ or_true (is_eq (nat_cmp p x))

-- indices rise from a number on
abbrev pub Rise : ℕ → List ℕ → Type 0
Rise k [] = Unit {0}
Rise k (x ∷ xs) = (k ≤ x) × Rise (x + 1) xs

rise_from : (k : ℕ) (xs : List ℕ) → AllByRecursion (λ y. k ≤ y) xs → IsStrictlySortedBy nat_cmp xs → Rise k xs
rise_from k [] least up = tt
rise_from k (x ∷ xs) least up = (least.0, rise_from (x + 1) xs (above xs (sorted_head nat_cmp x xs up)) (sorted_tail nat_cmp x xs up))
  where
    above : (ys : List ℕ) → AllByRecursion (λ y. nat_cmp x y ≡ Less) ys → AllByRecursion (λ y. x + 1 ≤ y) ys
    above [] is = tt
    above (y ∷ ys) is = (let l : x < y = less_from x y is.0 in omega (arith, l), above ys is.1)

least_of : (xs : List ℕ) → AllByRecursion (λ y. 0 ≤ y) xs
least_of [] = tt
least_of (x ∷ xs) = (omega arith, least_of xs)

pub rise_from-sorted : (xs : List ℕ) → IsStrictlySortedBy nat_cmp xs → Rise 0 xs
rise_from-sorted xs up = rise_from 0 xs (least_of xs) up

not_below : (k p : ℕ) (xs : List ℕ) → Rise k xs → IsIn p xs → k ≤ p
not_below k p [] up is = absurd is
not_below k p (x ∷ xs) up (inl here) = let l = up.0 in omega (arith, l, here)
not_below k p (x ∷ xs) up (inr there) = let l = up.0 in let m : x + 1 ≤ p = not_below (x + 1) p xs up.1 there in omega (arith, l, m)

option_cases : {A : Type 0} (o : Option A) → (o ≡ None) ⊎ ((x : A) × (o ≡ Some x))
option_cases None = inl refl
option_cases (Some x) = inr (x, refl)

-- the code of the first of the indices

without_first : (entries : List (Entry Forms)) (p : ℕ) (indices : List ℕ) (entry : Entry Forms) → slice_get entries p ≡ Some entry → entry.1.current ≡ None → current_code entries (p ∷ indices) ≡ current_code entries indices
without_first entries p indices entry at current =
    let one : named_current_at entries p ≡ None = ap (λ o. option_and_then named_current o) at ∙ ap (λ o. option_map (λ i. (entry.0, i)) o) current in
    ap (λ o. before_others o (current_code entries indices)) one

with_first : (entries : List (Entry Forms)) (p : ℕ) (indices : List ℕ) (entry : Entry Forms) (i : loaded.Instance Forms) → slice_get entries p ≡ Some entry → entry.1.current ≡ Some i → current_code entries (p ∷ indices) ≡ instance_of entry.0 i ∷ current_code entries indices
with_first entries p indices entry i at current =
    let one : named_current_at entries p ≡ Some (entry.0, i) = ap (λ o. option_and_then named_current o) at ∙ ap (λ o. option_map (λ i. (entry.0, i)) o) current in
    ap (λ o. before_others o (current_code entries indices)) one

module _ (t : Table Forms) (from : Forms) (distinct : IsDistinct bytes_eq (keys_of t.entries)) where
  reached_there : (p : ℕ) (entry : Entry Forms) → slice_get t.entries p ≡ Some entry → IsReachedAt t from p → IsReached t from entry.0
  reached_there p entry at (reached_at {name} is there) =
      let P : List ℕ → Type 0 = λ n. IsReached t from n in subst P (name_at name t.entries p entry there at) is

  there_reached : (p : ℕ) (entry : Entry Forms) → slice_get t.entries p ≡ Some entry → IsReached t from entry.0 → IsReachedAt t from p
  there_reached p entry at is = reached_at is (index-of_entry t.entries p entry distinct at)

  no_entry : (p : ℕ) → slice_get t.entries p ≡ None → IsReachedAt t from p → ⊥
  no_entry p at (reached_at {name} is there) =
      let stands = Stands-index name t.entries p there in
      none-some (name, stands.slots) (sym at ∙ stands.entry)

  -- of the entries from an index on
  listed : (entries : List (Entry Forms)) (k : ℕ) (indices : List ℕ) → ((j : ℕ) → slice_get t.entries (k + j) ≡ slice_get entries j) → Rise k indices →
      ((p : ℕ) → IsIn p indices → IsReachedAt t from p) → ((p : ℕ) → k ≤ p → IsReachedAt t from p → IsIn p indices) →
      AreReached t from entries (current_code t.entries indices)
  listed [] k [] at up are all = none
  listed [] k (p ∷ indices) at up are all =
      let here : slice_get t.entries p ≡ None = ap (slice_get t.entries) (let l = up.0 in omega (arith, l)) ∙ at (p - k) in
      absurd (no_entry p here (are p (inl refl)))
  listed (entry ∷ entries) k [] at up are all =
      let here : slice_get t.entries k ≡ Some entry = ap (slice_get t.entries) (omega arith) ∙ at 0 in
      not_reached (λ is. all k (omega arith) (there_reached k entry here is))
      (listed entries (k + 1) [] (λ j. ap (slice_get t.entries) (omega arith) ∙ at (suc j)) tt are (λ p above is. all p (omega (arith, above)) is))
  listed (entry ∷ entries) k (p ∷ indices) at up are all =
      let here : slice_get t.entries k ≡ Some entry = ap (slice_get t.entries) (omega arith) ∙ at 0 in
      let next : (j : ℕ) → slice_get t.entries (k + 1 + j) ≡ slice_get entries j = λ j. ap (slice_get t.entries) (omega arith) ∙ at (suc j) in
      let l : k ≤ p = up.0 in
      elim (cases_lt k p) [
        | inl later ↦
            not_reached (λ is. let m : p ≤ k = not_below p k (p ∷ indices) (omega arith, up.1) (all k (omega arith) (there_reached k entry here is)) in omega (arith, later, m))
            (listed entries (k + 1) (p ∷ indices) next (omega (arith, later), up.1) are (λ q above is. all q (omega (arith, above)) is))
        | inr first ↦
            let e : p ≡ k = omega (arith, first, l) in
            let there : slice_get t.entries p ≡ Some entry = ap (slice_get t.entries) e ∙ here in
            let rest : AreReached t from entries (current_code t.entries indices) =
            listed entries (k + 1) indices next (let P : ℕ → Type 0 = λ n. Rise (n + 1) indices in subst P e up.1) (λ q is. are q (inr is))
            (λ q above is. elim (all q (omega (arith, above)) is) [ inl same ↦ absurd (omega (arith, same, e, above)) | inr in_rest ↦ in_rest ]) in
            elim (option_cases entry.1.current) [
              | inl without ↦
                  let P : List Instance → Type 0 = λ l. AreReached t from (entry ∷ entries) l in
                  subst P (sym (without_first t.entries p indices entry there without)) (without_code without rest)
              | inr some ↦
                  let P : List Instance → Type 0 = λ l. AreReached t from (entry ∷ entries) l in
                  subst P (sym (with_first t.entries p indices entry some.0 there some.1)) (reached (reached_there p entry there (are p (inl refl))) some.1 rest)
            ]
      ]

pub AreReached-indices : (t : Table Forms) (from : Forms) (indices : BTreeSet ℕ) → IsModuleTable t → AreReachedIndices t from indices → AreReached t from t.entries (current_code t.entries indices.keys)
AreReached-indices t from indices sound is =
    listed t from sound.distinct t.entries 0 indices.keys (λ j. ap (slice_get t.entries) (omega arith)) (rise_from-sorted indices.keys is.ordered)
    (λ p here. is.reached p (set_has p indices.keys here)) (λ p above there. in_set p indices.keys (is.all p there))

pub IsJobCode-indices : (t : Table Forms) (entered : Instance) (indices : BTreeSet ℕ) (code : List Instance) → IsModuleTable t → AreReachedIndices t entered.forms indices → code ≡ entered ∷ current_code t.entries indices.keys → IsJobCode t entered code
IsJobCode-indices t entered indices code sound is made =
    let P : List Instance → Type 0 = λ l. IsJobCode t entered l in subst P (sym made) (job_code (AreReached-indices t entered.forms indices sound is))

-- A loop puts the code last.

append_one : (f : held.Instance → Instance) (xs : List held.Instance) (x : held.Instance) (ys : List Instance) → map f (xs ++ x ∷ []) ++ ys ≡ map f xs ++ (f x ∷ ys)
append_one f [] x ys = refl
append_one f (z ∷ zs) x ys = ap (λ l. f z ∷ l) (append_one f zs x ys)

-- the module at an index has current code
pub pushed : (entries : List (Entry Forms)) (code : List held.Instance) (one : held.Instance) (index : ℕ) (indices left : List ℕ) (name : List ℕ) (i : loaded.Instance Forms) (all : List Instance) → left ≡ index ∷ indices → named_current_at entries index ≡ Some (name, i) → instance one ≡ instance_of name i → map instance code ++ current_code entries left ≡ all → map instance (code ++ one ∷ []) ++ current_code entries indices ≡ all
pushed entries code one index indices left name i all is at same before =
    append_one instance code one (current_code entries indices) ∙ ap (λ x. map instance code ++ (x ∷ current_code entries indices)) same
    ∙ ap (λ o. map instance code ++ before_others o (current_code entries indices)) (sym at) ∙ ap (λ l. map instance code ++ current_code entries l) (sym is) ∙ before

-- the module at an index has none
pub passed : (entries : List (Entry Forms)) (code : List held.Instance) (index : ℕ) (indices left : List ℕ) (all : List Instance) → left ≡ index ∷ indices → named_current_at entries index ≡ None → map instance code ++ current_code entries left ≡ all → map instance code ++ current_code entries indices ≡ all
passed entries code index indices left all is at before =
    ap (λ o. map instance code ++ before_others o (current_code entries indices)) (sym at) ∙ ap (λ l. map instance code ++ current_code entries l) (sym is) ∙ before
