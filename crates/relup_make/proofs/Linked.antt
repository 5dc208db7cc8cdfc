-- Indices that are numbered depend on one another as their instructions do.
use Rattle.std.proofs.Common.{◌≡◌, ℕ, zero, suc, ◌+◌, ◌-◌, ◌<◌, ◌≤◌, Bool, true, false, List, [], ◌∷◌, map, length, get_or, Option, Some, None, sym, ap, subst, ◌∙◌, refl, arith}
use Rattle.std.specs.Prelude.{◌==◌, ◌||◌, if◌then◌else◌, option_and_then, option_map, unwrap_or}
use Rattle.std.specs.List.{All, AllByRecursion, cons_option, filter_map, list_any, slice_get}
use Rattle.std.specs.Option.{is_some, option_map_or}
use Rattle.std.specs.Str.{bytes_eq}
use Rattle.std.proofs.lemmas.Option.{slice_get-map, slice_get-get_or}
use Rattle.std.proofs.lemmas.List.{length-map}
use Rattle.std.proofs.lemmas.List.Elements.{All-from_recursion, All-map}
use Rattle.std.proofs.lemmas.Bool.Decides.{nat_tests}
use Rattle.std.proofs.lemmas.Slice.Eq.{bytes_eq-Decides}
use Rattle.dependency_order.specs.Links.{AreNumbered, IsNumbered, linked, names}
use Rattle.high_instructions.specs.Forms.{Name, Names}
use Rattle.instructions.specs.declared.instruction.Instruction.{Instruction}
use Rattle.relup_make.specs.Dependencies.{dependencies_of, depends, depends_on, module_of}
use Rattle.relup_make.specs.Indexes.{index_of}
use Rattle.relup_make.specs.Numbers.{numbered}
use Rattle.relup_make.proofs.Indices.{is_placed, itself}

-- what stands at a name's index is that name
pub record StandsAt (k at : ℕ) (name : Name) (on : Names) : Type 0 where
  pub low : k ≤ at
  pub within : at - k < length on
  pub is : get_or on (at - k) [] ≡ name

stands_here : (k at : ℕ) (name other : Name) (others : Names) (b : Bool) (behind : Option ℕ) → bytes_eq other name ≡ b → (if b then Some k else behind) ≡ Some at → (behind ≡ Some at → StandsAt (k + 1) at name others) → StandsAt k at name (other ∷ others)
stands_here k at name other others true behind e is further =
    let here : k ≡ at = cc in
    let none : at - k ≡ 0 = omega arith in
    record { low = omega arith; within = omega arith; is = ap (λ n. get_or (other ∷ others) n []) none ∙ (bytes_eq-Decides other name).0 e }
stands_here k at name other others false behind e is further =
    let h = further is in
    let more : at - k ≡ suc (at - (k + 1)) = omega (arith, h.low) in
    record { low = omega (arith, h.low); within = omega (arith, h.low, h.within); is = ap (λ n. get_or (other ∷ others) n []) more ∙ h.is }

stands_at : (k at : ℕ) (name : Name) (on : Names) → index_of k name on ≡ Some at → StandsAt k at name on
stands_at k at name [] is = absurd (let never : ⊥ = cc in never)
stands_at k at name (other ∷ others) is =
    stands_here k at name other others (bytes_eq other name) (index_of (k + 1) name others) refl is (stands_at (k + 1) at name others)

pub below : (at : ℕ) (name : Name) (on : Names) → index_of 0 name on ≡ Some at → at < length on
below at name on is = let h = stands_at 0 at name on is in omega (arith, h.within)

one_name : (at : ℕ) (a b : Name) (on : Names) → index_of 0 a on ≡ Some at → index_of 0 b on ≡ Some at → a ≡ b
one_name at a b on one other = sym (stands_at 0 at a on one).is ∙ (stands_at 0 at b on other).is

-- A name is told by its number

unless : (b : Bool) → (b ≡ true → ⊥) → b ≡ false
unless true never = absurd (never refl)
unless false never = refl

pub number_tells : (on : Names) (m name : Name) (f : ℕ) (r : Option ℕ) → index_of 0 m on ≡ Some f → index_of 0 name on ≡ r → option_map_or (λ d. d == f) r false ≡ bytes_eq name m
number_tells on m name f None first is =
    sym (unless (bytes_eq name m) (λ e. let same : name ≡ m = (bytes_eq-Decides name m).0 e in let there : index_of 0 name on ≡ Some f = ap (λ n. index_of 0 n on) same ∙ first in cc))
number_tells on m name f (Some d) first is = told (bytes_eq name m) refl
  where
    told : (b : Bool) → bytes_eq name m ≡ b → (d == f) ≡ b
    told true e =
        let same : name ≡ m = (bytes_eq-Decides name m).0 e in
        let there : Some d ≡ Some f = sym is ∙ ap (λ n. index_of 0 n on) same ∙ first in
        let equal : d ≡ f = cc in
        grind (arith, nat_tests)
    told false e =
        let other : d ≡ f → ⊥ = λ same. (let one : index_of 0 name on ≡ Some f = is ∙ ap (λ n. Some n) same in let names_same : name ≡ m = one_name f name m on one first in let yes : bytes_eq name m ≡ true = (bytes_eq-Decides name m).1 names_same in cc) in
        grind (arith, nat_tests)

any_chosen : {A : Type 0} (test : ℕ → Bool) (h : A → Option ℕ) (xs : List A) → list_any test (filter_map h xs) ≡ list_any (λ x. option_map_or test (h x) false) xs
any_chosen test h [] = refl
any_chosen test h (x ∷ xs) = one (h x) (filter_map h xs) ∙ ap (λ b. option_map_or test (h x) false || b) (any_chosen test h xs)
  where
    one : (o : Option ℕ) (ns : List ℕ) → list_any test (cons_option o ns) ≡ (option_map_or test o false || list_any test ns)
    one None ns = refl
    one (Some n) ns = refl

any_agree : {A : Type 0} (p q : A → Bool) → ((x : A) → p x ≡ q x) → (xs : List A) → list_any p xs ≡ list_any q xs
any_agree p q same [] = refl
any_agree p q same (x ∷ xs) = ap (λ b. b || list_any p xs) (same x) ∙ ap (λ b. q x || b) (any_agree p q same xs)

any_none : {A : Type 0} (xs : List A) → list_any (λ x. false) xs ≡ false
any_none [] = refl
any_none (x ∷ xs) = any_none xs

beyond : (on : Names) (name : Name) (r : Option ℕ) → index_of 0 name on ≡ r → option_map_or (λ d. d == length on) r false ≡ false
beyond on name None is = refl
beyond on name (Some d) is = let less = below d name on is in grind (arith, nat_tests)

-- What an instruction is on is one of the modules

abbrev pub IsOn : Names → Option Name → Type 0
IsOn on None = Unit {0}
IsOn on (Some m) = (f : ℕ) × (index_of 0 m on ≡ Some f)

told_index : (o : Option ℕ) → is_some o ≡ true → (f : ℕ) × (o ≡ Some f)
told_index None e = absurd (let never : ⊥ = cc in never)
told_index (Some f) e = (f, refl)

among : (is : List Instruction) (q : ℕ) (j : Instruction) (m : Name) → slice_get is q ≡ Some j → module_of j ≡ Some m → list_any (λ other. bytes_eq other m) (filter_map module_of is) ≡ true
among [] q j m at on = absurd (let never : ⊥ = cc in never)
among (i ∷ others) zero j m at on =
    let same : i ≡ j = cc in
    let here : module_of i ≡ Some m = ap module_of same ∙ on in
    ap (λ o. list_any (λ other. bytes_eq other m) (cons_option o (filter_map module_of others))) here ∙ ap (λ b. b || list_any (λ other. bytes_eq other m) (filter_map module_of others)) (itself m)
among (i ∷ others) (suc q) j m at on = behind (module_of i) (among others q j m at on)
  where
    behind : (o : Option Name) → list_any (λ other. bytes_eq other m) (filter_map module_of others) ≡ true → list_any (λ other. bytes_eq other m) (cons_option o (filter_map module_of others)) ≡ true
    behind None e = e
    behind (Some n) e = ap (λ b. bytes_eq n m || b) e ∙ or_true (bytes_eq n m)
      where
        or_true : (b : Bool) → (b || true) ≡ true
        or_true true = refl
        or_true false = refl

is_on : (is : List Instruction) (q : ℕ) (j : Instruction) (o : Option Name) → slice_get is q ≡ Some j → module_of j ≡ o → IsOn (filter_map module_of is) o
is_on is q j None at e = tt
is_on is q j (Some m) at e =
    told_index (index_of 0 m (filter_map module_of is)) (is_placed 0 m (filter_map module_of is) ∙ among is q j m at e)

-- Links

named : (on deps : Names) (o : Option Name) → IsOn on o → list_any (λ d. d == unwrap_or (option_and_then (λ m. index_of 0 m on) o) (length on)) (filter_map (λ name. index_of 0 name on) deps) ≡ option_map_or (λ m. list_any (λ name. bytes_eq name m) deps) o false
named on deps None placed =
    any_chosen (λ d. d == length on) (λ name. index_of 0 name on) deps ∙ any_agree _ (λ name. false) (λ name. beyond on name (index_of 0 name on) refl) deps ∙ any_none deps
named on deps (Some m) placed =
    ap (λ o. list_any (λ d. d == unwrap_or o (length on)) (filter_map (λ name. index_of 0 name on) deps)) placed.1
    ∙ any_chosen (λ d. d == placed.0) (λ name. index_of 0 name on) deps
    ∙ any_agree _ (λ name. bytes_eq name m) (λ name. number_tells on m name placed.0 (index_of 0 name on) placed.1 refl) deps

pair_linked : (is : List Instruction) (q : ℕ) (one other : Option Instruction) → slice_get is q ≡ other → option_map_or (λ a. option_map_or (λ b. names a b) (option_map (numbered (filter_map module_of is)) other) false) (option_map (numbered (filter_map module_of is)) one) false ≡ option_map_or (λ i. option_map_or (λ j. depends_on i j) other false) one false
pair_linked is q None other at = refl
pair_linked is q (Some i) None at = refl
pair_linked is q (Some i) (Some j) at =
    named (filter_map module_of is) (dependencies_of i) (module_of j) (is_on is q j (module_of j) at refl)

pub linked_same : (is : List Instruction) (p q : ℕ) → linked (map (numbered (filter_map module_of is)) is) p q ≡ depends is p q
linked_same is p q =
    ap (λ o. option_map_or (λ one. option_map_or (λ other. names one other) (slice_get (map (numbered (filter_map module_of is)) is) q) false) o false) (slice_get-map (numbered (filter_map module_of is)) is p)
    ∙ ap (λ o. option_map_or (λ one. option_map_or (λ other. names one other) o false) (option_map (numbered (filter_map module_of is)) (slice_get is p)) false) (slice_get-map (numbered (filter_map module_of is)) is q)
    ∙ pair_linked is q (slice_get is p) (slice_get is q) refl

-- Numbers are below the count of instructions

no_more : (is : List Instruction) → length (filter_map module_of is) ≤ length is
no_more [] = omega arith
no_more (i ∷ others) = one (module_of i) (no_more others)
  where
    one : (o : Option Name) → length (filter_map module_of others) ≤ length others → length (cons_option o (filter_map module_of others)) ≤ suc (length others)
    one None e = omega arith
    one (Some n) e = omega arith

fewer : (is : List Instruction) (q : ℕ) (j : Instruction) → slice_get is q ≡ Some j → module_of j ≡ None → length (filter_map module_of is) < length is
fewer [] q j at on = absurd (let never : ⊥ = cc in never)
fewer (i ∷ others) zero j at on =
    let same : i ≡ j = cc in
    let here : module_of i ≡ None = ap module_of same ∙ on in
    let size : length (filter_map module_of (i ∷ others)) ≡ length (filter_map module_of others) = ap (λ o. length (cons_option o (filter_map module_of others))) here in
    omega (arith, size, no_more others)
fewer (i ∷ others) (suc q) j at on = one (module_of i) (fewer others q j at on)
  where
    one : (o : Option Name) → length (filter_map module_of others) < length others → length (cons_option o (filter_map module_of others)) < suc (length others)
    one None e = omega arith
    one (Some n) e = omega arith

low_number : (is : List Instruction) (q : ℕ) (j : Instruction) (o : Option Name) → slice_get is q ≡ Some j → module_of j ≡ o → IsOn (filter_map module_of is) o → unwrap_or (option_and_then (λ m. index_of 0 m (filter_map module_of is)) o) (length (filter_map module_of is)) < length is
low_number is q j None at e placed = fewer is q j at e
low_number is q j (Some m) at e placed =
    let same : unwrap_or (index_of 0 m (filter_map module_of is)) (length (filter_map module_of is)) ≡ placed.0 = ap (λ o. unwrap_or o (length (filter_map module_of is))) placed.1 in
    omega (arith, same, below placed.0 m (filter_map module_of is) placed.1, no_more is)

low_named : (bound : ℕ) (on deps : Names) → length on ≤ bound → AllByRecursion (λ m. m < bound) (filter_map (λ name. index_of 0 name on) deps)
low_named bound on [] few = tt
low_named bound on (name ∷ deps) few = one (index_of 0 name on) refl (low_named bound on deps few)
  where
    one : (o : Option ℕ) → index_of 0 name on ≡ o → AllByRecursion (λ m. m < bound) (filter_map (λ n. index_of 0 n on) deps) → AllByRecursion (λ m. m < bound) (cons_option o (filter_map (λ n. index_of 0 n on) deps))
    one None e further = further
    one (Some d) e further = (omega (arith, below d name on e), further)

low_index : (is : List Instruction) (q : ℕ) (j : Instruction) → slice_get is q ≡ Some j → IsNumbered (length is) (numbered (filter_map module_of is) j)
low_index is q j at =
    (low_number is q j (module_of j) at refl (is_on is q j (module_of j) at refl), All-from_recursion (λ m. m < length is) _ (low_named (length is) (filter_map module_of is) (dependencies_of j) (no_more is)))

pub low_numbers : (is : List Instruction) → AreNumbered (length (map (numbered (filter_map module_of is)) is)) (map (numbered (filter_map module_of is)) is)
low_numbers is =
    let many = length-map is (numbered (filter_map module_of is)) in
    let low : All (IsNumbered (length is)) (map (numbered (filter_map module_of is)) is) = All-map (IsNumbered (length is)) (numbered (filter_map module_of is)) is (λ k d within. low_index is k (get_or is k d) (slice_get-get_or is k d within)) in
    subst (λ n. AreNumbered n (map (numbered (filter_map module_of is)) is)) (sym many) low
