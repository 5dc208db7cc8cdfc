-- The search for the indices of the modules that can be reached.
use Rattle.std.proofs.Common.{◌≡◌, ℕ, ◌+◌, ◌-◌, ◌<◌, ◌≤◌, ◌⊎◌, inl, inr, true, List, [], ◌∷◌, ◌++◌, length, length-append, slice_get, Contains, Option, None, Some, option_and_then, option_map, Ordering, Less, Equal, Greater, is_eq, nat_cmp, refl, sym, ap, subst, ◌∙◌, arith}
use Rattle.std.specs.BTreeSet.{BTreeSet, IsOrdered, contains}
use Rattle.std.specs.List.{list_any}
use Rattle.std.proofs.lemmas.Bool.{cases_lt, false≢true}
use Rattle.std.proofs.lemmas.Cmp.{nat_cmp_total, ranked}
use Rattle.std.specs.Cmp.{nat_cmp_is}
use Rattle.std.proofs.lemmas.List.Elements.{All-weaker, Contains-append_left, Contains-push, Contains-push_cases}
use Rattle.std.proofs.lemmas.Map.Lookups.{exact_unsigned}
use Rattle.std.proofs.lemmas.Map.Views.{All-set_contains, length-le_from_below}
use Rattle.std.proofs.lemmas.Option.{none-some, same_Some, slice_get_within, get_or_from_slice_get, slice_get_read}
use Rattle.erl_ir.specs.Module.{Forms, AreNamesOf, called_in_functions}
use Rattle.code_server.specs.Modules.{Entry, Table, index_of}
use Rattle.code_server.specs.Indices.{current_at}
use Rattle.code_server.specs.declared.modules.Instance as loaded
use Rattle.code_server.proofs.Standing.{Stands-index}
use Rattle.process.specs.declared.reached.Found.{Found}
use Rattle.process.specs.JobCode.{IsNamed, IsReached, named, named_by}
use Rattle.process.specs.Indices.{IsNamedAt, named_at, IsNamedFrom, named_from, IsReachedAt, reached_at, Has, Waits, Grows, AreFound, AreFoundFrom, AreReachedIndices, named_current, named_current_at}
use Rattle.process.proofs.Standing.{current-at_index, placed}

-- what was found of more
pub Grows-more : (Is : ℕ → Type 0) (One : ℕ → Type 0) (s u v : Found) → Grows Is s u → Grows One u v → ((p : ℕ) → One p → Is p) → Grows Is s v
Grows-more Is One s u v first then are = record {
  kept = λ p has. then.kept p (first.kept p has);
  still = λ p waits. then.still p (first.still p waits);
  new = λ p has. elim (then.new p has) [
    | inl old ↦ elim (first.new p old) [ inl older ↦ inl older | inr here ↦ inr (here.0, then.still p here.1) ]
    | inr here ↦ inr (are p here.0, here.1)
  ];
  found = λ p waits. elim (then.found p waits) [
    | inl old ↦ elim (first.found p old) [ inl older ↦ inl older | inr has ↦ inr (then.kept p has) ]
    | inr has ↦ inr has
  ];
  counted = omega (arith, first.counted, then.counted);
  ordered = λ o. then.ordered (first.ordered o);
}

-- Numbers as the order of a set compares them.

equal_from : (o : Ordering) → is_eq o ≡ true → o ≡ Equal
equal_from Less is = absurd (false≢true is)
equal_from Equal is = refl
equal_from Greater is = absurd (false≢true is)

pub same_number : (a b : ℕ) → is_eq (nat_cmp a b) ≡ true → a ≡ b
same_number a b is = exact_unsigned a b (equal_from (nat_cmp a b) is)

pub same_number-test : (a b : ℕ) → a ≡ b → is_eq (nat_cmp a b) ≡ true
same_number-test a b same = ap is_eq (sym (nat_cmp_is a b Equal same))

pub less_from : (a b : ℕ) → nat_cmp a b ≡ Less → a < b
less_from a b is = ranked a b Less (sym is)

-- The modules that are named in code.

-- of the first names, each was found that stands in the table
abbrev pub AreFoundOf : Table Forms → List (List ℕ) → ℕ → BTreeSet ℕ → Type 0
AreFoundOf t names count indices = (k : ℕ) (name : List ℕ) → k < count → slice_get names k ≡ Some name → (p : ℕ) → index_of name t.entries ≡ Some p → Has indices p

-- one more name, which stands at an index
pub AreFoundOf-placed : (t : Table Forms) (names : List (List ℕ)) (i index : ℕ) (name : List ℕ) (before after : Found) → slice_get names i ≡ Some name → index_of name t.entries ≡ Some index → ((p : ℕ) → Has before.indices p → Has after.indices p) → Has after.indices index → AreFoundOf t names i before.indices → AreFoundOf t names (i + 1) after.indices
AreFoundOf-placed t names i index name before after at stands kept has are k other within at_k p there =
    elim (cases_lt k i) [
      | inl less ↦ kept p (are k other less at_k p there)
      | inr last ↦
          let e : k ≡ i = omega (arith, within, last) in
          let same : other ≡ name = same_Some other name (sym at_k ∙ ap (slice_get names) e ∙ at) in
          let here : index ≡ p = same_Some index p (sym stands ∙ ap (λ n. index_of n t.entries) (sym same) ∙ there) in
          (let P : ℕ → Type 0 = λ q. Has after.indices q in subst P here has)
    ]

-- and which doesn't stand in the table
pub AreFoundOf-absent : (t : Table Forms) (names : List (List ℕ)) (i : ℕ) (name : List ℕ) (indices : BTreeSet ℕ) → slice_get names i ≡ Some name → index_of name t.entries ≡ None → AreFoundOf t names i indices → AreFoundOf t names (i + 1) indices
AreFoundOf-absent t names i name indices at absent are k other within at_k p there =
    elim (cases_lt k i) [
      | inl less ↦ are k other less at_k p there
      | inr last ↦
          let e : k ≡ i = omega (arith, within, last) in
          let same : other ≡ name = same_Some other name (sym at_k ∙ ap (slice_get names) e ∙ at) in
          absurd (none-some p (sym absent ∙ ap (λ n. index_of n t.entries) (sym same) ∙ there))
    ]

-- a name of the list is named in code
pub named_in : (code : Forms) (names : List (List ℕ)) (i : ℕ) (name : List ℕ) → AreNamesOf names (called_in_functions code.functions) → slice_get names i ≡ Some name → IsNamed name code
named_in code names i name are at =
    (are.same name).0 (i, name, slice_get_within names i name at, get_or_from_slice_get names i name name at, refl)

-- a turn of the loop over the names: the name stands at an index
pub turn-placed : (t : Table Forms) (code : Forms) (names : List (List ℕ)) (i index : ℕ) (name : List ℕ) (start before after joined : Found) → joined ≡ after → AreNamesOf names (called_in_functions code.functions) → slice_get names i ≡ Some name → index_of name t.entries ≡ Some index → Has after.indices index → Grows (λ p. p ≡ index) before after → Grows (IsNamedAt t code) start before → AreFoundOf t names i before.indices →
    Grows (IsNamedAt t code) start joined × AreFoundOf t names (i + 1) joined.indices
turn-placed t code names i index name start before after joined is same at stands has grows first are =
    let one : (p : ℕ) → p ≡ index → IsNamedAt t code p = λ p e. (let P : ℕ → Type 0 = λ q. IsNamedAt t code q in subst P (sym e) (named_at (named_in code names i name same at) stands)) in
    let all : Grows (IsNamedAt t code) start after = Grows-more (IsNamedAt t code) (λ p. p ≡ index) start before after first grows one in
    let P : Found → Type 0 = λ s. Grows (IsNamedAt t code) start s × AreFoundOf t names (i + 1) s.indices in
    subst P (sym is) (all, AreFoundOf-placed t names i index name before after at stands grows.kept has are)

-- and it stands at none
pub turn-absent : (t : Table Forms) (code : Forms) (names : List (List ℕ)) (i : ℕ) (name : List ℕ) (start before joined : Found) → joined ≡ before → slice_get names i ≡ Some name → index_of name t.entries ≡ None → Grows (IsNamedAt t code) start before → AreFoundOf t names i before.indices →
    Grows (IsNamedAt t code) start joined × AreFoundOf t names (i + 1) joined.indices
turn-absent t code names i name start before joined is at absent first are =
    let P : Found → Type 0 = λ s. Grows (IsNamedAt t code) start s × AreFoundOf t names (i + 1) s.indices in
    subst P (sym is) (first, AreFoundOf-absent t names i name before.indices at absent are)

-- the whole list
pub AreFound-all : (t : Table Forms) (code : Forms) (names : List (List ℕ)) (count : ℕ) (indices : BTreeSet ℕ) → AreNamesOf names (called_in_functions code.functions) → count ≡ length names → AreFoundOf t names count indices → AreFound t code indices
AreFound-all t code names count indices same whole are p (named_at {name} is there) =
    let any = (same.same name).1 is in
    let at : slice_get names any.0 ≡ Some any.1 = slice_get_read names (length names) any.0 any.1 refl any.2 (sym any.3) in
    are any.0 any.1 (omega (arith, whole, any.2)) at p (ap (λ n. index_of n t.entries) any.4 ∙ there)

-- What the current code of the module at an index names.

named_from_only : (t : Table Forms) (by p : ℕ) (i : loaded.Instance Forms) → current_at t.entries by ≡ Some i → IsNamedFrom t by p → IsNamedAt t i.code p
named_from_only t by p i at (named_from {i = j} at′ is) =
    let P : loaded.Instance Forms → Type 0 = λ k. IsNamedAt t k.code p in subst P (same_Some j i (sym at′ ∙ at)) is

pub AreFoundFrom-code : (t : Table Forms) (by : ℕ) (i : loaded.Instance Forms) (indices : BTreeSet ℕ) → current_at t.entries by ≡ Some i → AreFound t i.code indices → AreFoundFrom t by indices
AreFoundFrom-code t by i indices at are p is = are p (named_from_only t by p i at is)

pub Grows-code : (t : Table Forms) (by : ℕ) (i : loaded.Instance Forms) (s after : Found) → current_at t.entries by ≡ Some i → Grows (IsNamedAt t i.code) s after → Grows (IsNamedFrom t by) s after
Grows-code t by i s after at grows = record {
  kept = grows.kept;
  still = grows.still;
  new = λ p has. elim (grows.new p has) [ inl old ↦ inl old | inr here ↦ inr (named_from at here.0, here.1) ];
  found = grows.found;
  counted = grows.counted;
  ordered = grows.ordered;
}

-- the current code of a module that was read with its name
pub current_of-pair : (entries : List (Entry Forms)) (index : ℕ) (name : List ℕ) (i : loaded.Instance Forms) → named_current_at entries index ≡ Some (name, i) → current_at entries index ≡ Some i
current_of-pair entries index name i is = by_entry (slice_get entries index) is
  where
    by_slot : (stored : List ℕ) (o : Option (loaded.Instance Forms)) → option_map {U = List ℕ × loaded.Instance Forms} (λ j. (stored, j)) o ≡ Some (name, i) → o ≡ Some i
    by_slot stored None at = absurd (none-some (name, i) at)
    by_slot stored (Some j) at = ap (λ (pair : List ℕ × loaded.Instance Forms). Some pair.1) (same_Some (stored, j) (name, i) at)

    by_entry : (o : Option (Entry Forms)) → option_and_then named_current o ≡ Some (name, i) → option_and_then (λ entry. entry.1.current) o ≡ Some i
    by_entry None at = absurd (none-some (name, i) at)
    by_entry (Some entry) at = by_slot entry.0 entry.1.current at

-- What is known while indices wait.
pub record Explored (t : Table Forms) (from : Forms) (s : Found) : Type 0 where
  pub ordered : IsOrdered nat_cmp s.indices
  pub reached : (p : ℕ) → Has s.indices p → IsReachedAt t from p
  pub waiting : (p : ℕ) → Waits s p → Has s.indices p
  pub start : AreFound t from s.indices
  pub closed : (p : ℕ) → Has s.indices p → Waits s p ⊎ AreFoundFrom t p s.indices

never_has : (indices : BTreeSet ℕ) (p : ℕ) → indices.keys ≡ [] → Has indices p → ⊥
never_has indices p none has = false≢true (sym (ap (λ ks. list_any (λ k. is_eq (nat_cmp p k)) ks) none) ∙ has)

never_waits : (items : List ℕ) (p : ℕ) → items ≡ [] → Contains items p → ⊥
never_waits items p none waits = let e = ap length none in omega (arith, e, waits.1)

pub Explored-first : (t : Table Forms) (from : Forms) (none s : Found) → none.indices.keys ≡ [] → none.waiting.items ≡ [] → IsOrdered nat_cmp none.indices → Grows (IsNamedAt t from) none s → AreFound t from s.indices → Explored t from s
Explored-first t from none s keys items order grows start = record {
  ordered = grows.ordered order;
  reached = λ p has. elim (grows.new p has) [
    | inl old ↦ absurd (never_has none.indices p keys old)
    | inr here ↦ elim here.0 [ named_at is at ↦ reached_at (named is) at ]
  ];
  waiting = λ p waits. elim (grows.found p waits) [
    | inl old ↦ absurd (never_waits none.waiting.items p items old)
    | inr has ↦ has
  ];
  start = start;
  closed = λ p has. elim (grows.new p has) [
    | inl old ↦ absurd (never_has none.indices p keys old)
    | inr here ↦ inl here.1
  ];
}

reached_from : (t : Table Forms) (from : Forms) (by p : ℕ) → IsReachedAt t from by → IsNamedFrom t by p → IsReachedAt t from p
reached_from t from by p (reached_at {name} is at) (named_from {i} current (named_at named_there there)) =
    reached_at (named_by is (current-at_index name t by at ∙ current) named_there) there

-- An index is taken from those that wait, and what its module's current code names was found.
pub Explored-next : (t : Table Forms) (from : Forms) (s popped after : Found) (index : ℕ) → popped.indices ≡ s.indices → s.waiting.items ≡ popped.waiting.items ++ index ∷ [] → Grows (IsNamedFrom t index) popped after → AreFoundFrom t index after.indices → Explored t from s → Explored t from after
Explored-next t from s popped after index same queue grows followed known =
    let was : (p : ℕ) → Has popped.indices p → Has s.indices p = λ p has. ap (λ b. contains nat_cmp b p) (sym same) ∙ has in
    let kept : (p : ℕ) → Has s.indices p → Has after.indices p = λ p has. grows.kept p (ap (λ b. contains nat_cmp b p) same ∙ has) in
    let waited : (p : ℕ) → Contains (popped.waiting.items ++ index ∷ []) p → Waits s p = λ p waits. (let P : List ℕ → Type 0 = λ l. Contains l p in subst P (sym queue) waits) in
    let has_index : Has s.indices index = known.waiting index (waited index (Contains-push popped.waiting.items index)) in
    record {
      ordered = grows.ordered (let P : BTreeSet ℕ → Type 0 = λ b. IsOrdered nat_cmp b in subst P (sym same) known.ordered);
      reached = λ p has. elim (grows.new p has) [
        | inl old ↦ known.reached p (was p old)
        | inr here ↦ reached_from t from index p (known.reached index has_index) here.0
      ];
      waiting = λ p waits. elim (grows.found p waits) [
        | inl old ↦ kept p (known.waiting p (waited p (Contains-append_left popped.waiting.items (index ∷ []) p old)))
        | inr has ↦ has
      ];
      start = λ p at. kept p (known.start p at);
      closed = λ p has. elim (grows.new p has) [
        | inl old ↦ elim (known.closed p (was p old)) [
          | inl waits ↦ elim (Contains-push_cases popped.waiting.items index p (let P : List ℕ → Type 0 = λ l. Contains l p in subst P queue waits)) [
            | inl still ↦ inl (grows.still p still)
            | inr e ↦ inr (let P : ℕ → Type 0 = λ k. AreFoundFrom t k after.indices in subst P e followed)
          ]
          | inr done ↦ inr (λ q is. kept q (done q is))
        ]
        | inr here ↦ inl here.1
      ];
    }

-- there are no more indices than modules
pub Explored-bound : (t : Table Forms) (from : Forms) (s : Found) → Explored t from s → length s.indices.keys ≤ length t.entries
Explored-bound t from s known =
    length-le_from_below (length t.entries) s.indices.keys known.ordered
    (All-weaker (λ k. contains nat_cmp s.indices k ≡ true) (λ k. k < length t.entries) (λ k has. below k (known.reached k has)) s.indices.keys (All-set_contains nat_cmp_total s.indices))
  where
    below : (k : ℕ) → IsReachedAt t from k → k < length t.entries
    below k (reached_at {name} is at) = (Stands-index name t.entries k at).within

-- what is left to do falls
pub falls : (t : Table Forms) (from : Forms) (s popped after : Found) (index : ℕ) → popped.indices ≡ s.indices → s.waiting.items ≡ popped.waiting.items ++ index ∷ [] → Grows (IsNamedFrom t index) popped after → AreFoundFrom t index after.indices → Explored t from s → (length t.entries - length after.indices.keys) + length after.waiting.items < (length t.entries - length s.indices.keys) + length s.waiting.items
falls t from s popped after index same queue grows followed known =
    let most : length after.indices.keys ≤ length t.entries = Explored-bound t from after (Explored-next t from s popped after index same queue grows followed known) in
    let one : length s.waiting.items ≡ length popped.waiting.items + 1 = ap length queue ∙ length-append popped.waiting.items (index ∷ []) in
    let keys : length popped.indices.keys ≡ length s.indices.keys = ap (λ (b : BTreeSet ℕ). length b.keys) same in
    omega (arith, most, one, keys, grows.counted)

-- nothing waits any more

all_found : (t : Table Forms) (from : Forms) (s : Found) → s.waiting.items ≡ [] → Explored t from s → (name : List ℕ) → IsReached t from name → (p : ℕ) → index_of name t.entries ≡ Some p → Has s.indices p
all_found t from s none known _ (named is) p at = known.start p (named_at is at)
all_found t from s none known _ (named_by {by} {name} {i} is current there) p at =
    let found = placed by t i current in
    elim (known.closed found.0 (all_found t from s none known by is found.0 found.1)) [
      | inl waits ↦ absurd (never_waits s.waiting.items found.0 none waits)
      | inr done ↦ done p (named_from (sym (current-at_index by t found.0 found.1) ∙ current) (named_at there at))
    ]

pub Explored-last : (t : Table Forms) (from : Forms) (s : Found) → s.waiting.items ≡ [] → Explored t from s → AreReachedIndices t from s.indices
Explored-last t from s none known = record {
  ordered = known.ordered;
  reached = known.reached;
  all = λ p is. elim is [ reached_at {name} there at ↦ all_found t from s none known name there p at ];
}
