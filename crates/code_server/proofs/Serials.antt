-- How often a serial stands in the table: what an edit of the entries makes of it, and that of one not given yet.
use Rattle.std.proofs.Common.{◌≡◌, ℕ, zero, suc, ◌+◌, ◌≤◌, ◌==◌, Bool, true, false, if◌then◌else◌, List, [], ◌∷◌, All, remove, slice_get, Option, None, Some, option_map, refl, ap, arith}
use Rattle.std.proofs.lemmas.Bool.{eqb-true, ne_eqb}
use Rattle.std.proofs.lemmas.List.Elements.{All-weaker}
use Rattle.std.proofs.lemmas.List.Sums.{sum_by-cons, sum_by-le}
use Rattle.values.specs.Edits.{changed_at}
use Rattle.code_server.specs.declared.modules.Instance.{Instance}
use Rattle.code_server.specs.Modules.{Entry, Table, IsGiven, IsModuleTable, in_slot, in_entry, in_entries}

module _ {C : Type 0} where
  -- Edits at an index

  -- how often a serial stands in what an index has, which is nothing past the end
  abbrev pub in_found : ℕ → Option (Entry C) → ℕ
  in_found n None = 0
  in_found n (Some entry) = in_entry n entry

  pub in_entries-changed_at : (n : ℕ) (f : Entry C → Entry C) (es : List (Entry C)) (index : ℕ) → in_entries n (changed_at f es index) + in_found n (slice_get es index) ≡ in_entries n es + in_found n (option_map f (slice_get es index))
  in_entries-changed_at n f [] index = refl
  in_entries-changed_at n f (e ∷ es) zero =
      omega (arith, sum_by-cons (in_entry n) (f e) es, sum_by-cons (in_entry n) e es)
  in_entries-changed_at n f (e ∷ es) (suc index) =
      omega (arith, sum_by-cons (in_entry n) e (changed_at f es index), sum_by-cons (in_entry n) e es, in_entries-changed_at n f es index)

  pub in_entries-remove : (n : ℕ) (es : List (Entry C)) (index : ℕ) → in_entries n (remove es index) + in_found n (slice_get es index) ≡ in_entries n es
  in_entries-remove n [] zero = refl
  in_entries-remove n [] (suc index) = refl
  in_entries-remove n (e ∷ es) zero = omega (arith, sum_by-cons (in_entry n) e es)
  in_entries-remove n (e ∷ es) (suc index) =
      omega (arith, sum_by-cons (in_entry n) e (remove es index), sum_by-cons (in_entry n) e es, in_entries-remove n es index)

  -- a change that brings a serial in no more than k times
  pub in_entries-at_most : (n k : ℕ) (f : Entry C → Entry C) (es : List (Entry C)) (index : ℕ) → ((e : Entry C) → slice_get es index ≡ Some e → in_entry n (f e) ≤ in_entry n e + k) → in_entries n (changed_at f es index) ≤ in_entries n es + k
  in_entries-at_most n k f es index at =
      omega (arith, in_entries-changed_at n f es index, by (slice_get es index) at)
    where
      by : (o : Option (Entry C)) → ((e : Entry C) → o ≡ Some e → in_entry n (f e) ≤ in_entry n e + k) → in_found n (option_map f o) ≤ in_found n o + k
      by None at = omega arith
      by (Some e) at = at e refl

  -- A serial that is not given yet

  -- both instances of an entry were given
  abbrev pub AreGiven : ℕ → Entry C → Type 0
  AreGiven next entry = IsGiven next entry.1.current × IsGiven next entry.1.former

  in_slot-given : (next n : ℕ) (o : Option (Instance C)) → next ≤ n → IsGiven next o → in_slot n o ≡ 0
  in_slot-given next n None later given = refl
  in_slot-given next n (Some instance) later given =
      ap (λ b. if b then 1 else 0) (ne_eqb instance.serial n (λ same. absurd (omega (arith, given.1, same))))

  pub in_entries-given : (next n : ℕ) (es : List (Entry C)) → next ≤ n → All (AreGiven next) es → in_entries n es ≡ 0
  in_entries-given next n es later given =
      let nowhere : All (λ e. in_entry n e ≤ 0) es = All-weaker (AreGiven next) (λ e. in_entry n e ≤ 0) (λ e g. omega (arith, in_slot-given next n e.1.current later g.0, in_slot-given next n e.1.former later g.1)) es given in
      omega (arith, sum_by-le (in_entry n) 0 es nowhere)

  -- with an instance of the next serial still no serial is there twice
  pub once_with : (t : Table C) (instance : Instance C) → IsModuleTable t → instance.serial ≡ t.next → (n : ℕ) → in_entries n t.entries + in_slot n (Some instance) ≤ 1
  once_with t instance sound is n =
      by (instance.serial == n) refl
    where
      by : (b : Bool) → (instance.serial == n) ≡ b → in_entries n t.entries + in_slot n (Some instance) ≤ 1
      by true same =
          let here : in_slot n (Some instance) ≡ 1 = ap (λ b. if b then 1 else 0) same in
          let later : t.next ≤ n = omega (arith, is, eqb-true instance.serial n same) in
          omega (arith, here, in_entries-given t.next n t.entries later sound.given)
      by false differs =
          let nowhere : in_slot n (Some instance) ≡ 0 = ap (λ b. if b then 1 else 0) differs in
          omega (arith, nowhere, sound.once n)
