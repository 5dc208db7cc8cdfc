-- Lemmas on what is kept by pid: what a change of one pid makes of the slots, and what lives in them.
use Rattle.std.proofs.Common.{◌≡◌, ℕ, zero, suc, ◌+◌, ◌-◌, ◌<◌, ◌≤◌, Bool, true, false, cond, List, [], ◌∷◌, ◌++◌, length, drop, filter, take, Option, None, Some, is_some, IsSome, MutBor, inl, inr, refl, sym, ap, subst, ◌∙◌, zero-add, arith, ⊎_elim}
use borrow.Follows.Closed.{read_of}
use Rattle.std.specs.List.{AllByRecursion, list_any}
use Rattle.std.specs.Option.{ghost_name_of, option_copied_mut}
use Rattle.std.specs.List.Sorted.{IsStrictlySortedBy}
use Rattle.std.specs.Map.{keys_of, lookup}
use Rattle.std.specs.Ordering.{is_eq, nat_cmp}
use Rattle.std.specs.BTreeMap.{is_at}
use Rattle.std.specs.BTreeMap.Range.{entries_between, range_contains}
use Rattle.std.specs.declared.ops.Bound.TheVariants.{Included, Unbounded}
use Rattle.std.specs.declared.cmp.Ordering.TheVariants.{Less}
use Rattle.std.proofs.lemmas.Bool.{cases_eq, cond-true, cond-false, true≢false}
use Rattle.std.proofs.lemmas.Bool.Decides.{nat_tests}
use Rattle.std.proofs.lemmas.Map.Entries.{lookup_head}
use Rattle.std.proofs.lemmas.Map.Made.{is_some-lookup}
use Rattle.std.proofs.lemmas.Option.{none-some}
use Rattle.values.specs.Edits.{changed_at}
use Rattle.process_index.specs.Standing.{alive_from, alive, standing, stands_at, vacant}

-- The order of numbers tells them apart

at_itself : (pid : ℕ) → is_eq (nat_cmp pid pid) ≡ true
at_itself pid = grind (arith, nat_tests)

at_another : (pid q : ℕ) → (q ≡ pid → ⊥) → is_eq (nat_cmp pid q) ≡ false
at_another pid q apart = grind (arith, nat_tests)

below_another : (q pid : ℕ) → q < pid → is_eq (nat_cmp q pid) ≡ false
below_another q pid below = grind (arith, nat_tests)

above_another : (q pid : ℕ) → pid < q → is_eq (nat_cmp q pid) ≡ false
above_another q pid above = grind (arith, nat_tests)

less_below : (x y : ℕ) → nat_cmp x y ≡ Less → x < y
less_below x y less = grind (arith, nat_tests)

is_from : (pid q : ℕ) → pid ≤ q → range_contains nat_cmp (Included pid) Unbounded q ≡ true
is_from pid q later = grind (arith, nat_tests)

is_before : (pid q : ℕ) → q < pid → range_contains nat_cmp (Included pid) Unbounded q ≡ false
is_before pid q before = grind (arith, nat_tests)

module _ {T : Type 0} where
  pub length-standing : (at : ℕ → Option T) (from count : ℕ) → length (standing at from count) ≡ count
  length-standing at from zero = refl
  length-standing at from (suc count) = ap suc (length-standing at (suc from) count)

  -- what stands at a pid, where nothing does past the last
  pub stands_at-standing : (at : ℕ → Option T) (from count pid there : ℕ) → there ≡ from + pid → ((q : ℕ) → from + count ≤ q → at q ≡ None) → stands_at (standing at from count) pid ≡ at there
  stands_at-standing at from zero pid there is none = sym (none there (omega (arith, is)))
  stands_at-standing at from (suc count) zero there is none = ap at (omega (arith, is))
  stands_at-standing at from (suc count) (suc pid) there is none =
      stands_at-standing at (suc from) count pid there (omega (arith, is)) (λ q past. none q (omega (arith, past)))

  pub standing_same : (f g : ℕ → Option T) (from count : ℕ) → ((q : ℕ) → from ≤ q → q < from + count → g q ≡ f q) → standing g from count ≡ standing f from count
  standing_same f g from zero same = refl
  standing_same f g from (suc count) same =
      ap (λ o. o ∷ standing g (suc from) count) (same from (omega arith) (omega arith))
      ∙ ap (λ os. f from ∷ os) (standing_same f g (suc from) count (λ q low high. same q (omega (arith, low)) (omega (arith, high))))

  -- as many pids, where nothing stands at any
  pub standing-vacant : (f g : ℕ → Option T) → ((q : ℕ) → g q ≡ None) → (from count : ℕ) → standing g from count ≡ vacant (standing f from count)
  standing-vacant f g none from zero = refl
  standing-vacant f g none from (suc count) = ap (λ o. o ∷ standing g (suc from) count) (none from) ∙ ap (λ os. None ∷ os) (standing-vacant f g none (suc from) count)

  -- one pid is changed
  pub standing-changed : (f g : ℕ → Option T) (h : Option T → Option T) (from count pid there : ℕ) → there ≡ from + pid → g there ≡ h (f there) → ((q : ℕ) → (q ≡ there → ⊥) → g q ≡ f q) → standing g from count ≡ changed_at h (standing f from count) pid
  standing-changed f g h from zero pid there is here elsewhere = refl
  standing-changed f g h from (suc count) zero there is here elsewhere =
      let first : there ≡ from = omega (arith, is) in
      ap (λ o. o ∷ standing g (suc from) count) (subst (λ k. g k ≡ h (f k)) first here)
      ∙ ap (λ os. h (f from) ∷ os) (standing_same f g (suc from) count (λ q low high. elsewhere q (λ e. absurd (omega (arith, e, low, first)))))
  standing-changed f g h from (suc count) (suc pid) there is here elsewhere =
      ap (λ o. o ∷ standing g (suc from) count) (elsewhere from (λ e. absurd (omega (arith, e, is))))
      ∙ ap (λ os. f from ∷ os) (standing-changed f g h (suc from) count pid there (omega (arith, is)) here elsewhere)

  -- one more pid stands behind the others
  pub standing-behind : (f g : ℕ → Option T) (from count there : ℕ) (it : Option T) → there ≡ from + count → g there ≡ it → ((q : ℕ) → q < there → g q ≡ f q) → standing g from (suc count) ≡ standing f from count ++ it ∷ []
  standing-behind f g from zero there it is here before =
      let first : from ≡ there = omega (arith, is) in
      ap (λ o. o ∷ []) (ap g first ∙ here)
  standing-behind f g from (suc count) there it is here before =
      ap (λ o. o ∷ standing g (suc from) (suc count)) (before from (omega (arith, is)))
      ∙ ap (λ os. f from ∷ os) (standing-behind f g (suc from) count there it (omega (arith, is)) here before)

  -- the first pids
  pub take-standing : (f : ℕ → Option T) (from count : ℕ) → take count (standing f from (suc count)) ≡ standing f from count
  take-standing f from zero = refl
  take-standing f from (suc count) = ap (λ os. f from ∷ os) (take-standing f (suc from) count)

  -- A change of one pid, as a map tells it

  abbrev pub IsUpdate : (ℕ → Option T) → (ℕ → Option T) → ℕ → Option T → Type 0
  IsUpdate f g pid now = (q : ℕ) → g q ≡ cond (is_eq (nat_cmp pid q)) now (f q)

  updated_here : (f g : ℕ → Option T) (pid : ℕ) (now : Option T) → IsUpdate f g pid now → g pid ≡ now
  updated_here f g pid now update = update pid ∙ cond-true (is_eq (nat_cmp pid pid)) now (f pid) (at_itself pid)

  updated_elsewhere : (f g : ℕ → Option T) (pid : ℕ) (now : Option T) → IsUpdate f g pid now → (q : ℕ) → (q ≡ pid → ⊥) → g q ≡ f q
  updated_elsewhere f g pid now update q apart =
      update q ∙ cond-false (is_eq (nat_cmp pid q)) now (f q) (at_another pid q apart)

  -- Nothing lives past the last pid.
  abbrev pub EndsAt : (ℕ → Option T) → ℕ → Type 0
  EndsAt f last = (q : ℕ) → last < q → f q ≡ None

  pub updated_ends : (f g : ℕ → Option T) (pid : ℕ) (now : Option T) (last end : ℕ) → EndsAt f last → last ≤ end → pid ≤ end → IsUpdate f g pid now → EndsAt g end
  updated_ends f g pid now last end ends later within update q past =
      updated_elsewhere f g pid now update q (λ e. absurd (omega (arith, e, past, within))) ∙ ends q (omega (arith, past, later))

  -- What the slots are after a change

  pub found : (f : ℕ → Option T) (last pid : ℕ) (slots : List (Option T)) → EndsAt f last → standing f 0 (suc last) ≡ slots → f pid ≡ stands_at slots pid
  found f last pid slots ends is =
      sym (stands_at-standing f 0 (suc last) pid pid (sym (zero-add pid)) (λ q past. ends q (omega (arith, past)))) ∙ ap (λ xs. stands_at xs pid) is

  pub changed : (f g : ℕ → Option T) (last pid : ℕ) (now : Option T) (slots : List (Option T)) → standing f 0 (suc last) ≡ slots → IsUpdate f g pid now → standing g 0 (suc last) ≡ changed_at (λ o. now) slots pid
  changed f g last pid now slots is update =
      standing-changed f g (λ o. now) 0 (suc last) pid pid (sym (zero-add pid)) (updated_here f g pid now update) (updated_elsewhere f g pid now update)
      ∙ ap (λ xs. changed_at (λ o. now) xs pid) is

  pub pushed : (f g : ℕ → Option T) (last pid : ℕ) (it : T) (slots : List (Option T)) → pid ≡ last + 1 → standing f 0 (suc last) ≡ slots → IsUpdate f g pid (Some it) → standing g 0 (suc pid) ≡ slots ++ Some it ∷ []
  pushed f g last pid it slots next is update =
      let next_one : pid ≡ suc last = omega (arith, next) in
      ap (λ n. standing g 0 (suc n)) next_one
      ∙ standing-behind f g 0 (suc last) pid (Some it) (omega (arith, next)) (updated_here f g pid (Some it) update) (λ q below. updated_elsewhere f g pid (Some it) update q (λ e. absurd (omega (arith, e, below))))
      ∙ ap (λ xs. xs ++ Some it ∷ []) is

  pub popped : (f g : ℕ → Option T) (last end : ℕ) (slots : List (Option T)) → last ≡ suc end → standing f 0 (suc last) ≡ slots → IsUpdate f g last None → standing g 0 (suc end) ≡ take (length slots - 1) slots
  popped f g last end slots next is update =
      let long : length slots ≡ suc last = sym (ap length is) ∙ length-standing f 0 (suc last) in
      let most : last ≡ length slots - 1 = omega (arith, long) in
      ap (standing g 0) (sym next)
      ∙ standing_same f g 0 last (λ q low high. updated_elsewhere f g last None update q (λ e. absurd (omega (arith, e, high))))
      ∙ sym (take-standing f 0 last)
      ∙ ap (take last) is
      ∙ ap (λ n. take n slots) most

  -- What lives

  -- pids that rise from one on
  abbrev Rises : ℕ → List (ℕ × T) → Type 0
  Rises from [] = Unit {0}
  Rises from (e ∷ es) = (from ≤ e.0) × Rises (suc e.0) es

  rises_behind : (pid : ℕ) (es : List (ℕ × T)) → AllByRecursion (λ k. nat_cmp pid k ≡ Less) (keys_of es) → IsStrictlySortedBy nat_cmp (keys_of es) → Rises (suc pid) es
  unfolding IsStrictlySortedBy
  rises_behind pid [] behind sorted = tt
  rises_behind pid (e ∷ es) behind sorted = (less_below pid e.0 behind.0, rises_behind e.0 es sorted.0 sorted.1)

  rises_from_sorted : (es : List (ℕ × T)) → IsStrictlySortedBy nat_cmp (keys_of es) → Rises 0 es
  unfolding IsStrictlySortedBy
  rises_from_sorted [] sorted = tt
  rises_from_sorted (e ∷ es) sorted = (omega arith, rises_behind e.0 es sorted.0 sorted.1)

  -- what the entries have at a pid
  abbrev entry_at : List (ℕ × T) → ℕ → Option T
  entry_at es q = lookup (is_at (nat_cmp q)) es

  nothing_before : (from q : ℕ) (es : List (ℕ × T)) → q < from → Rises from es → entry_at es q ≡ None
  nothing_before from q [] below rises = refl
  nothing_before from q (e ∷ es) below rises =
      cond-false (is_eq (nat_cmp q e.0)) (Some e.1) (entry_at es q) (below_another q e.0 (omega (arith, below, rises.0))) ∙ nothing_before (suc e.0) q es (omega (arith, below, rises.0)) rises.1

  alive-standing : (es : List (ℕ × T)) (from count : ℕ) → Rises from es → ((q : ℕ) → from + count ≤ q → entry_at es q ≡ None) → alive_from from (standing (entry_at es) from count) ≡ es
  alive-standing [] from zero rises none = refl
  alive-standing [] from (suc count) rises none = alive-standing [] (suc from) count tt (λ q past. refl)
  alive-standing (e ∷ es) from zero rises none =
      absurd (none-some e.1 (sym (none e.0 (omega (arith, rises.0))) ∙ lookup_head (is_at (nat_cmp e.0)) e es (at_itself e.0)))
  alive-standing (e ∷ es) from (suc count) rises none =
      let others : (q : ℕ) → e.0 < q → entry_at (e ∷ es) q ≡ entry_at es q = λ q past. cond-false (is_eq (nat_cmp q e.0)) (Some e.1) (entry_at es q) (above_another q e.0 past) in
      ⊎_elim
      (λ same.
      let here : entry_at (e ∷ es) from ≡ Some e.1 = lookup_head (is_at (nat_cmp from)) e es (subst (λ k. is_eq (nat_cmp from k) ≡ true) same (at_itself from)) in
      let rest = standing_same (entry_at es) (entry_at (e ∷ es)) (suc from) count (λ q low high. others q (omega (arith, same, low))) in
      ap (λ o. alive_from from (o ∷ standing (entry_at (e ∷ es)) (suc from) count)) here
      ∙ ap (λ os. (from, e.1) ∷ alive_from (suc from) os) rest
      ∙ ap (λ xs. (from, e.1) ∷ xs) (alive-standing es (suc from) count (subst (λ k. Rises (suc k) es) (sym same) rises.1) (λ q past. sym (others q (omega (arith, same, past))) ∙ none q (omega (arith, past))))
      ∙ ap (λ k. (k, e.1) ∷ es) same)
      (λ apart.
      let later : suc from ≤ e.0 = omega (arith, apart, rises.0) in
      let here : entry_at (e ∷ es) from ≡ None = nothing_before (suc from) from (e ∷ es) (omega arith) (later, rises.1) in
      ap (λ o. alive_from from (o ∷ standing (entry_at (e ∷ es)) (suc from) count)) here
      ∙ alive-standing (e ∷ es) (suc from) count (later, rises.1) (λ q past. none q (omega (arith, past))))
      (cases_eq from e.0)

  pub all_alive : (es : List (ℕ × T)) (last : ℕ) (slots : List (Option T)) → IsStrictlySortedBy nat_cmp (keys_of es) → EndsAt (entry_at es) last → standing (entry_at es) 0 (suc last) ≡ slots → es ≡ alive slots
  all_alive es last slots sorted ends is =
      sym (alive-standing es 0 (suc last) (rises_from_sorted es sorted) (λ q past. ends q (omega (arith, past)))) ∙ ap alive is

  -- What lives from a pid on

  abbrev from_on : ℕ → ℕ × T → Bool
  from_on pid e = range_contains nat_cmp (Included pid) Unbounded e.0

  later_all : (pid from : ℕ) (slots : List (Option T)) → pid ≤ from → filter (from_on pid) (alive_from from slots) ≡ alive_from from slots
  later_all pid from [] later = refl
  later_all pid from (None ∷ slots) later = later_all pid (suc from) slots (omega (arith, later))
  later_all pid from (Some it ∷ slots) later =
      ap (λ b. cond b ((from, it) ∷ filter (from_on pid) (alive_from (suc from) slots)) (filter (from_on pid) (alive_from (suc from) slots))) (is_from pid from later)
      ∙ ap (λ es. (from, it) ∷ es) (later_all pid (suc from) slots (omega (arith, later)))

  later_only : (pid from skipped : ℕ) (slots : List (Option T)) → pid ≡ from + skipped → filter (from_on pid) (alive_from from slots) ≡ alive_from pid (drop skipped slots)
  later_only pid from zero slots at =
      let first : pid ≡ from = omega (arith, at) in
      later_all pid from slots (omega (arith, first)) ∙ ap (λ k. alive_from k slots) (sym first)
  later_only pid from (suc skipped) [] at = refl
  later_only pid from (suc skipped) (None ∷ slots) at = later_only pid (suc from) skipped slots (omega (arith, at))
  later_only pid from (suc skipped) (Some it ∷ slots) at =
      ap (λ b. cond b ((from, it) ∷ filter (from_on pid) (alive_from (suc from) slots)) (filter (from_on pid) (alive_from (suc from) slots))) (is_before pid from (omega (arith, at)))
      ∙ later_only pid (suc from) skipped slots (omega (arith, at))

  pub later_alive : (pid : ℕ) (es : List (ℕ × T)) (slots : List (Option T)) → es ≡ alive slots → entries_between nat_cmp (Included pid) Unbounded es ≡ alive_from pid (drop pid slots)
  later_alive pid es slots is =
      ap (filter (from_on pid)) is ∙ later_only pid 0 pid slots (sym (zero-add pid))

  -- What was lent

  absent_unless : (o : Option T) → is_some o ≡ false → o ≡ None
  absent_unless None absent = refl
  absent_unless (Some it) absent = absurd (true≢false absent)

  -- entries that have the pids of others end where they end
  pub lent_ends : (es fs : List (ℕ × T)) (last : ℕ) → keys_of fs ≡ keys_of es → EndsAt (entry_at es) last → EndsAt (entry_at fs) last
  lent_ends es fs last same ends q past =
      let alike : is_some (entry_at fs q) ≡ is_some (entry_at es q) = is_some-lookup (is_at (nat_cmp q)) fs ∙ ap (list_any (is_at (nat_cmp q))) same ∙ sym (is_some-lookup (is_at (nat_cmp q)) es) in
      absent_unless (entry_at fs q) (alike ∙ ap is_some (ends q past))

  -- what the slots end as, by what was last written, where something was lent, or else as they were
  pub same_read : {A : Type 0} (lent : Option (MutBor T)) (f g : T → A) (v w : A) → (IsSome lent → (it : T) → f it ≡ g it) → v ≡ w → read_of (ghost_name_of lent) f v ≡ read_of (ghost_name_of lent) g w
  same_read None f g v w same none = ap inr none
  same_read (Some r) f g v w same none = λ i. inl (r.ghost_name, λ it. same refl it i)

  pub lent_some : (lent : Option (MutBor T)) (o : Option T) → option_copied_mut lent ≡ o → IsSome lent → IsSome o
  lent_some None o is some = absurd (true≢false (sym some))
  lent_some (Some r) o is some = subst IsSome is refl
