-- The modules' entries are gone through, and their names put where they belong.
use Rattle.std.proofs.Common.{◌≡◌, ◌+◌, ℕ, zero, suc, Bool, true, false, not, cond, List, [], ◌∷◌, slice_get, take, Option, None, Some, option_and_then, refl, sym, ap, subst, ◌∙◌, arith}
use Rattle.std.specs.Prelude.{◌&&◌, ◌||◌}
use Rattle.std.specs.List.{AllByRecursion, IsDistinct, filter, list_any}
use Rattle.std.specs.Map.{keys_of, lookup}
use Rattle.std.specs.Str.{bytes_eq}
use Rattle.std.proofs.lemmas.Bool.{and_parts, true≢false}
use Rattle.std.proofs.lemmas.Map.Entries.{lookup_head, lookup_tail}
use Rattle.std.proofs.lemmas.Map.Views.{any-filter_same}
use Rattle.std.proofs.lemmas.Slice.Eq.{bytes_eq-Decides}
use Rattle.code_loading.specs.Loading.{is_lingered_in}
use Rattle.code_server.specs.Modules.{Entry, IsModuleTable, Table as Loaded, post_of}
use Rattle.code_server.specs.declared.modules.Slots.{Slots}
use Rattle.erl_ir.specs.Module.{Forms}
use Rattle.process_store.specs.Table.{Table}
use Rattle.release_words.specs.declared.purge.Purge.{Purge}
use Rattle.release_words.specs.declared.purge.Purge.TheVariants.{Brutal, Soft}
use Rattle.unpurged_code.proofs.Rising.{among_with, both_true, one_rising, rises_filter, rises_with}
use Rattle.unpurged_code.specs.Names.{ByName, is_among, with_name}
use Rattle.unpurged_code.specs.Unpurged.{AreNoted, AreSwept, is_kind, is_left_alone, with_entry}

-- The entries up to an index.

any_at : {X : Type 0} → (X → Bool) → Option X → Bool
any_at test None = false
any_at test (Some x) = test x

or_over : (a b c : Bool) → (a || (b || c)) ≡ ((a || b) || c)
or_over true b c = refl
or_over false b c = refl

or_false : (a : Bool) → a ≡ (a || false)
or_false true = refl
or_false false = refl

any_next : {X : Type 0} (test : X → Bool) (es : List X) (index : ℕ) → list_any test (take (suc index) es) ≡ (list_any test (take index es) || any_at test (slice_get es index))
unfolding any_at
any_next test [] zero = refl
any_next test [] (suc index) = refl
any_next test (e ∷ es) zero = sym (or_false (test e))
any_next test (e ∷ es) (suc index) =
    ap (λ b. test e || b) (any_next test es index)
    ∙ or_over (test e) (list_any test (take index es)) (any_at test (slice_get es index))

-- Notes of a kind.

is_so_where : (kind : Purge) (o : Option Purge) → is_kind kind o ≡ true → o ≡ Some kind
is_so_where kind None is = absurd (true≢false (sym is))
is_so_where Soft (Some Soft) is = refl
is_so_where Soft (Some Brutal) is = absurd (true≢false (sym is))
is_so_where Brutal (Some Soft) is = absurd (true≢false (sym is))
is_so_where Brutal (Some Brutal) is = refl

itself_so : (kind : Purge) → is_kind kind (Some kind) ≡ true
itself_so Soft = refl
itself_so Brutal = refl

where_so : (kind : Purge) (o : Option Purge) → o ≡ Some kind → is_kind kind o ≡ true
where_so kind o is = ap (is_kind kind) is ∙ itself_so kind

module _ (kind : Purge) where
  -- whether an entry is that of a module, and its old code is noted so
  abbrev pub is_so : List ℕ → Entry Forms → Bool
  is_so k e = bytes_eq k e.0 && is_kind kind e.1.post

  -- what is gathered of these entries
  pub record Gathered (es : List (Entry Forms)) (names : List (List ℕ)) : Type 0 where
    pub rises : ByName names
    pub same : (k : List ℕ) → is_among k names ≡ list_any (is_so k) es

  pub none_gathered : (names : List (List ℕ)) → names ≡ [] → Gathered [] names
  none_gathered names is = record {
    rises = subst ByName (sym is) tt;
    same = λ k. ap (is_among k) is;
  }

  rises_entry : (e : Entry Forms) (names : List (List ℕ)) (b : Bool) → ByName names → ByName (cond b (with_name e.0 names) names)
  rises_entry e names true rises = rises_with e.0 names rises
  rises_entry e names false rises = rises

  last_so : (a c : Bool) → (c || a) ≡ (a || (c && true))
  last_so true true = refl
  last_so true false = refl
  last_so false true = refl
  last_so false false = refl

  none_so : (a c : Bool) → a ≡ (a || (c && false))
  none_so true c = refl
  none_so false true = refl
  none_so false false = refl

  among_entry : (k : List ℕ) (e : Entry Forms) (names : List (List ℕ)) (b : Bool) → is_among k (cond b (with_name e.0 names) names) ≡ (is_among k names || (bytes_eq k e.0 && b))
  among_entry k e names true = among_with k e.0 names ∙ last_so (is_among k names) (bytes_eq k e.0)
  among_entry k e names false = none_so (is_among k names) (bytes_eq k e.0)

  entry_gathered : (o : Option (Entry Forms)) (before after : List (Entry Forms)) (names : List (List ℕ)) → ((k : List ℕ) → list_any (is_so k) after ≡ (list_any (is_so k) before || any_at (is_so k) o)) → Gathered before names → Gathered after (with_entry kind o names)
  unfolding any_at
  entry_gathered None before after names next gathered = record {
    rises = gathered.rises;
    same = λ k. gathered.same k ∙ or_false (list_any (is_so k) before) ∙ sym (next k);
  }
  entry_gathered (Some e) before after names next gathered = record {
    rises = rises_entry e names (is_kind kind e.1.post) gathered.rises;
    same = λ k. among_entry k e names (is_kind kind e.1.post)
        ∙ ap (λ b. b || is_so k e) (gathered.same k) ∙ sym (next k);
  }

  pub gathered_next : (es : List (Entry Forms)) (index : ℕ) (names more : List (List ℕ)) → more ≡ with_entry kind (slice_get es index) names → Gathered (take index es) names → Gathered (take (index + 1) es) more
  gathered_next es index names more is gathered =
      let one : suc index ≡ index + 1 = omega arith in
      let next = entry_gathered (slice_get es index) (take index es) (take (suc index) es) names (λ k. any_next (is_so k) es index) gathered in
      subst (λ n. Gathered (take n es) more) one (subst (Gathered (take (suc index) es)) (sym is) next)

  -- All entries: no module has two.

  nobody : (k : List ℕ) (es : List (Entry Forms)) → AllByRecursion (λ n. bytes_eq k n ≡ false) (keys_of es) → list_any (is_so k) es ≡ false
  nobody k [] all = refl
  nobody k (e ∷ es) all =
      ap (λ b. (b && is_kind kind e.1.post) || list_any (is_so k) es) all.0 ∙ nobody k es all.1

  -- whether the old code among these instances is noted so
  at_slots : Option (Slots Forms) → Bool
  at_slots o = is_kind kind (option_and_then (λ slots. slots.post) o)

  found_by : (k : List ℕ) (e : Entry Forms) (es : List (Entry Forms)) (b : Bool) → bytes_eq k e.0 ≡ b → IsDistinct bytes_eq (keys_of (e ∷ es)) → list_any (is_so k) es ≡ at_slots (lookup (bytes_eq k) es) → ((b && is_kind kind e.1.post) || list_any (is_so k) es) ≡ at_slots (lookup (bytes_eq k) (e ∷ es))
  unfolding IsDistinct at_slots
  found_by k e es true is distinct others =
      let same = (bytes_eq-Decides k e.0).0 is in
      let none = nobody k es (subst (λ n. AllByRecursion (λ m. bytes_eq n m ≡ false) (keys_of es)) (sym same) distinct.0) in
      ap (λ b. is_kind kind e.1.post || b) none ∙ sym (or_false (is_kind kind e.1.post))
      ∙ ap at_slots (sym (lookup_head (bytes_eq k) e es is))
  found_by k e es false is distinct others = others ∙ ap at_slots (sym (lookup_tail (bytes_eq k) e es is))

  found : (k : List ℕ) (es : List (Entry Forms)) → IsDistinct bytes_eq (keys_of es) → list_any (is_so k) es ≡ at_slots (lookup (bytes_eq k) es)
  unfolding IsDistinct at_slots
  found k [] distinct = refl
  found k (e ∷ es) distinct = found_by k e es (bytes_eq k e.0) refl distinct (found k es distinct.1)

  pub all_gathered : (modules : Loaded Forms) (names : List (List ℕ)) → IsModuleTable modules → Gathered modules.entries names → AreNoted kind modules names
  unfolding at_slots
  all_gathered modules names sound gathered =
      let told : (k : List ℕ) → is_among k names ≡ is_kind kind (post_of k modules) =
      λ k. gathered.same k ∙ found k modules.entries sound.distinct in
      record {
        rises = gathered.rises;
        all = λ m is. told m ∙ where_so kind (post_of m modules) is;
        only = λ m is. is_so_where kind (post_of m modules) (sym (told m) ∙ is);
      }

-- Those in which nobody lingers.

left_false : (b : Bool) → not b ≡ true → b ≡ false
left_false true is = absurd (true≢false (sym is))
left_false false is = refl

left_true : (b : Bool) → b ≡ false → not b ≡ true
left_true b is = ap not is

pub left_alone : (modules : Loaded Forms) (t : Table) (names left : List (List ℕ)) → AreNoted Soft modules names → left ≡ filter (is_left_alone modules t) names → AreSwept modules t left
left_alone modules t names left noted is =
    let told : (k : List ℕ) → is_among k left ≡ (is_left_alone modules t k && is_among k names) =
    λ k. ap (is_among k) is ∙ any-filter_same (bytes_eq k) (is_left_alone modules t) (is_left_alone modules t k)
    (λ n same. ap (is_left_alone modules t) (sym ((bytes_eq-Decides k n).0 same))) names in
    record {
      rises = subst ByName (sym is) (rises_filter (is_left_alone modules t) names noted.rises);
      all = λ m swept. told m ∙ ap (λ b. b && is_among m names) (left_true (is_lingered_in m modules t) swept.1) ∙ noted.all m swept.0;
      only = λ m there.
          let both = and_parts (is_left_alone modules t m) (is_among m names) (sym (told m) ∙ there) in
          (noted.only m both.1, left_false (is_lingered_in m modules t) both.0);
    }

-- There is one list.

pub one_noted : (kind : Purge) (modules : Loaded Forms) (xs ys : List (List ℕ)) → AreNoted kind modules xs → AreNoted kind modules ys → xs ≡ ys
one_noted kind modules xs ys one other =
    one_rising xs ys one.rises other.rises (λ k. both_true (is_among k xs) (is_among k ys)
    (λ there. other.all k (one.only k there)) (λ there. one.all k (other.only k there)))

pub one_swept : (modules : Loaded Forms) (t : Table) (xs ys : List (List ℕ)) → AreSwept modules t xs → AreSwept modules t ys → xs ≡ ys
one_swept modules t xs ys one other =
    one_rising xs ys one.rises other.rises (λ k. both_true (is_among k xs) (is_among k ys)
    (λ there. other.all k (one.only k there)) (λ there. one.all k (other.only k there)))
