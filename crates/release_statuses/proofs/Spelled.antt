-- Releases that stand under texts of their versions: what a text finds among them, and what a change of them is.
use Rattle.std.proofs.Common.{◌≡◌, ℕ, zero, suc, ◌+◌, ◌≤◌, Bool, not, cond, List, [], ◌∷◌, ◌++◌, length, map, insert, slice_get}
use Rattle.std.proofs.Common.{None, Some, String, string_bytes, refl, sym, ap, ◌∙◌}
use Rattle.std.specs.List.{position, position_or_len}
use Rattle.std.specs.Map.{keys_of, values_of, lookup}
use Rattle.std.specs.Prelude.{nat_lt}
use Rattle.std.specs.Str.{IsUtf8, bytes_eq, chars}
use Rattle.std.specs.String.{string_eq}
use Rattle.std.proofs.lemmas.List.{length-map}
use Rattle.std.proofs.lemmas.List.Elements.{All-head, All-tail}
use Rattle.std.proofs.lemmas.Str.{IsUtf8-string_bytes}
use Rattle.std.proofs.lemmas.Option.{same_Some}
use Rattle.indexmap.specs.IndexMap.{IndexMap, insert_entry, insert_index, move_index, set_value_at}
use Rattle.indexmap.proofs.CallerLemmas.{insert_entry-new}
use Rattle.indexmap.proofs.MapLemmas.{Missing-position, absent_from_lookup, index-absent, or_len-absent}
use Rattle.indexmap.proofs.MoveLemmas.{push_moved}
use Rattle.values.specs.Edits.{changed_at}
use Rattle.values.proofs.Edits.{All-changed_at, All-slice_get}
use Rattle.release_statuses.specs.declared.listed.Listed.{Listed}
use Rattle.release_statuses.specs.declared.status.Status.{Status}
use Rattle.release_statuses.specs.Spelling.{AreSpelled, IsSpelled, Spells}
use Rattle.release_statuses.specs.Statuses.{index_of, vsn_of, with_status}
use Rattle.release_statuses.proofs.Texts.{bytes_eq-chars}

abbrev Entries : Type 0 → Type 0
Entries Z = List (String Z × Listed)

module _ {Z : Type 0} where
  -- the test of a key by a text
  abbrev pub is_key : List ℕ → String Z → Bool
  is_key text key = bytes_eq text (string_bytes key)

  -- it is the test of the version by the text's characters
  is_key-spelled : (text : List ℕ) (key : String Z) (it : Listed) → IsUtf8 text → Spells key it →
      is_key text key ≡ bytes_eq (chars text) (vsn_of it)
  is_key-spelled text key it whole spells =
      bytes_eq-chars text (string_bytes key) whole (IsUtf8-string_bytes key) ∙ ap (bytes_eq (chars text)) spells

  first-spelled : (text : List ℕ) (es : Entries Z) → IsUtf8 text → AreSpelled es →
      position_or_len (is_key text) (keys_of es) ≡ position_or_len (λ it. bytes_eq (chars text) (vsn_of it)) (values_of es)
  first-spelled text [] whole spelled = refl
  first-spelled text (e ∷ es) whole spelled =
      let test = is_key-spelled text e.0 e.1 whole (All-head IsSpelled e es spelled) in
      let others = first-spelled text es whole (All-tail IsSpelled e es spelled) in
      λ i. cond (not (test i)) (1 + others i) 0

  -- a text finds the release of its version
  pub index-spelled : (text : List ℕ) (es : Entries Z) → IsUtf8 text → AreSpelled es →
      position (is_key text) (keys_of es) ≡ index_of (chars text) (values_of es)
  index-spelled text es whole spelled =
      let first = first-spelled text es whole spelled in
      let long = length-map es (λ e. e.0) ∙ sym (length-map es (λ e. e.1)) in
      λ i. cond (nat_lt (first i) (long i)) (Some (first i)) None

  -- nothing stands under a text of a version that no release has
  pub lookup-absent : (text : List ℕ) (es : Entries Z) → IsUtf8 text → AreSpelled es →
      index_of (chars text) (values_of es) ≡ None → lookup (is_key text) es ≡ None
  lookup-absent text es whole spelled none =
      (Missing-position (is_key text) es (index-spelled text es whole spelled ∙ none)).value

  -- and no release has the version of a text under which nothing stands
  pub index-absent_text : (text : List ℕ) (es : Entries Z) → IsUtf8 text → AreSpelled es → lookup (is_key text) es ≡ None →
      index_of (chars text) (values_of es) ≡ None
  index-absent_text text es whole spelled none =
      sym (index-spelled text es whole spelled) ∙ index-absent (is_key text) es (absent_from_lookup (is_key text) es none)

  -- no release stands under a text of a version that none has
  pub unlisted : (es : Entries Z) (key : String Z) (it : Listed) → AreSpelled es → Spells key it →
      index_of (vsn_of it) (values_of es) ≡ None → lookup (string_eq key) es ≡ None
  unlisted es key it spelled spells none =
      lookup-absent (string_bytes key) es (IsUtf8-string_bytes key) spelled (ap (λ v. index_of v (values_of es)) spells ∙ none)

  -- such a release goes last
  pub entries-pushed : {S : Type 0} (m : IndexMap (String Z) Listed S) (key : String Z) (it : Listed) →
      lookup (string_eq key) m.entries ≡ None → insert_entry string_eq m.entries key it ≡ m.entries ++ (key, it) ∷ []
  entries-pushed m key it absent = insert_entry-new string_eq m key it absent

  -- or to an index
  pub entries-put : {S : Type 0} (m : IndexMap (String Z) Listed S) (key : String Z) (it : Listed) (index : ℕ) →
      index ≤ length m.entries → lookup (string_eq key) m.entries ≡ None →
      move_index (insert_entry string_eq m.entries key it) (insert_index string_eq m key) index ≡ insert m.entries index (key, it)
  entries-put m key it index within absent =
      let last = or_len-absent (string_eq key) m.entries (absent_from_lookup (string_eq key) m.entries absent) in
      (λ j. move_index (entries-pushed m key it absent j) (last j) index) ∙ push_moved m.entries (key, it) index within

  -- a write of the release at an index is a change there
  pub entries-written : (f : Listed → Listed) (es : Entries Z) (index : ℕ) (old w : Listed) →
      slice_get (values_of es) index ≡ Some old → w ≡ f old → set_value_at es index w ≡ changed_at (λ e. (e.0, f e.1)) es index
  entries-written f [] index old w at is = refl
  entries-written f (e ∷ es) zero old w at is = ap (λ it. (e.0, it) ∷ es) (is ∙ ap f (sym (same_Some e.1 old at)))
  entries-written f (e ∷ es) (suc index) old w at is = ap (λ rest. e ∷ rest) (entries-written f es index old w at is)

  pub values-changed : (f : Listed → Listed) (es : Entries Z) (index : ℕ) →
      values_of (changed_at (λ e. (e.0, f e.1)) es index) ≡ changed_at f (values_of es) index
  values-changed f [] index = refl
  values-changed f (e ∷ es) zero = refl
  values-changed f (e ∷ es) (suc index) = ap (λ its. e.1 ∷ its) (values-changed f es index)

  -- with another status it stands under its text still
  pub spelled-changed : (status : Status) (es : Entries Z) (index : ℕ) → AreSpelled es →
      AreSpelled (changed_at (λ e. (e.0, with_status status e.1)) es index)
  spelled-changed status es index spelled =
      All-changed_at IsSpelled (λ e. (e.0, with_status status e.1)) es index spelled
      (λ e at. All-slice_get IsSpelled es index e spelled at)

pub map-insert : {A B : Type 0} (h : A → B) (xs : List A) (i : ℕ) (x : A) → map h (insert xs i x) ≡ insert (map h xs) i (h x)
map-insert h xs zero x = refl
map-insert h [] (suc i) x = refl
map-insert h (y ∷ ys) (suc i) x = ap (λ zs. h y ∷ zs) (map-insert h ys i x)
