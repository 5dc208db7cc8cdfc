-- A purge and a delete in one: what it does where the module stands.
use Rattle.std.proofs.Common.{◌≡◌, ℕ, true, false, List, remove, Option, None, Some, is_some, option_and_then, position, refl, sym, ap, ◌∙◌}
use Rattle.std.specs.Str.{bytes_eq}
use Rattle.indexmap.proofs.MapLemmas.{some_index}
use Rattle.values.proofs.Edits.{changed_at-twice}
use Rattle.code_server.specs.declared.modules.Slots.{Slots}
use Rattle.code_server.specs.Modules.{Entry, IsModuleTable, Table, current_of, deleted, deleted_at, index_of, purged, purged_slots, removed, retired, with_slots}
use Rattle.code_server.proofs.Changes.{none_from_test, purged-absent, purged-gone, purged-kept}
use Rattle.code_server.proofs.Reloads.{index_of-with_slots}
use Rattle.code_server.proofs.Standing.{Stands-index}
use Rattle.release_words.specs.declared.purge.Purge as words

module _ {C : Type 0} where
  deleted-found : (name : List ℕ) (post : Option words.Purge) (t : Table C) (index : ℕ) → index_of name t.entries ≡ Some index → deleted name post t ≡ record { entries = with_slots (retired post) t.entries index; next = t.next }
  deleted-found name post t index found = (λ j. record { entries = deleted_at (found j) post t.entries; next = t.next })

  deleted-absent : (name : List ℕ) (post : Option words.Purge) (t : Table C) → index_of name t.entries ≡ None → deleted name post t ≡ t
  deleted-absent name post t absent = (λ j. record { entries = deleted_at (absent j) post t.entries; next = t.next })

  pub removed-kept : (name : List ℕ) (post : Option words.Purge) (t : Table C) (index : ℕ) → index_of name t.entries ≡ Some index → is_some (current_of name t) ≡ true → removed name post t ≡ record { entries = with_slots (retired post) t.entries index; next = t.next }
  removed-kept name post t index found has =
      let kept : Table C = record { entries = with_slots purged_slots t.entries index; next = t.next } in
      let at = Stands-index name t.entries index found in
      let twice = changed_at-twice (λ (e : Entry C). (e.0, purged_slots e.1)) (λ (e : Entry C). (e.0, retired post e.1)) (λ (e : Entry C). (e.0, retired post e.1)) t.entries index (name, at.slots) at.entry refl in
      ap (deleted name post) (purged-kept name t index found has) ∙ deleted-found name post kept index (index_of-with_slots purged_slots name t.entries index found) ∙ ap (λ es. record { entries = es; next = t.next }) twice

  pub removed-gone : (name : List ℕ) (post : Option words.Purge) (t : Table C) (index : ℕ) → IsModuleTable t → index_of name t.entries ≡ Some index → is_some (current_of name t) ≡ false → removed name post t ≡ record { entries = remove t.entries index; next = t.next }
  removed-gone name post t index sound found none =
      let gone : Table C = record { entries = remove t.entries index; next = t.next } in
      let at = Stands-index name t.entries index found in
      let nowhere = none_from_test (index_of name gone.entries) (some_index (bytes_eq name) gone.entries ∙ ap is_some (at.gone sound.distinct)) in
      ap (deleted name post) (purged-gone name t index found none) ∙ deleted-absent name post gone nowhere

  pub removed-absent : (name : List ℕ) (post : Option words.Purge) (t : Table C) → index_of name t.entries ≡ None → removed name post t ≡ t
  removed-absent name post t absent = ap (deleted name post) (purged-absent name t absent) ∙ deleted-absent name post t absent
