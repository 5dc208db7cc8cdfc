-- No removal, and no purge of several modules, leaves a process with code that is gone.
use Rattle.std.proofs.Common.{◌≡◌, ℕ, true, false, Bool, cond, List, [], ◌∷◌, is_some, slice_get, Option, None, Some, refl, sym, ap, subst, ◌∙◌}
use Rattle.std.proofs.lemmas.Option.{same_Some}
use Rattle.values.proofs.Edits.{slice_get-changed_at}
use Rattle.erl_ir.specs.Module.{Forms}
use Rattle.code_server.proofs.Changes.{current_of-slots, purged-absent, purged-gone, purged-kept}
use Rattle.code_server.proofs.Removing.{removed-absent, removed-gone}
use Rattle.code_server.proofs.Reloads.{index_of-with_slots}
use Rattle.code_server.proofs.Standing.{Stands-index}
use Rattle.code_server.specs.Modules.{Entry, IsModuleTable, Table as Loaded, current_of, delete_refusal, index_of, purged, purged_slots, removed, with_slots}
use Rattle.code_server.specs.declared.error.CodeError.TheVariants.{NotLoaded, NotPurged}
use Rattle.process_store.specs.Table.{Table}
use Rattle.release_words.specs.declared.purge.Purge.{Purge}
use Rattle.code_loading.proofs.Consistency.{delete_keeps, purge_keeps}
use Rattle.code_loading.proofs.Emptied.{own_purged}
use Rattle.code_loading.specs.Consistent.{IsConsistent}
use Rattle.code_loading.specs.Laws.{PurgesKeepCode}
use Rattle.code_loading.specs.Loading.{spared}
use Rattle.code_loading.specs.Purging.{all_purged, all_spared}

-- A module that has current code is deleted once it was purged.

current_stays : (n : List ℕ) (m : Loaded Forms) (index : ℕ) → index_of n m.entries ≡ Some index → is_some (current_of n m) ≡ true → current_of n (purged n m) ≡ current_of n m
current_stays n m index at has =
    let kept : Loaded Forms = record { entries = with_slots purged_slots m.entries index; next = m.next } in
    let here = Stands-index n m.entries index at in
    let there = Stands-index n kept.entries index (index_of-with_slots purged_slots n m.entries index at) in
    let now : slice_get kept.entries index ≡ Some (n, purged_slots here.slots) = slice_get-changed_at (λ (e : Entry Forms). (e.0, purged_slots e.1)) m.entries index (n, here.slots) here.entry in
    let same : (n, there.slots) ≡ (n, purged_slots here.slots) = same_Some (n, there.slots) (n, purged_slots here.slots) (sym there.entry ∙ now) in
    ap (current_of n) (purged-kept n m index at has) ∙ current_of-slots n kept index there ∙ ap (λ (e : Entry Forms). e.1.current) same ∙ sym (current_of-slots n m index here)

can_delete : (n : List ℕ) (m : Loaded Forms) (index : ℕ) → IsModuleTable m → index_of n m.entries ≡ Some index → is_some (current_of n m) ≡ true → delete_refusal n (purged n m) ≡ None
can_delete n m index sound at has =
    let current : is_some (current_of n (purged n m)) ≡ true = ap is_some (current_stays n m index at has) ∙ has in
    (λ j. cond (current j) (cond (is_some (own_purged n m sound j)) (Some NotPurged) None) (Some NotLoaded))

-- one that has none is purged

removed_at : (n : List ℕ) (post : Option Purge) (m : Loaded Forms) (t : Table) (index : ℕ) (b : Bool) → IsConsistent m t → index_of n m.entries ≡ Some index → is_some (current_of n m) ≡ b → IsConsistent (removed n post m) (spared n m t)
removed_at n post m t index true kept at has =
    delete_keeps n post (purged n m) (spared n m t) (purge_keeps n m t kept) (can_delete n m index kept.sound at has)
removed_at n post m t index false kept at none =
    subst (λ u. IsConsistent u (spared n m t)) (purged-gone n m index at none ∙ sym (removed-gone n post m index kept.sound at none)) (purge_keeps n m t kept)

removed_by : (n : List ℕ) (post : Option Purge) (m : Loaded Forms) (t : Table) (o : Option ℕ) → IsConsistent m t → index_of n m.entries ≡ o → IsConsistent (removed n post m) (spared n m t)
removed_by n post m t None kept at =
    subst (λ u. IsConsistent u (spared n m t)) (purged-absent n m at ∙ sym (removed-absent n post m at)) (purge_keeps n m t kept)
removed_by n post m t (Some index) kept at = removed_at n post m t index (is_some (current_of n m)) kept at refl

all_keep : (ns : List (List ℕ)) (m : Loaded Forms) (t : Table) → IsConsistent m t → IsConsistent (all_purged ns m) (all_spared ns m t)
all_keep [] m t kept = kept
all_keep (n ∷ ns) m t kept = all_keep ns (purged n m) (spared n m t) (purge_keeps n m t kept)

pub purges_keep_code : PurgesKeepCode
purges_keep_code = record {
  removes = λ n post m t kept. removed_by n post m t (index_of n m.entries) kept refl;
  purges = all_keep;
}
