-- Current code becomes old, and is purged later as PostPurge says.
use Rattle.std.proofs.Common.{◌≡◌, ℕ, List, is_some, Option, None, Some, option_and_then, option_map, refl, sym, ap, ◌∙◌}
use Rattle.std.specs.Prelude.{◌+◌}
use Rattle.std.proofs.lemmas.Option.{none-some, same_Some}
use Rattle.values.proofs.Edits.{slice_get-changed_at}
use Rattle.code_server.proofs.Changes.{purged-kept}
use Rattle.code_server.proofs.Reloads.{index_of-with_slots}
use Rattle.code_server.proofs.Standing.{Stands-index, absent_from_index}
use Rattle.code_server.specs.Modules.{Entry, Table as Loaded, current_of, deleted, deleted_at, loaded, loaded_at, noted, index_of, post_of, purged, purged_slots, removed, retired, slots_of, stacked, with_slots}
use Rattle.code_server.specs.declared.modules.Instance.{Instance}
use Rattle.code_server.specs.declared.modules.Slots.{Slots}
use Rattle.erl_ir.specs.Module.{Forms}
use Rattle.release_words.specs.declared.purge.Purge.{Purge}

-- a module's instances change where it stands
changed : (f : Slots Forms → Slots Forms) (m : List ℕ) (t : Loaded Forms) (next index : ℕ) → index_of m t.entries ≡ Some index → slots_of m (record { entries = with_slots f t.entries index; next = next }) ≡ option_map f (slots_of m t)
changed f m t next index at =
    let now : Loaded Forms = record { entries = with_slots f t.entries index; next = next } in
    let here = Stands-index m t.entries index at in
    let there = Stands-index m now.entries index (index_of-with_slots f m t.entries index at) in
    let is : (m, there.slots) ≡ (m, f here.slots) =
    same_Some (m, there.slots) (m, f here.slots) (sym there.entry ∙ slice_get-changed_at (λ (e : Entry Forms). (e.0, f e.1)) t.entries index (m, here.slots) here.entry) in
    there.value ∙ ap (λ (e : Entry Forms). Some e.1) is ∙ ap (option_map f) (sym here.value)

-- how code is purged later that was current
aged : (g : Slots Forms → Slots Forms) (post : Option Purge) → ((s : Slots Forms) → (g s).post ≡ noted post s.current) → (o : Option (Slots Forms)) (i : Instance Forms) → option_and_then (λ (s : Slots Forms). s.current) o ≡ Some i → option_and_then (λ (s : Slots Forms). s.post) (option_map g (option_map purged_slots o)) ≡ post
aged g post later None i is = absurd (none-some i is)
aged g post later (Some s) i is = later (purged_slots s) ∙ ap (noted post) is

aged_at : (g : Slots Forms → Slots Forms) (post : Option Purge) → ((s : Slots Forms) → (g s).post ≡ noted post s.current) → (m : List ℕ) (t : Loaded Forms) (next index : ℕ) (i : Instance Forms) → index_of m t.entries ≡ Some index → current_of m t ≡ Some i → post_of m (record { entries = with_slots g (with_slots purged_slots t.entries index) index; next = next }) ≡ post
aged_at g post later m t next index i at is =
    let kept : Loaded Forms = record { entries = with_slots purged_slots t.entries index; next = t.next } in
    ap (option_and_then (λ (s : Slots Forms). s.post))
    (changed g m kept next index (index_of-with_slots purged_slots m t.entries index at)
    ∙ ap (option_map g) (changed purged_slots m t t.next index at))
    ∙ aged g post later (slots_of m t) i is

loaded_by : (m : List ℕ) (code : Forms) (i : Instance Forms) (post : Option Purge) (t : Loaded Forms) (o : Option ℕ) → index_of m t.entries ≡ o → current_of m t ≡ Some i → post_of m (loaded m code post (purged m t)) ≡ post
loaded_by m code i post t None at is =
    absurd (none-some i (sym (ap (option_and_then (λ (s : Slots Forms). s.current)) (absent_from_index m t.entries at)) ∙ is))
loaded_by m code i post t (Some index) at is =
    let kept : Loaded Forms = record { entries = with_slots purged_slots t.entries index; next = t.next } in
    let new : Instance Forms = record { serial = t.next; code = code } in
    ap (λ x. post_of m (loaded m code post x)) (purged-kept m t index at (ap is_some is))
    ∙ ap (λ o. post_of m (record { entries = loaded_at o m post new kept.entries; next = t.next + 1 })) (index_of-with_slots purged_slots m t.entries index at)
    ∙ aged_at (stacked post new) post (λ s. refl) m t (t.next + 1) index i at is

removed_by : (m : List ℕ) (i : Instance Forms) (post : Option Purge) (t : Loaded Forms) (o : Option ℕ) → index_of m t.entries ≡ o → current_of m t ≡ Some i → post_of m (removed m post t) ≡ post
removed_by m i post t None at is =
    absurd (none-some i (sym (ap (option_and_then (λ (s : Slots Forms). s.current)) (absent_from_index m t.entries at)) ∙ is))
removed_by m i post t (Some index) at is =
    let kept : Loaded Forms = record { entries = with_slots purged_slots t.entries index; next = t.next } in
    ap (λ x. post_of m (deleted m post x)) (purged-kept m t index at (ap is_some is))
    ∙ ap (λ o. post_of m (record { entries = deleted_at o post kept.entries; next = t.next })) (index_of-with_slots purged_slots m t.entries index at)
    ∙ aged_at (retired post) post (λ s. refl) m t t.next index i at is

pub loads_note : (m : List ℕ) (code : Forms) (i : Instance Forms) (post : Option Purge) (modules : Loaded Forms) → current_of m modules ≡ Some i → post_of m (loaded m code post (purged m modules)) ≡ post
loads_note m code i post modules is = loaded_by m code i post modules (index_of m modules.entries) refl is

pub removes_note : (m : List ℕ) (i : Instance Forms) (post : Option Purge) (modules : Loaded Forms) → current_of m modules ≡ Some i → post_of m (removed m post modules) ≡ post
removes_note m i post modules is = removed_by m i post modules (index_of m modules.entries) refl is
