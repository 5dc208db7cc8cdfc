-- Lemmas on what was found: as before, a reply further, a run further, with more entries behind, and at the end.
use Rattle.std.proofs.Common.{◌≡◌, ◌<◌, ◌≤◌, ℕ, List, [], ◌∷◌, ◌++◌, All, filter, length, map, nat_eq, slice_index_or, refl, sym, ap, subst, ◌∙◌, ⊎_elim, arith, length-append}
use Rattle.std.proofs.lemmas.Bool.{cases_lt}
use Rattle.std.proofs.lemmas.List.{get_or_append_left, get_or_past, length-map, map-append}
use Rattle.entry_lists.specs.Entries.{GrowsAtEnd, IsRun, entries_of, written_out}
use Rattle.entry_lists.specs.Found.{HasLooked, list_of}
use Rattle.entry_lists.specs.Replies.{replies_by_run, replies_to}
use Rattle.entry_lists.specs.declared.entries.Run.{Run}
use Rattle.entry_lists.specs.declared.found.Found.{Found}
use Rattle.entry_lists.proofs.Fronts.{front_of-all, front_of-append}
use Rattle.entry_lists.proofs.Runs.{flat_map-written_out}

module _ {R : Type 0} (client_of : R → ℕ) where
  -- with more lists behind
  pub HasLooked-append : (replies more : List (List R)) (found : Found R) → HasLooked client_of replies found → HasLooked client_of (replies ++ more) found
  HasLooked-append replies more found looked =
      let before : found.run < length replies → found.reply ≤ length (slice_index_or (replies ++ more) found.run []) =
      λ within. subst (λ list. found.reply ≤ length list) (sym (get_or_append_left replies more [] found.run within)) looked.reply in
      let past : length replies ≤ found.run → found.reply ≤ length (slice_index_or (replies ++ more) found.run []) =
      λ past. omega (arith, looked.reply, ap length (get_or_past replies found.run [] past)) in
      record {
        run = omega (arith, looked.run, length-append replies more);
        reply = ⊎_elim before past (cases_lt found.run (length replies));
        lists = λ client. looked.lists client ∙ ap (filter (λ r. nat_eq (client_of r) client)) (sym (front_of-append replies more found.run found.reply looked.run looked.reply));
      }

  module _ {E : Type 0} (replies_of : E → List R) where
    by_entries : (runs : List (Run E)) → replies_by_run replies_of runs ≡ map replies_of (entries_of runs)
    by_entries [] = refl
    by_entries (run ∷ runs) = ap (λ list. replies_of run.entry ∷ list) (by_entries runs)

    -- with more entries behind
    pub HasLooked-grow : (old new : List (Run E)) (found : Found R) → GrowsAtEnd (entries_of old) (entries_of new) → HasLooked client_of (replies_by_run replies_of old) found → HasLooked client_of (replies_by_run replies_of new) found
    HasLooked-grow old new found grow looked =
        let lists = by_entries new ∙ ap (map replies_of) grow.1 ∙ map-append replies_of (entries_of old) grow.0 ∙ ap (λ list. list ++ map replies_of grow.0) (sym (by_entries old)) in
        subst (λ list. HasLooked client_of list found) (sym lists) (HasLooked-append (replies_by_run replies_of old) (map replies_of grow.0) found looked)

    -- at the end
    pub HasLooked-all : (IsIdle : E → Type 0) → ((e : E) → IsIdle e → replies_of e ≡ []) → (runs : List (Run E)) (found : Found R) → All (IsRun IsIdle) runs → length runs ≤ found.run → HasLooked client_of (replies_by_run replies_of runs) found → (client : ℕ) → list_of found.lists client ≡ replies_to replies_of client_of client (written_out runs)
    HasLooked-all IsIdle idle_without_replies runs found counts past looked client =
        looked.lists client ∙ ap (filter (λ r. nat_eq (client_of r) client)) (front_of-all (replies_by_run replies_of runs) found.run found.reply (omega (arith, past, length-map runs (λ (run : Run E). replies_of run.entry))) ∙ sym (flat_map-written_out replies_of IsIdle idle_without_replies runs counts))
