-- Lemmas on runs: one of them counted once more, and what they hold of replies.
use Rattle.std.proofs.Common.{◌≡◌, ◌+◌, ◌-◌, ◌<◌, ℕ, zero, suc, List, [], ◌∷◌, ◌++◌, All, length, replicate, slice_index_or, slice_set, refl, sym, ap, ◌∙◌, arith}
use Rattle.std.proofs.lemmas.Grind.{common_steps}
use Rattle.std.proofs.lemmas.List.{append_assoc, append-nil}
use Rattle.std.proofs.lemmas.List.Concat.{flat_map-append}
use Rattle.std.proofs.lemmas.List.Elements.{All-head, All-tail}
use Rattle.std.specs.List.{flat_map}
use Rattle.entry_lists.specs.Entries.{IsRun, entries_of, written_out}
use Rattle.entry_lists.specs.Replies.{replies_by_run}
use Rattle.entry_lists.specs.declared.entries.Run.{Run}

module _ {E : Type 0} where
  -- One of the last run more is one more entry behind all others.

  behind : (run : Run E) (runs : List (Run E)) (last : Run E) → last ≡ slice_index_or (run ∷ runs) (length runs) last → written_out (slice_set (run ∷ runs) (length runs) (record { entry = last.entry; count = last.count + 1 })) ≡ written_out (run ∷ runs) ++ last.entry ∷ []
  behind run [] last is = grind (arith, common_steps)
  behind run (next ∷ runs) last is =
      let front = replicate run.count run.entry in
      ap (λ es. front ++ es) (behind next runs last is) ∙ sym (append_assoc front (written_out (next ∷ runs)) (last.entry ∷ []))

  pub written_out-count_last : (runs : List (Run E)) (last : Run E) → 0 < length runs → last ≡ slice_index_or runs (length runs - 1) last → written_out (slice_set runs (length runs - 1) (record { entry = last.entry; count = last.count + 1 })) ≡ written_out runs ++ last.entry ∷ []
  written_out-count_last [] last some is = absurd (let no : ⊥ = omega (arith, some) in no)
  written_out-count_last (run ∷ runs) last some is =
      let at : length (run ∷ runs) - 1 ≡ length runs = omega arith in
      rw at (behind run runs last (is ∙ ap (λ n. slice_index_or (run ∷ runs) n last) at))

  -- a run that counts another number has the same entry
  pub entries_of-count : (runs : List (Run E)) (i : ℕ) (run : Run E) (n : ℕ) → run ≡ slice_index_or runs i run → entries_of (slice_set runs i (record { entry = run.entry; count = n })) ≡ entries_of runs
  entries_of-count [] i run n is = refl
  entries_of-count (r ∷ runs) zero run n is = ap (λ (r : Run E). r.entry ∷ entries_of runs) is
  entries_of-count (r ∷ runs) (suc i) run n is = ap (λ es. r.entry ∷ es) (entries_of-count runs i run n is)

  -- The replies of all entries are those of the runs' entries, each once: an idle entry has none.

  module _ {R : Type 0} (replies_of : E → List R) where
    of_none : (e : E) (n : ℕ) → replies_of e ≡ [] → flat_map replies_of (replicate n e) ≡ []
    of_none e zero none = refl
    of_none e (suc n) none = rw none (of_none e n none)

    module _ (IsIdle : E → Type 0) (idle_without_replies : (e : E) → IsIdle e → replies_of e ≡ []) where
      of_count : (e : E) (n : ℕ) → 0 < n → (1 < n → IsIdle e) → flat_map replies_of (replicate n e) ≡ replies_of e
      of_count e zero some idle = absurd (let no : ⊥ = omega (arith, some) in no)
      of_count e (suc zero) some idle = append-nil (replies_of e)
      of_count e (suc (suc n)) some idle =
          let none = idle_without_replies e (idle (omega arith)) in
          of_none e (suc (suc n)) none ∙ sym none

      pub flat_map-written_out : (runs : List (Run E)) → All (IsRun IsIdle) runs → flat_map replies_of (written_out runs) ≡ flat_map (λ list. list) (replies_by_run replies_of runs)
      flat_map-written_out [] counts = refl
      flat_map-written_out (run ∷ runs) counts =
          let is = All-head (IsRun IsIdle) run runs counts in
          let rest = flat_map-written_out runs (All-tail (IsRun IsIdle) run runs counts) in
          flat_map-append replies_of (replicate run.count run.entry) (written_out runs) ∙ ap (λ rs. rs ++ flat_map replies_of (written_out runs)) (of_count run.entry run.count is.some is.idle) ∙ ap (λ rs. replies_of run.entry ++ rs) rest
