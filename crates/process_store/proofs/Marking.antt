-- The set of those that could take a message now, after a change of the slots.
use Rattle.std.proofs.Common.{◌≡◌, ℕ, zero, suc, ◌+◌, ◌-◌, ◌<◌, ◌≤◌, ⊎_elim, Bool, false, List, [], ◌∷◌, length, map, replicate, take, Option, None, Some, option_map, IsSome, refl, sym, ap, subst, ◌∙◌, arith}
use Rattle.std.proofs.lemmas.Bool.{cases_eq, cases_lt}
use Rattle.std.proofs.lemmas.List.{ext_get_or, get_or-append_right, get_or-replicate, get_or-take, get_or_append_left, get_or_past, length-append, length-map, length-replicate, length-take-le}
use Rattle.std.proofs.lemmas.Grind.{common_steps}
use Rattle.std.proofs.lemmas.Option.{none-some}
use Rattle.values.specs.Edits.{changed_at}
use Rattle.values.proofs.Edits.{length-changed_at}
use Rattle.ready_set.specs.Flags.{is_in}
use Rattle.process_store.specs.declared.living.ProcessEntry.{ProcessEntry}
use Rattle.process_store.specs.Living.{is_runnable}
use Rattle.process_store.specs.Ready.{IsReady, IsReadyBut, number_above, set_above}
use Rattle.process_store.specs.Table.{changed_slots, living_at}
use Rattle.process_store.proofs.Slots.{living_past}

-- An edit of the slot of one pid leaves the others alone; where nobody was, nobody is, unless the edit puts somebody there.

living_other : (g : Option ProcessEntry → Option ProcessEntry) (slots : List (Option ProcessEntry)) (pid q : ℕ) → (q ≡ pid → ⊥) → living_at (changed_at g slots pid) q ≡ living_at slots q
living_other g [] pid q apart = refl
living_other g (s ∷ ss) zero zero apart = absurd (apart refl)
living_other g (s ∷ ss) zero (suc q) apart = refl
living_other g (s ∷ ss) (suc pid) zero apart = refl
living_other g (s ∷ ss) (suc pid) (suc q) apart = living_other g ss pid q (λ e. apart (ap suc e))

nobody_edited : (g : Option ProcessEntry → Option ProcessEntry) (slots : List (Option ProcessEntry)) (pid q : ℕ) → (q ≡ pid → g None ≡ None) → living_at slots q ≡ None → living_at (changed_at g slots pid) q ≡ None
nobody_edited g [] pid q none is = is
nobody_edited g (None ∷ ss) zero zero none is = none refl
nobody_edited g (Some l ∷ ss) zero zero none is = absurd (none-some l (sym is))
nobody_edited g (s ∷ ss) zero (suc q) none is = is
nobody_edited g (s ∷ ss) (suc pid) zero none is = is
nobody_edited g (s ∷ ss) (suc pid) (suc q) none is = nobody_edited g ss pid q (λ e. none (ap suc e)) is

pub edited_but : (g : Option ProcessEntry → Option ProcessEntry) (flags : List Bool) (below : ℕ) (slots now : List (Option ProcessEntry)) (pid : ℕ) → (pid ≤ below → g None ≡ None) → IsReady flags below slots → now ≡ changed_at g slots pid → IsReadyBut pid flags below now
edited_but g flags below slots now pid none ready is = subst (IsReadyBut pid flags below) (sym is) (record {
  capacity = ready.capacity ∙ sym (length-changed_at g slots pid);
  nobody = λ q within. nobody_edited g slots pid q (λ e. none (subst (λ k. k ≤ below) e within)) (ready.nobody q within);
  others = λ q above apart. ready.marked q above ∙ ap is_runnable (sym (living_other g slots pid q apart));
})

pub changed_but : (f : ProcessEntry → ProcessEntry) (flags : List Bool) (below : ℕ) (slots now : List (Option ProcessEntry)) (pid : ℕ) → IsReady flags below slots → now ≡ changed_slots f pid slots → IsReadyBut pid flags below now
changed_but f flags below slots now pid ready is =
    edited_but (option_map f) flags below slots now pid (λ _. refl) ready is

-- Where the pid has no number, nothing is to be marked.

pub no_number : (flags : List Bool) (below : ℕ) (slots : List (Option ProcessEntry)) (pid : ℕ) → IsReadyBut pid flags below slots → pid ≤ below → IsReady flags below slots
no_number flags below slots pid ready under = record {
  capacity = ready.capacity;
  nobody = ready.nobody;
  marked = λ q past. ready.others q past (λ e. omega (arith, e, past, under));
}

pub not_given : (flags : List Bool) (below : ℕ) (slots : List (Option ProcessEntry)) (pid : ℕ) → IsReadyBut pid flags below slots → length slots ≤ pid → IsReady flags below slots
not_given flags below slots pid ready behind = record {
  capacity = ready.capacity;
  nobody = ready.nobody;
  marked = λ q past. ⊎_elim (λ (e : q ≡ pid).
      get_or_past flags (number_above below q) false (omega (arith, ready.capacity, e, behind, past)) ∙ ap is_runnable (sym (living_past slots q (omega (arith, e, behind)))))
      (λ (apart : q ≡ pid → ⊥). ready.others q past apart)
      (cases_eq q pid);
}

-- Who is in the set that begins behind a pid.

in_under : (below : ℕ) (flags : List Bool) (pid : ℕ) → pid ≤ below → is_in (set_above below flags) pid ≡ false
in_under below flags pid under =
    get_or_append_left (replicate (below + 1) false) flags false pid (omega (arith, length-replicate (below + 1) false)) ∙ get_or-replicate (below + 1) pid false false (omega arith)

in_above : (below : ℕ) (flags : List Bool) (pid : ℕ) → below < pid → is_in (set_above below flags) pid ≡ is_in flags (number_above below pid)
in_above below flags pid above =
    get_or-append_right (replicate (below + 1) false) flags (below + 1) pid false (length-replicate (below + 1) false) (omega arith) ∙ ap (is_in flags) (omega arith)

-- The set as contracts see it.

pub in_ready : (slots : List (Option ProcessEntry)) (pid : ℕ) → is_in (map is_runnable slots) pid ≡ is_runnable (living_at slots pid)
in_ready [] pid = refl
in_ready (None ∷ ss) zero = refl
in_ready (Some l ∷ ss) zero = refl
in_ready (s ∷ ss) (suc pid) = in_ready ss pid

pub ready_set : (flags : List Bool) (below : ℕ) (slots : List (Option ProcessEntry)) → IsReady flags below slots → set_above below flags ≡ map is_runnable slots
ready_set flags below slots ready =
    ext_get_or false (set_above below flags) (map is_runnable slots) (omega (arith, ready.capacity, length-append (replicate (below + 1) false) flags, length-replicate (below + 1) false, length-map slots is_runnable))
    (λ k within. ⊎_elim (λ (above : below < k). in_above below flags k above ∙ ready.marked k above ∙ sym (in_ready slots k))
    (λ (under : k ≤ below). in_under below flags k under ∙ ap is_runnable (sym (ready.nobody k under)) ∙ sym (in_ready slots k))
    (cases_lt below k))

-- The start of the last process is taken back.

nobody_lives : IsSome {T = ProcessEntry} None → ⊥
nobody_lives e = grind (arith, common_steps, e)

somebody_above : (flags : List Bool) (below : ℕ) (slots : List (Option ProcessEntry)) (pid : ℕ) → IsReady flags below slots → IsSome (living_at slots pid) → below < pid
somebody_above flags below slots pid ready lives =
    ⊎_elim (λ (above : below < pid). above) (λ (under : pid ≤ below). absurd (nobody_lives (subst IsSome (ready.nobody pid under) lives))) (cases_lt below pid)

last_number : (flags : List Bool) (below : ℕ) (slots : List (Option ProcessEntry)) → IsReady flags below slots → IsSome (living_at slots (length slots - 1)) → 0 < length flags
last_number flags below slots ready lives =
    let above = somebody_above flags below slots (length slots - 1) ready lives in
    omega (arith, above, ready.capacity)

living_taken : (slots : List (Option ProcessEntry)) (n q : ℕ) → q < n → living_at (take n slots) q ≡ living_at slots q
living_taken slots zero q within = absurd (omega (arith, within))
living_taken [] (suc n) q within = refl
living_taken (s ∷ ss) (suc n) zero within = refl
living_taken (s ∷ ss) (suc n) (suc q) within = living_taken ss n q (omega (arith, within))

pub popped_ready : (flags next : List Bool) (below : ℕ) (slots now : List (Option ProcessEntry)) → IsReady flags below slots → IsSome (living_at slots (length slots - 1)) → next ≡ take (length flags - 1) flags → now ≡ take (length slots - 1) slots → IsReady next below now
popped_ready flags next below slots now ready lives less is =
    let some = last_number flags below slots ready lives in
    let fewer : length next ≡ length flags - 1 = ap length less ∙ length-take-le (length flags - 1) flags (omega arith) in
    let last : length now ≡ length slots - 1 = ap length is ∙ length-take-le (length slots - 1) slots (omega arith) in
    record {
      capacity = omega (arith, ready.capacity, fewer, last, some);
      nobody = λ q under. ap (λ xs. living_at xs q) is ∙ living_taken slots (length slots - 1) q (omega (arith, under, ready.capacity, some)) ∙ ready.nobody q under;
      marked = λ q above. ⊎_elim (λ (within : q < length slots - 1).
          ap (λ fs. is_in fs (number_above below q)) less ∙ get_or-take (length flags - 1) flags (number_above below q) false (omega (arith, within, above, ready.capacity)) ∙ ready.marked q above ∙ ap is_runnable (sym (ap (λ xs. living_at xs q) is ∙ living_taken slots (length slots - 1) q within)))
          (λ (past : length slots - 1 ≤ q). get_or_past next (number_above below q) false (omega (arith, past, ready.capacity, fewer, above)) ∙ ap is_runnable (sym (living_past now q (omega (arith, past, last)))))
          (cases_lt q (length slots - 1));
    }
