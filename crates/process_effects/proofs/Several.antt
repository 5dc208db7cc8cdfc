-- Of several processes those leave that live.
use Rattle.std.proofs.Common.{◌≡◌, ℕ, zero, suc, All, List, [], ◌∷◌, ◌++◌, map, Option, None, refl, sym, ap, ◌∙◌}
use Rattle.std.proofs.lemmas.List.{append_assoc, map-append}
use Rattle.std.proofs.lemmas.List.Elements.{All-push, All-same}
use Rattle.process_store.specs.declared.living.ProcessEntry.{ProcessEntry}
use Rattle.process_store.specs.Table.{Table, living, living_at}
use Rattle.process_store.specs.Vacating.{vacated, vacated_slots}
use Rattle.process_store.proofs.Vacating.{vacated_nobody}
use Rattle.process_effects.specs.Ends.{HasCodeRefs, all_vacated}
use Rattle.process_effects.specs.declared.ending.ToldProcess.{ToldProcess}

-- where nobody lives, nobody does when others have left

still_nobody : (slots : List (Option ProcessEntry)) (q pid : ℕ) → living_at slots pid ≡ None → living_at (vacated_slots q slots) pid ≡ None
still_nobody [] q pid is = is
still_nobody (s ∷ ss) zero zero is = refl
still_nobody (s ∷ ss) zero (suc pid) is = is
still_nobody (s ∷ ss) (suc q) zero is = is
still_nobody (s ∷ ss) (suc q) (suc pid) is = still_nobody ss q pid is

nobody_left : (qs : List ℕ) (pid : ℕ) (t : Table) → living pid t ≡ None → living pid (all_vacated qs t) ≡ None
nobody_left [] pid t is = is
nobody_left (q ∷ qs) pid t is = still_nobody (all_vacated qs t).slots q pid (nobody_left qs pid t is)

-- so such a pid is passed over
pub passed_over : (qs : List ℕ) (pid : ℕ) (others : List ℕ) (t : Table) → living pid t ≡ None → all_vacated (qs ++ others) t ≡ all_vacated (qs ++ pid ∷ others) t
passed_over [] pid others t is = sym (ap (λ (x : List (Option ProcessEntry)). record { slots = x }) (vacated_nobody (all_vacated others t).slots pid (nobody_left others pid t is)))
passed_over (q ∷ qs) pid others t is = ap (vacated q) (passed_over qs pid others t is)

-- one that lives is told

pub pids_next : (ps now : List ToldProcess) (p : ToldProcess) (others : List ℕ) → now ≡ ps ++ p ∷ [] → map (λ q. q.pid) now ++ others ≡ map (λ q. q.pid) ps ++ p.pid ∷ others
pids_next ps now p others is =
    ap (λ xs. map (λ (q : ToldProcess). q.pid) xs ++ others) is
    ∙ ap (λ xs. xs ++ others) (map-append (λ (q : ToldProcess). q.pid) ps (p ∷ []))
    ∙ append_assoc (map (λ (q : ToldProcess). q.pid) ps) (p.pid ∷ []) others

pub told_next : (t : Table) (ps now : List ToldProcess) (p : ToldProcess) → All (λ q. HasCodeRefs q.told (living q.pid t)) ps → HasCodeRefs p.told (living p.pid t) → now ≡ ps ++ p ∷ [] → All (λ q. HasCodeRefs q.told (living q.pid t)) now
told_next t ps now p all one is =
    All-same (λ q. HasCodeRefs q.told (living q.pid t)) now (ps ++ p ∷ []) is (All-push (λ q. HasCodeRefs q.told (living q.pid t)) ps p all one)
