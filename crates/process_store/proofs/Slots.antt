-- The slot of a process: what a write there is, and what is found there.
use Rattle.std.proofs.Common.{◌≡◌, ℕ, zero, suc, ◌<◌, ◌≤◌, Bool, false, List, [], ◌∷◌, ◌++◌, length, slice_get, get_or, Option, None, Some, option_map, IfSome, refl, sym, ap, ◌∙◌, arith}
use Rattle.std.proofs.lemmas.Option.{none-some, same_Some}
use Rattle.process_index.specs.Standing.{put_at, vacant}
use Rattle.process_store.specs.declared.living.ProcessEntry.{ProcessEntry}
use Rattle.process_store.specs.Table.{changed_slots, living_at}

-- what is written in the slot of a process that lives is a change of it
pub slots_changed : (f : ProcessEntry → ProcessEntry) (slots : List (Option ProcessEntry)) (pid : ℕ) (l w : ProcessEntry) → Some l ≡ living_at slots pid → w ≡ f l → put_at pid w slots ≡ changed_slots f pid slots
slots_changed f [] pid l w lives done = refl
slots_changed f (s ∷ ss) zero l w lives done = ap (λ o. o ∷ ss) (ap (λ x. Some x) done ∙ ap (option_map f) lives)
slots_changed f (s ∷ ss) (suc pid) l w lives done = ap (λ xs. s ∷ xs) (slots_changed f ss pid l w lives done)

-- what is written there takes nothing away where it is the process that was there, and is taken back by a change that gives it again

pub slots_same : (slots : List (Option ProcessEntry)) (pid : ℕ) (l w : ProcessEntry) → Some l ≡ living_at slots pid → w ≡ l → put_at pid w slots ≡ slots
slots_same [] pid l w lives same = refl
slots_same (s ∷ ss) zero l w lives same = ap (λ o. o ∷ ss) (ap (λ x. Some x) same ∙ lives)
slots_same (s ∷ ss) (suc pid) l w lives same = ap (λ xs. s ∷ xs) (slots_same ss pid l w lives same)

pub slots_put_back : (g : ProcessEntry → ProcessEntry) (slots : List (Option ProcessEntry)) (pid : ℕ) (l w : ProcessEntry) → Some l ≡ living_at slots pid → g w ≡ l → changed_slots g pid (put_at pid w slots) ≡ slots
slots_put_back g [] pid l w lives back = refl
slots_put_back g (s ∷ ss) zero l w lives back = ap (λ o. o ∷ ss) (ap (λ x. Some x) back ∙ lives)
slots_put_back g (s ∷ ss) (suc pid) l w lives back = ap (λ xs. s ∷ xs) (slots_put_back g ss pid l w lives back)

-- where nobody lives, nothing changes
pub slots_unchanged : (f : ProcessEntry → ProcessEntry) (slots : List (Option ProcessEntry)) (pid : ℕ) → living_at slots pid ≡ None → changed_slots f pid slots ≡ slots
slots_unchanged f [] pid nobody = refl
slots_unchanged f (s ∷ ss) zero nobody = ap (λ o. option_map f o ∷ ss) nobody ∙ ap (λ o. o ∷ ss) (sym nobody)
slots_unchanged f (s ∷ ss) (suc pid) nobody = ap (λ xs. s ∷ xs) (slots_unchanged f ss pid nobody)

-- Who is found after a change, and what a test says of it.
module _ (test : Option ProcessEntry → Bool) where
  -- a test that the change leaves alone says the same of everybody
  pub kept : (f : ProcessEntry → ProcessEntry) → ((l : ProcessEntry) → test (Some (f l)) ≡ test (Some l)) → (slots : List (Option ProcessEntry)) (pid q : ℕ) → test (living_at (changed_slots f pid slots) q) ≡ test (living_at slots q)
  kept f same [] pid q = refl
  kept f same (None ∷ ss) zero zero = refl
  kept f same (Some l ∷ ss) zero zero = same l
  kept f same (s ∷ ss) zero (suc q) = refl
  kept f same (s ∷ ss) (suc pid) zero = refl
  kept f same (s ∷ ss) (suc pid) (suc q) = kept f same ss pid q

  -- with one more at the end, whom the test fails
  pub kept_behind : test None ≡ false → (slots : List (Option ProcessEntry)) (s : Option ProcessEntry) → test s ≡ false → (q : ℕ) → test (living_at (slots ++ s ∷ []) q) ≡ test (living_at slots q)
  kept_behind none [] s fails zero = fails ∙ sym none
  kept_behind none [] s fails (suc q) = refl
  kept_behind none (r ∷ rs) s fails zero = refl
  kept_behind none (r ∷ rs) s fails (suc q) = kept_behind none rs s fails q

-- what holds of everybody, and of whom the change gives
pub kept_all : (P : ProcessEntry → Type 0) (f : ProcessEntry → ProcessEntry) → ((l : ProcessEntry) → P l → P (f l)) → (slots : List (Option ProcessEntry)) (pid q : ℕ) → IfSome (living_at slots q) P → IfSome (living_at (changed_slots f pid slots) q) P
kept_all P f keeps [] pid q holds = holds
kept_all P f keeps (None ∷ ss) zero zero holds = holds
kept_all P f keeps (Some l ∷ ss) zero zero holds = keeps l holds
kept_all P f keeps (s ∷ ss) zero (suc q) holds = holds
kept_all P f keeps (s ∷ ss) (suc pid) zero holds = holds
kept_all P f keeps (s ∷ ss) (suc pid) (suc q) holds = kept_all P f keeps ss pid q holds

-- where nobody was, nobody is
pub changed_nobody : (f : ProcessEntry → ProcessEntry) (slots : List (Option ProcessEntry)) (pid : ℕ) → slice_get slots 0 ≡ Some None → slice_get (changed_slots f pid slots) 0 ≡ Some None
changed_nobody f [] pid is = is
changed_nobody f (s ∷ ss) zero is = ap (λ o. Some (option_map f o)) (same_Some s None is)
changed_nobody f (s ∷ ss) (suc pid) is = is

pub nobody_before : (slots : List (Option ProcessEntry)) (s : Option ProcessEntry) → 0 < length slots → slice_get (slots ++ s ∷ []) 0 ≡ slice_get slots 0
nobody_before [] s given = absurd (omega (arith, given))
nobody_before (r ∷ rs) s given = refl

pub nobody_given : (slots : List (Option ProcessEntry)) → slice_get slots 0 ≡ Some None → 0 < length slots
nobody_given [] is = absurd (none-some None is)
nobody_given (s ∷ ss) is = omega arith

-- a change and one that takes it back
pub slots_back : (f g : ProcessEntry → ProcessEntry) (slots : List (Option ProcessEntry)) (pid : ℕ) → ((l : ProcessEntry) → living_at slots pid ≡ Some l → g (f l) ≡ l) → changed_slots g pid (changed_slots f pid slots) ≡ slots
slots_back f g [] pid back = refl
slots_back f g (None ∷ ss) zero back = refl
slots_back f g (Some l ∷ ss) zero back = ap (λ x. Some x ∷ ss) (back l refl)
slots_back f g (s ∷ ss) (suc pid) back = ap (λ xs. s ∷ xs) (slots_back f g ss pid back)

-- the process of another pid is as it was
pub living_elsewhere : (f : ProcessEntry → ProcessEntry) (slots : List (Option ProcessEntry)) (pid q : ℕ) → (pid ≡ q → ⊥) → living_at (changed_slots f pid slots) q ≡ living_at slots q
living_elsewhere f [] pid q apart = refl
living_elsewhere f (s ∷ ss) zero zero apart = absurd (apart refl)
living_elsewhere f (s ∷ ss) zero (suc q) apart = refl
living_elsewhere f (s ∷ ss) (suc pid) zero apart = refl
living_elsewhere f (s ∷ ss) (suc pid) (suc q) apart = living_elsewhere f ss pid q (λ e. apart (ap suc e))

-- the process itself is changed
pub living_changed : (f : ProcessEntry → ProcessEntry) (slots : List (Option ProcessEntry)) (pid : ℕ) → living_at (changed_slots f pid slots) pid ≡ option_map f (living_at slots pid)
living_changed f [] pid = refl
living_changed f (None ∷ ss) zero = refl
living_changed f (Some l ∷ ss) zero = refl
living_changed f (s ∷ ss) (suc pid) = living_changed f ss pid

-- the last, and those before it
pub living_last : (slots : List (Option ProcessEntry)) (s : Option ProcessEntry) → living_at (slots ++ s ∷ []) (length slots) ≡ s
living_last [] None = refl
living_last [] (Some l) = refl
living_last (r ∷ rs) s = living_last rs s

pub living_before : (slots : List (Option ProcessEntry)) (s : Option ProcessEntry) (q : ℕ) → (length slots ≡ q → ⊥) → living_at (slots ++ s ∷ []) q ≡ living_at slots q
living_before [] s zero apart = absurd (apart refl)
living_before [] s (suc q) apart = refl
living_before (r ∷ rs) s zero apart = refl
living_before (r ∷ rs) s (suc q) apart = living_before rs s q (λ e. apart (ap suc e))

pub living_past : (slots : List (Option ProcessEntry)) (q : ℕ) → length slots ≤ q → living_at slots q ≡ None
living_past [] q past = refl
living_past (s ∷ ss) zero past = absurd (omega (arith, past))
living_past (s ∷ ss) (suc q) past = living_past ss q (omega (arith, past))

-- what stands at an index within
pub living_within : (slots : List (Option ProcessEntry)) (k : ℕ) (d : Option ProcessEntry) → k < length slots → living_at slots k ≡ get_or slots k d
living_within [] k d within = absurd (omega (arith, within))
living_within (None ∷ ss) zero d within = refl
living_within (Some l ∷ ss) zero d within = refl
living_within (s ∷ ss) (suc k) d within = living_within ss k d (omega (arith, within))

pub living_given : (slots : List (Option ProcessEntry)) (k : ℕ) (l : ProcessEntry) → living_at slots k ≡ Some l → k < length slots
living_given [] k l is = absurd (none-some l is)
living_given (s ∷ ss) zero l is = omega arith
living_given (s ∷ ss) (suc k) l is = let below = living_given ss k l is in omega (arith, below)

-- nobody lives where all have gone, and still nobody has pid 0

pub living_vacant : (slots : List (Option ProcessEntry)) (pid : ℕ) → living_at (vacant slots) pid ≡ None
living_vacant [] pid = refl
living_vacant (s ∷ ss) zero = refl
living_vacant (s ∷ ss) (suc pid) = living_vacant ss pid

pub nobody_vacant : (slots : List (Option ProcessEntry)) → slice_get slots 0 ≡ Some None → slice_get (vacant slots) 0 ≡ Some None
nobody_vacant [] is = is
nobody_vacant (s ∷ ss) is = refl
