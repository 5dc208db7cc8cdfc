-- A process starts, and the start is taken back.
use Rattle.std.proofs.Common.{◌≡◌, ℕ, suc, ◌-◌, ◌<◌, true, false, List, [], ◌∷◌, ◌++◌, length, take, slice_get, Option, None, Some, IfSome, is_some, refl, sym, ap, subst, ◌∙◌, arith}
use Rattle.std.proofs.lemmas.Grind.{common_steps}
use Rattle.std.proofs.lemmas.Option.{none-some, same_Some}
use Rattle.std.specs.FinMap.{get}
use Rattle.values.proofs.Edits.{last_index, take-end}
use Rattle.process_index.specs.Index.{Names}
use Rattle.process_index.specs.Numbers.{Owners}
use Rattle.process_store.specs.declared.living.ProcessEntry.{ProcessEntry}
use Rattle.process_store.specs.Indexed.{IsIndexed, registered, unregistered}
use Rattle.process_store.specs.Table.{Table, is_taken, living_at, pid_of}
use Rattle.process_store.specs.Inverses.{WasStarted}
use Rattle.process_store.proofs.Indexes.{IsIndexed-started, IsIndexed-unstarted, named_by_index}
use Rattle.process_store.proofs.Slots.{living_last}
use Rattle.process_store.proofs.Vacating.{unregistered_back}

-- a name that is not taken is nobody's
free_name : (names : Names) (open_calls : Owners) (slots : List (Option ProcessEntry)) (name : Option (List ℕ)) → IsIndexed names open_calls slots → is_taken name (record { slots = slots }) ≡ false → IfSome name (λ n. get names n ≡ None)
free_name names open_calls slots None indexed able = tt
free_name names open_calls slots (Some n) indexed able =
    elim (pid_of n (record { slots = slots })) as (λ o. pid_of n (record { slots = slots }) ≡ o → get names n ≡ None) [
      | None ↦ λ e. named_by_index names open_calls slots (record { slots = slots }) n indexed refl ∙ e
      | Some pid ↦ λ e. let told : is_some (pid_of n (record { slots = slots })) ≡ true = ap is_some e in absurd (grind (arith, common_steps, told, able))
    ] refl

pub started_indexed : (names after : Names) (open_calls : Owners) (slots now : List (Option ProcessEntry)) (name : Option (List ℕ)) (pid : ℕ) (l : ProcessEntry) → IsIndexed names open_calls slots → is_taken name (record { slots = slots }) ≡ false → l.process.name ≡ name → l.process.pid ≡ pid → l.calls ≡ [] → pid ≡ length slots → after ≡ registered name pid names → now ≡ slots ++ Some l ∷ [] → IsIndexed after open_calls now
started_indexed names after open_calls slots now name pid l indexed able named own uncalled last was is =
    subst (λ x. IsIndexed x open_calls now) (sym (was ∙ ap (λ p. registered name p names) last)) (subst (IsIndexed (registered name (length slots) names) open_calls) (sym is) (IsIndexed-started names open_calls slots name l indexed named (own ∙ last) uncalled (free_name names open_calls slots name indexed able)))

-- where the process does not come, the names are as they were
pub unnamed_again : (names after again : Names) (open_calls : Owners) (slots now : List (Option ProcessEntry)) (name : Option (List ℕ)) (pid : ℕ) → IsIndexed names open_calls slots → is_taken name (record { slots = slots }) ≡ false → after ≡ registered name pid names → again ≡ unregistered name after → now ≡ slots → IsIndexed again open_calls now
unnamed_again names after again open_calls slots now name pid indexed able was is same =
    let back : again ≡ names = is ∙ ap (unregistered name) was ∙ unregistered_back name pid names (free_name names open_calls slots name indexed able) in
    subst (λ n. IsIndexed n open_calls now) (sym back) (subst (IsIndexed names open_calls) (sym same) indexed)

-- the last process goes, and the table is as it was
pub started_back : (slots now : List (Option ProcessEntry)) (t : Table) (l : ProcessEntry) → now ≡ slots ++ Some l ∷ [] → l.calls ≡ [] → record { slots = slots } ≡ t → WasStarted (living_at now (length now - 1)) × ◌≡◌ {A = Table} (record { slots = take (length now - 1) now }) t
started_back slots now t l is uncalled was =
    let count : length now - 1 ≡ length slots = ap (λ x. length x - 1) is ∙ last_index slots (Some l) in
    let there : living_at now (length now - 1) ≡ Some l = (λ i. living_at (is i) (count i)) ∙ living_last slots (Some l) in
    (subst WasStarted (sym there) uncalled, ap (λ x. record { slots = x }) ((λ i. take (count i) (is i)) ∙ take-end slots (Some l)) ∙ was)

-- the last of processes that lives, and those before it
last_living : (slots : List (Option ProcessEntry)) (l : ProcessEntry) → living_at slots (length slots - 1) ≡ Some l → slots ≡ take (length slots - 1) slots ++ Some l ∷ []
last_living [] l is = absurd (none-some l is)
last_living (None ∷ []) l is = absurd (none-some l is)
last_living (Some x ∷ []) l is = ap (λ o. o ∷ []) is
last_living (s ∷ r ∷ rs) l is =
    let n : length (s ∷ r ∷ rs) - 1 ≡ suc (length (r ∷ rs) - 1) = omega arith in
    let rest = last_living (r ∷ rs) l (ap (living_at (s ∷ r ∷ rs)) (sym n) ∙ is) in
    ap (λ xs. s ∷ xs) rest ∙ ap (λ k. take k (s ∷ r ∷ rs) ++ Some l ∷ []) (sym n)

last_is_late : (slots : List (Option ProcessEntry)) (l : ProcessEntry) → slice_get slots 0 ≡ Some None → living_at slots (length slots - 1) ≡ Some l → 0 < length (take (length slots - 1) slots)
last_is_late [] l nobody is = absurd (none-some l is)
last_is_late (None ∷ []) l nobody is = absurd (none-some l is)
last_is_late (Some x ∷ []) l nobody is = absurd (none-some x (sym (same_Some (Some x) None nobody)))
last_is_late (s ∷ r ∷ rs) l nobody is =
    let n : length (s ∷ r ∷ rs) - 1 ≡ suc (length (r ∷ rs) - 1) = omega arith in
    subst (λ k. 0 < length (take k (s ∷ r ∷ rs))) (sym n) (omega arith)

pub unstarted_indexed : (names after : Names) (open_calls : Owners) (slots now : List (Option ProcessEntry)) (l : ProcessEntry) → IsIndexed names open_calls slots → living_at slots (length slots - 1) ≡ Some l → WasStarted (living_at slots (length slots - 1)) → after ≡ unregistered l.process.name names → now ≡ take (length slots - 1) slots → IsIndexed after open_calls now
unstarted_indexed names after open_calls slots now l indexed last started was is =
    subst (λ n. IsIndexed n open_calls now) (sym was) (subst (IsIndexed (unregistered l.process.name names) open_calls) (sym is)
    (IsIndexed-unstarted names open_calls (take (length slots - 1) slots) l (subst (IsIndexed names open_calls) (last_living slots l last) indexed) (subst WasStarted last started) (last_is_late slots l indexed.nobody last)))
