-- A process that was suspended, or resumed, is as it was before.
use Rattle.std.proofs.Common.{◌≡◌, ℕ, Bool, List, Option, refl, sym, ap, ◌∙◌}
use Rattle.process.specs.declared.activity.Activity.{Activity}
use Rattle.process.specs.declared.activity.Activity.TheVariants.{Idle, Suspended, Runs}
use Rattle.process.specs.Process.{resumed_by, suspended_by}
use Rattle.process_store.specs.Changes.{is_suspended, resume_living, suspend_living, suspended_as, was_suspended}
use Rattle.process_store.specs.declared.living.ProcessEntry.{ProcessEntry}
use Rattle.process_store.specs.Table.{Table, changed_slots, living, living_at}
use Rattle.process_store.proofs.Slots.{slots_back}

abbrev with_activity : ProcessEntry → Activity → ProcessEntry
with_activity l a = record l { process = record l.process { activity = a } }

suspended_back : (a : Activity) (l : ProcessEntry) → suspended_as (is_suspended a) (with_activity l (suspended_by a)) ≡ with_activity l a
suspended_back Idle l = refl
suspended_back Suspended l = refl
suspended_back (Runs r) l = refl

resumed_back : (a : Activity) (l : ProcessEntry) → suspended_as (is_suspended a) (with_activity l (resumed_by a)) ≡ with_activity l a
resumed_back Idle l = refl
resumed_back Suspended l = refl
resumed_back (Runs r) l = refl

pub suspend_back : (slots now : List (Option ProcessEntry)) (t : Table) (pid : ℕ) (was : Bool) → record { slots = slots } ≡ t → was ≡ was_suspended (living pid t) → now ≡ changed_slots suspend_living pid slots → ◌≡◌ {A = Table} (record { slots = changed_slots (suspended_as was) pid now }) t
suspend_back slots now t pid was view told is =
    let here : was ≡ was_suspended (living_at slots pid) = told ∙ ap (λ x. was_suspended (living pid x)) (sym view) in
    ap (λ x. record { slots = x }) (ap (changed_slots (suspended_as was) pid) is ∙ slots_back suspend_living (suspended_as was) slots pid (λ l there. ap (λ b. suspended_as b (suspend_living l)) (here ∙ ap was_suspended there) ∙ suspended_back l.process.activity l)) ∙ view

pub resume_back : (slots now : List (Option ProcessEntry)) (t : Table) (pid : ℕ) (was : Bool) → record { slots = slots } ≡ t → was ≡ was_suspended (living pid t) → now ≡ changed_slots resume_living pid slots → ◌≡◌ {A = Table} (record { slots = changed_slots (suspended_as was) pid now }) t
resume_back slots now t pid was view told is =
    let here : was ≡ was_suspended (living_at slots pid) = told ∙ ap (λ x. was_suspended (living pid x)) (sym view) in
    ap (λ x. record { slots = x }) (ap (changed_slots (suspended_as was) pid) is ∙ slots_back resume_living (suspended_as was) slots pid (λ l there. ap (λ b. suspended_as b (resume_living l)) (here ∙ ap was_suspended there) ∙ resumed_back l.process.activity l)) ∙ view
