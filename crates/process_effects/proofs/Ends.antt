-- A process that has ended lives again where the instances that it used stand in the table of modules; and what others need that
-- live again after it.
use Rattle.std.proofs.Common.{◌≡◌, ℕ, zero, suc, Bool, true, false, List, [], ◌∷◌, ◌++◌, Option, None, Some, IfSome, is_some, slice_get, refl, sym, ap, subst, ◌∙◌}
use Rattle.std.proofs.lemmas.Bool.{false_from_ne_true, true≢false}
use Rattle.std.proofs.lemmas.Option.{none-some, same_Some}
use Rattle.std.specs.List.{position}
use Rattle.erl_ir.specs.Module.{Forms}
use Rattle.code_server.specs.Modules.{IsModuleTable, Table as Loaded}
use Rattle.erl_semantics.specs.declared.instance.Instance.{Instance}
use Rattle.process.specs.declared.named.CodeRef.{CodeRef}
use Rattle.process.proofs.Living.{ended_processes_live}
use Rattle.process.specs.Ended.{EndedState, code_found, ended, ended_with, lived, lives, lives_by, rests_found}
use Rattle.process.specs.Process.{ProcessState}
use Rattle.process_index.specs.declared.calls.Call.{Call}
use Rattle.process_store.specs.declared.living.ProcessEntry.{ProcessEntry}
use Rattle.process_store.specs.Table.{Table, has_number, is_asked, is_name, is_named, living, living_at, pid_of}
use Rattle.process_store.specs.Vacating.{CanReturn, occupied, occupied_slots, vacated, vacated_slots}
use Rattle.process_store.proofs.Indexes.{is_found, nobody}
use Rattle.process_effects.specs.Ends.{AllReturn, AllStand, CanBeReturned, EndsBack, UndoesEnds, Returns, Stands, all_returned, ended_as, returned, with_returned}
use Rattle.process_effects.specs.declared.ending.EndedProcess.{EndedProcess}

-- what is in one slot is one process
pub one_process : (o : Option ProcessEntry) (k l : ProcessEntry) → o ≡ Some k → o ≡ Some l → k ≡ l
one_process o k l first second = same_Some k l (sym first ∙ second)

stands_here : (modules : Loaded Forms) (o : Option ProcessEntry) (l : ProcessEntry) → IfSome o (λ x. Stands modules x.process) → o ≡ Some l → Stands modules l.process
stands_here modules o l stands is = subst (λ x. IfSome x (λ y. Stands modules y.process)) is stands

lives_again : (modules : Loaded Forms) (before : Table) (l : ProcessEntry) (e : EndedState) (pid : ℕ) → IsModuleTable modules → AllStand modules before → living pid before ≡ Some l → e ≡ ended l.process → lives modules e ≡ Some l.process
lives_again modules before l e pid sound stands there is =
    let here = stands_here modules (living pid before) l (stands pid) there in
    ap (lives modules) is ∙ ended_processes_live modules l.process sound here.0 here.1

-- a process that is made of one that has ended has its name

named_by : (rests_in : Option (Option Instance)) (code : Option (List Instance)) (e : EndedState) (p : ProcessState) → lives_by rests_in code e ≡ Some p → p.name ≡ e.name
named_by None code e p is = absurd (none-some p is)
named_by (Some rests_in) None e p is = absurd (none-some p is)
named_by (Some rests_in) (Some code) e p is = sym (ap (λ x. x.name) (same_Some (lived rests_in code e) p is))

pid_by : (rests_in : Option (Option Instance)) (code : Option (List Instance)) (e : EndedState) (p : ProcessState) → lives_by rests_in code e ≡ Some p → p.pid ≡ e.pid
pid_by None code e p is = absurd (none-some p is)
pid_by (Some rests_in) None e p is = absurd (none-some p is)
pid_by (Some rests_in) (Some code) e p is = sym (ap (λ x. x.pid) (same_Some (lived rests_in code e) p is))

-- so it can come back where the one that ended can
pub ended_fits : (modules : Loaded Forms) (after : Table) (l : ProcessEntry) (e : EndedState) (pid : ℕ) → e.name ≡ l.process.name → e.pid ≡ l.process.pid → CanReturn pid l after → CanBeReturned (lives modules e) pid l.calls after
ended_fits modules after l e pid same same_pid can =
    elim (lives modules e) as (λ o. lives modules e ≡ o → CanBeReturned o pid l.calls after) [
      | None ↦ λ is. tt
      | Some p ↦ λ is.
          let name : l.process.name ≡ p.name = sym same ∙ sym (named_by (rests_found modules e.rests_in) (code_found modules e.did) e p is) in
          (can.0, subst (λ n. IfSome n (λ k. pid_of k after ≡ None)) name can.1, can.2, pid_by (rests_found modules e.rests_in) (code_found modules e.did) e p is ∙ same_pid ∙ can.3)
    ] refl

-- the undo of an end
pub ended_back : (modules : Loaded Forms) (before after : Table) (l : ProcessEntry) (e : EndedState) (pid : ℕ) → IsModuleTable modules → AllStand modules before → living pid before ≡ Some l → e ≡ ended l.process → occupied pid l after ≡ before → with_returned (lives modules e) pid l.calls after ≡ before
ended_back modules before after l e pid sound stands there is back =
    ap (λ o. with_returned o pid l.calls after) (lives_again modules before l e pid sound stands there is) ∙ back

-- One table within another: each process of the first has the name and the calls of the one in the same slot of the other.

abbrev WithinSlot : Option ProcessEntry → Option ProcessEntry → Type 0
WithinSlot None o = Unit {0}
WithinSlot (Some k) None = ⊥
WithinSlot (Some k) (Some l) = (k.process.name ≡ l.process.name) × (k.calls ≡ l.calls)

abbrev WithinSlots : List (Option ProcessEntry) → List (Option ProcessEntry) → Type 0
WithinSlots [] [] = Unit {0}
WithinSlots [] (b ∷ bs) = ⊥
WithinSlots (a ∷ more) [] = ⊥
WithinSlots (a ∷ more) (b ∷ bs) = WithinSlot a b × WithinSlots more bs

slot_itself : (o : Option ProcessEntry) → WithinSlot o o
slot_itself None = tt
slot_itself (Some l) = (refl, refl)

within_itself : (slots : List (Option ProcessEntry)) → WithinSlots slots slots
within_itself [] = tt
within_itself (s ∷ ss) = (slot_itself s, within_itself ss)

within_at : (first second : List (Option ProcessEntry)) (pid : ℕ) → WithinSlots first second → WithinSlot (living_at first pid) (living_at second pid)
within_at [] [] pid w = tt
within_at [] (b ∷ bs) pid w = absurd w
within_at (a ∷ more) [] pid w = absurd w
within_at (a ∷ more) (b ∷ bs) zero w = w.0
within_at (a ∷ more) (b ∷ bs) (suc pid) w = within_at more bs pid w.1

within_nobody : (o : Option ProcessEntry) → WithinSlot o None → o ≡ None
within_nobody None w = refl
within_nobody (Some l) w = absurd w

within_vacant : (first second : List (Option ProcessEntry)) (pid : ℕ) → WithinSlots first second → slice_get second pid ≡ Some None → slice_get first pid ≡ Some None
within_vacant [] [] pid w is = is
within_vacant [] (b ∷ bs) pid w is = absurd w
within_vacant (a ∷ more) [] pid w is = absurd w
within_vacant (a ∷ more) (b ∷ bs) zero w is = ap (λ o. Some o) (within_nobody a (subst (WithinSlot a) (same_Some b None is) w.0))
within_vacant (a ∷ more) (b ∷ bs) (suc pid) w is = within_vacant more bs pid w.1 is

-- the same process in the same slot of both
within_occupied : (l : ProcessEntry) (first second : List (Option ProcessEntry)) (pid : ℕ) → WithinSlots first second → WithinSlots (occupied_slots pid l first) (occupied_slots pid l second)
within_occupied l [] [] pid w = tt
within_occupied l [] (b ∷ bs) pid w = absurd w
within_occupied l (a ∷ more) [] pid w = absurd w
within_occupied l (a ∷ more) (b ∷ bs) zero w = (slot_itself (Some l), w.1)
within_occupied l (a ∷ more) (b ∷ bs) (suc pid) w = (w.0, within_occupied l more bs pid w.1)

-- a name and a number that are free in a table are free within it

test_within : (test : Option ProcessEntry → Bool) → test None ≡ false → ((a b : Option ProcessEntry) → WithinSlot a b → test a ≡ true → test b ≡ true) → (first second : List (Option ProcessEntry)) → WithinSlots first second → position test second ≡ None → position test first ≡ None
test_within test none moves first second w is =
    nobody test none first (λ pid. false_from_ne_true (test (living_at first pid)) (λ e.
    let found : is_some (position test second) ≡ true = is_found test none second pid (moves (living_at first pid) (living_at second pid) (within_at first second pid w) e) in
    true≢false (sym found ∙ ap is_some is)))

name_within : (name : List ℕ) (a b : Option ProcessEntry) → WithinSlot a b → is_named name a ≡ true → is_named name b ≡ true
name_within name None b w e = absurd (true≢false (sym e))
name_within name (Some k) None w e = absurd w
name_within name (Some k) (Some l) w e = sym (ap (is_name name) w.0) ∙ e

number_within : (number : ℕ) (a b : Option ProcessEntry) → WithinSlot a b → is_asked number a ≡ true → is_asked number b ≡ true
number_within number None b w e = absurd (true≢false (sym e))
number_within number (Some k) None w e = absurd w
number_within number (Some k) (Some l) w e = sym (ap (has_number number) w.1) ∙ e

nowhere : (o : Option ℕ) → is_some o ≡ false → o ≡ None
nowhere None is = refl
nowhere (Some n) is = absurd (true≢false is)

free_within : (name : Option (List ℕ)) (now t : Table) → WithinSlots now.slots t.slots → IfSome name (λ n. pid_of n t ≡ None) → IfSome name (λ n. pid_of n now ≡ None)
free_within None now t w free = tt
free_within (Some n) now t w free = test_within (is_named n) refl (name_within n) now.slots t.slots w free

can_within : (pid : ℕ) (l : ProcessEntry) (now t : Table) → WithinSlots now.slots t.slots → CanReturn pid l t → CanReturn pid l now
can_within pid l now t w can = (
  (can.0.0, within_vacant now.slots t.slots pid w can.0.1),
  free_within l.process.name now t w can.1,
  ((λ c there. ap is_some (test_within (is_asked c.number) refl (number_within c.number) now.slots t.slots w (nowhere (position (is_asked c.number) t.slots) (can.2.0 c there)))), can.2.1),
  can.3,
)

-- what has ended lives again within the table as it does in the table

can_be_within : (o : Option ProcessState) (pid : ℕ) (calls : List Call) (now t : Table) → WithinSlots now.slots t.slots → CanBeReturned o pid calls t → CanBeReturned o pid calls now
can_be_within None pid calls now t w can = tt
can_be_within (Some p) pid calls now t w can = can_within pid (record { process = p; calls = calls }) now t w can

returned_within : (o : Option ProcessState) (pid : ℕ) (calls : List Call) (now t : Table) → WithinSlots now.slots t.slots → WithinSlots (with_returned o pid calls now).slots (with_returned o pid calls t).slots
returned_within None pid calls now t w = w
returned_within (Some p) pid calls now t w = within_occupied (record { process = p; calls = calls }) now.slots t.slots pid w

all_returned_within : (modules : Loaded Forms) (es : List EndedProcess) (now t : Table) → WithinSlots now.slots t.slots → WithinSlots (all_returned modules es now).slots (all_returned modules es t).slots
all_returned_within modules [] now t w = w
all_returned_within modules (e ∷ es) now t w = returned_within (lives modules e.process) e.pid e.calls (all_returned modules es now) (all_returned modules es t) (all_returned_within modules es now t w)

all_return_within : (modules : Loaded Forms) (es : List EndedProcess) (now t : Table) → WithinSlots now.slots t.slots → AllReturn modules es t → AllReturn modules es now
all_return_within modules [] now t w all = tt
all_return_within modules (e ∷ es) now t w all = (
  all_return_within modules es now t w all.0,
  can_be_within (lives modules e.process) e.pid e.calls (all_returned modules es now) (all_returned modules es t) (all_returned_within modules es now t w) all.1,
)

-- A process leaves, and lives again, or does not: within the table before.

left_within : (slots : List (Option ProcessEntry)) (pid : ℕ) → WithinSlots (vacated_slots pid slots) slots
left_within [] pid = tt
left_within (s ∷ ss) zero = (tt, within_itself ss)
left_within (s ∷ ss) (suc pid) = (slot_itself s, left_within ss pid)

back_within : (slots : List (Option ProcessEntry)) (pid : ℕ) (k l : ProcessEntry) → living_at slots pid ≡ Some l → k.process.name ≡ l.process.name → k.calls ≡ l.calls → WithinSlots (occupied_slots pid k (vacated_slots pid slots)) slots
back_within [] pid k l is name calls = tt
back_within (s ∷ ss) zero k l is name calls = (subst (WithinSlot (Some k)) (sym is) (name, calls), within_itself ss)
back_within (s ∷ ss) (suc pid) k l is name calls = (slot_itself s, back_within ss pid k l is name calls)

end_within : (modules : Loaded Forms) (t : Table) (pid : ℕ) (l : ProcessEntry) (e : EndedState) → e.name ≡ l.process.name → living pid t ≡ Some l → WithinSlots (with_returned (lives modules e) pid l.calls (vacated pid t)).slots t.slots
end_within modules t pid l e same there =
    elim (lives modules e) as (λ o. lives modules e ≡ o → WithinSlots (with_returned o pid l.calls (vacated pid t)).slots t.slots) [
      | None ↦ λ is. left_within t.slots pid
      | Some p ↦ λ is. back_within t.slots pid (record { process = p; calls = l.calls }) l there (named_by (rests_found modules e.rests_in) (code_found modules e.did) e p is ∙ same) refl
    ] refl

-- What holds of each process that lives holds where one has left.

pub others_stay : (P : ProcessEntry → Type 0) (slots : List (Option ProcessEntry)) (pid q : ℕ) → IfSome (living_at slots q) P → IfSome (living_at (vacated_slots pid slots) q) P
others_stay P [] pid q holds = holds
others_stay P (s ∷ ss) zero zero holds = tt
others_stay P (s ∷ ss) zero (suc q) holds = holds
others_stay P (s ∷ ss) (suc pid) zero holds = holds
others_stay P (s ∷ ss) (suc pid) (suc q) holds = others_stay P ss pid q holds

pub stand_still : (modules : Loaded Forms) (t : Table) (pid : ℕ) → AllStand modules t → AllStand modules (vacated pid t)
stand_still modules t pid stands q = others_stay (λ l. Stands modules l.process) t.slots pid q (stands q)

-- one more that has ended

pub all_returned_more : (modules : Loaded Forms) (es : List EndedProcess) (e : EndedProcess) (t : Table) → all_returned modules (es ++ e ∷ []) t ≡ all_returned modules es (returned modules e t)
all_returned_more modules [] e t = refl
all_returned_more modules (x ∷ es) e t = ap (returned modules x) (all_returned_more modules es e t)

all_return_more : (modules : Loaded Forms) (es : List EndedProcess) (e : EndedProcess) (t : Table) → Returns modules e t → AllReturn modules es (returned modules e t) → AllReturn modules (es ++ e ∷ []) t
all_return_more modules [] e t one all = (tt, one)
all_return_more modules (x ∷ es) e t one all = (all_return_more modules es e t one all.0, subst (Returns modules x) (sym (all_returned_more modules es e t)) all.1)

pub kills_more : (before t after : Table) (es : List EndedProcess) (e : EndedProcess) (pid : ℕ) (rests_in : Option CodeRef) (code : List CodeRef) (l : ProcessEntry) → living pid t ≡ Some l → ended_as pid rests_in code l ≡ e → after ≡ vacated pid t → ((modules : Loaded Forms) → AllStand modules before → AllStand modules t) → EndsBack e t after → UndoesEnds es before t → UndoesEnds (es ++ e ∷ []) before after
kills_more before t after es e pid rests_in code l there is gone stands one all = λ modules.
    let first : WithinSlots (returned modules (ended_as pid rests_in code l) (vacated pid t)).slots t.slots = end_within modules t pid l (ended_with rests_in code l.process) refl there in
    let w : WithinSlots (returned modules e after).slots t.slots = subst (λ x. WithinSlots (returned modules e x).slots t.slots) (sym gone) (subst (λ x. WithinSlots (returned modules x (vacated pid t)).slots t.slots) is first) in (
      all_return_more modules es e after (one modules).0 (all_return_within modules es (returned modules e after) t w (all modules).0),
      λ sound stand. all_returned_more modules es e after ∙ ap (all_returned modules es) ((one modules).1 sound (stands modules stand)) ∙ (all modules).1 sound stand,
    )
