-- Replies that are left to give change neither names nor the next pid.
use Rattle.std.proofs.Common.{◌≡◌, ℕ, Bool, true, false, List, [], ◌∷◌, Option, None, Some, is_some, option_map, refl, sym, ap, ◌∙◌}
use Rattle.std.proofs.lemmas.Option.{none-some}
use Rattle.values.proofs.Edits.{length-changed_at}
use Rattle.process_effects.proofs.Commuting.{names_kept}
use Rattle.process_effects.specs.Acts.{answered, closed_at}
use Rattle.process_effects.specs.Parted.{all_answered}
use Rattle.process_effects.specs.declared.answers.Answer.{Answer}
use Rattle.process_index.specs.declared.calls.Call.{Call}
use Rattle.process_store.specs.Changes.{closed_living, owner_of}
use Rattle.process_store.specs.Table.{Table, is_taken, next_pid, pid_of}
use Rattle.sys_protocol.specs.StartResults.{name_fault, taken_by}

closed_names : (name : List ℕ) (o : Option (ℕ × Call)) (t : Table) → pid_of name (closed_at o t) ≡ pid_of name t
closed_names name None t = refl
closed_names name (Some it) t = names_kept (closed_living it.1) (λ l. refl) name t it.0

pub names_answered : (others : List Answer) (name : List ℕ) (t : Table) → pid_of name (all_answered others t) ≡ pid_of name t
names_answered [] name t = refl
names_answered (a ∷ others) name t =
    names_answered others name (answered a.number t) ∙ closed_names name (owner_of a.number t) t

closed_pids : (o : Option (ℕ × Call)) (t : Table) → next_pid (closed_at o t) ≡ next_pid t
closed_pids None t = refl
closed_pids (Some it) t = length-changed_at (option_map (closed_living it.1)) t.slots it.0

pub pids_answered : (others : List Answer) (t : Table) → next_pid (all_answered others t) ≡ next_pid t
pids_answered [] t = refl
pids_answered (a ∷ others) t = pids_answered others (answered a.number t) ∙ closed_pids (owner_of a.number t) t

pub fault_answered : (others : List Answer) (asked : Option (List ℕ × Bool)) (t : Table) → name_fault asked (all_answered others t) ≡ name_fault asked t
fault_answered others None t = refl
fault_answered others (Some asked) t = ap (taken_by asked.1) (names_answered others asked.0 t)

-- a name is free where there is no fault

untaken : (by_register : Bool) (holder : Option ℕ) → taken_by by_register holder ≡ None → is_some holder ≡ false
untaken by_register None is = refl
untaken true (Some holder) is = absurd (none-some _ (sym is))
untaken false (Some holder) is = absurd (none-some _ (sym is))

pub free_name : (asked : Option (List ℕ × Bool)) (t : Table) → name_fault asked t ≡ None → is_taken (option_map (λ (a : List ℕ × Bool). a.0) asked) t ≡ false
free_name None t is = refl
free_name (Some asked) t is = untaken asked.1 (pid_of asked.0 t) is
