-- Where a node restarts nobody lives, and no module is loaded, but pids and serials go on: the modules of a release are loaded
-- behind the serials that were given.
use Rattle.std.proofs.Common.{◌≡◌, ◌+◌, ◌<◌, ◌≤◌, ◌^◌, ◌==◌, ℕ, zero, suc, Bool, true, false, if◌then◌else◌, List, [], ◌∷◌, length, Option, None, Some, IfSome, is_some, refl, sym, subst, arith}
use Rattle.std.proofs.lemmas.Bool.{ltb-false, ne_eqb}
use Rattle.std.proofs.lemmas.Map.Keys.{IsDistinct-from_apart}
use Rattle.std.proofs.lemmas.Option.{none-some}
use Rattle.std.specs.Prelude.{nat_lt}
use Rattle.std.specs.Str.{bytes_eq}
use Rattle.code_loading.proofs.Consistency.{load_keeps, sound_purged}
use Rattle.code_loading.proofs.Emptied.{own_purged}
use Rattle.code_loading.specs.Consistent.{Enters, IsConsistent}
use Rattle.code_server.specs.Modules as code_tables
use Rattle.code_server.specs.Modules.{IsModuleTable, Table as Loaded, load_refusal, loaded, old_of, index_of, purged}
use Rattle.code_server.specs.declared.error.CodeError.TheVariants.{CounterEnd, NotPurged}
use Rattle.code_server.specs.declared.modules.Instance as held
use Rattle.erl_ir.specs.Module.{Forms}
use Rattle.node_restart.specs.Restart.{restart_refusal}
use Rattle.process_effects.specs.Ends.{Stands}
use Rattle.process_store.proofs.Slots.{living_vacant}
use Rattle.process_store.specs.Table as process_tables
use Rattle.process_store.specs.Table.{Table, empty_table as no_processes, living, next_pid}
use Rattle.process_store.specs.declared.living.ProcessEntry.{ProcessEntry}
use Rattle.release_boot.specs.Boot.{all_loaded, boot_modules, modules_of}
use Rattle.release_table.specs.declared.table.Release.{Release}

-- Where nobody lives, nobody uses code that is gone.

abbrev pub IsVacant : Table → Type 0
IsVacant t = (pid : ℕ) → living pid t ≡ None

of_nobody : (P : ProcessEntry → Type 0) (t : Table) → IsVacant t → (pid : ℕ) → IfSome (living pid t) P
of_nobody P t vacant pid = subst (λ (o : Option ProcessEntry). IfSome o P) (sym (vacant pid)) tt

pub vacant_is_consistent : (m : Loaded Forms) (t : Table) → IsVacant t → IsModuleTable m → IsConsistent m t
vacant_is_consistent m t vacant sound = record {
  sound = sound;
  stand = of_nobody (λ l. Stands m l.process) t vacant;
  enter = of_nobody (λ l. Enters l.process) t vacant;
}

pub nobody : IsVacant no_processes
nobody zero = refl
nobody (suc pid) = refl

pub emptied_is_vacant : (t : Table) → IsVacant (process_tables.emptied t)
emptied_is_vacant t pid = living_vacant t.slots pid

-- The modules of a release are loaded behind those that are there, where as many serials are left.

unrefused : (o : Option (held.Instance Forms)) (at_end : Bool) → o ≡ None → at_end ≡ false →
    (if is_some o then Some NotPurged else (if at_end then Some CounterEnd else None)) ≡ None
unrefused o at_end no_old left = (λ i. if is_some (no_old i) then Some NotPurged else (if left i then Some CounterEnd else None))

loaded_is_sound : (m : Forms) (t : Loaded Forms) → IsModuleTable t → t.next < 2 ^ 64 → IsModuleTable (loaded m.name m None (purged m.name t))
loaded_is_sound m t sound below =
    let mid = purged m.name t in
    let kept = vacant_is_consistent mid no_processes nobody (sound_purged m.name t (index_of m.name t.entries) sound refl) in
    let left = ne_eqb t.next (2 ^ 64) (λ same. omega (arith, same, below)) in
    let fine = unrefused (old_of m.name mid) (t.next == 2 ^ 64) (own_purged m.name t sound) left in
    (load_keeps m.name m None mid no_processes kept fine).sound

all_loaded_is_sound : (ms : List Forms) (t : Loaded Forms) → IsModuleTable t → t.next + length ms ≤ 2 ^ 64 → IsModuleTable (all_loaded ms t)
all_loaded_is_sound [] t sound room = sound
all_loaded_is_sound (m ∷ ms) t sound room =
    let next = loaded m.name m None (purged m.name t) in
    all_loaded_is_sound ms next (loaded_is_sound m t sound (omega (arith, room))) (omega (arith, room))

within : (n max : ℕ) → (if nat_lt max n then Some CounterEnd else None) ≡ None → n ≤ max
within n max unrefused =
    ltb-false max n (fits (nat_lt max n) unrefused)
  where
    fits : (b : Bool) → (if b then Some CounterEnd else None) ≡ None → b ≡ false
    fits true is = absurd (none-some CounterEnd (sym is))
    fits false is = refl

emptied_is_sound : (m : Loaded Forms) → IsModuleTable m → IsModuleTable (code_tables.emptied m)
emptied_is_sound m sound = record {
  distinct = IsDistinct-from_apart bytes_eq [] (λ i j d below within. absurd (omega (arith, within)));
  with_code = λ k d below. absurd (omega (arith, below));
  notes = λ k d below. absurd (omega (arith, below));
  given = λ k d below. absurd (omega (arith, below));
  once = λ serial. omega arith;
  counted = sound.counted;
}

pub restarted_is_sound : (r : Release) (m : Loaded Forms) → IsModuleTable m → restart_refusal r m ≡ None →
    IsModuleTable (boot_modules r (code_tables.emptied m))
restarted_is_sound r m sound unrefused =
    let room = within (m.next + length (modules_of r.apps)) (2 ^ 64) unrefused in
    all_loaded_is_sound (modules_of r.apps) (code_tables.emptied m) (emptied_is_sound m sound) room
