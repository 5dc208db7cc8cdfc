-- No process is left with code that is gone.
use Rattle.std.proofs.Common.{◌≡◌, ℕ, zero, suc, ◌+◌, ◌^◌, ◌<◌, eqb, Bool, ◌||◌, true, false, All, List, [], ◌∷◌, map, is_some, Option, None, Some, IfSome, cond, refl, sym, ap, subst, ◌∙◌}
use Rattle.std.proofs.lemmas.Bool.{eq-eqb, true≢false}
use Rattle.std.proofs.lemmas.List.Elements.{All-cons, All-head, All-nil, All-tail}
use Rattle.std.proofs.lemmas.Option.{none-some, same_Some}
use Rattle.erl_semantics.specs.State.{Instance}
use Rattle.erl_ir.specs.Module.{Forms}
use Rattle.erl_semantics.specs.Views.{instance}
use Rattle.erl_semantics.specs.declared.instance.Instance as held
use Rattle.code_server.proofs.Changes.{IsDeletable-unrefused, IsLoadable-unrefused, current_of-slots, current_at-slots, purged-absent, purged-gone, purged-kept}
use Rattle.code_server.proofs.Sound.{IsModuleTable-added, IsModuleTable-purged_slots, IsModuleTable-removed, IsModuleTable-retired, IsModuleTable-stacked}
use Rattle.code_server.proofs.Standing.{Stands-index, absent_from_index}
use Rattle.code_server.specs.Modules.{IsModuleTable, Table as Loaded, current_of, delete_refusal, deleted, deleted_at, load_refusal, loaded, loaded_at, old_of, index_of, purged}
use Rattle.code_server.specs.Indices.{current_at}
use Rattle.code_server.specs.declared.modules.Instance as code
use Rattle.process.specs.Named.{StandsIn}
use Rattle.process.specs.Ended.{CodeStands, PlaceStands}
use Rattle.process.specs.declared.activity.Activity.{Activity}
use Rattle.process.specs.declared.activity.Activity.TheVariants.{Idle, Suspended, Runs}
use Rattle.process_effects.specs.Ends.{AllStand, Stands}
use Rattle.process_effects.specs.Kills.{unless_uses, without_users}
use Rattle.process_effects.specs.Uses.{is_among, is_of, uses, uses_by}
use Rattle.process_store.specs.Table.{Table, living, living_at}
use Rattle.process_store.specs.declared.living.ProcessEntry.{ProcessEntry}
use Rattle.release_words.specs.declared.purge.Purge.{Purge}
use Rattle.code_loading.proofs.Keeping.{Spared, deleted_keeps, loaded_keeps, purged_keeps}
use Rattle.code_loading.specs.Consistent.{Enters, EntersAt, EntersBy, IsConsistent}
use Rattle.code_loading.specs.Laws.{LoadingKeepsCode}
use Rattle.code_loading.specs.Loading.{spared, spared_by}

any_not : (a b : Bool) → (a || b) ≡ false → (a ≡ false) × (b ≡ false)
any_not true b none = absurd (true≢false none)
any_not false b none = (refl, none)

-- What stands of a process where each instance that it uses stays.

code_stays : (m u : Loaded Forms) → ((x : Instance) → StandsIn m x → StandsIn u x) → (code : List held.Instance) → All (StandsIn m) (map instance code) → All (StandsIn u) (map instance code)
code_stays m u stays [] all = All-nil (StandsIn u)
code_stays m u stays (i ∷ code) all =
    All-cons (StandsIn u) (instance i) (map instance code) (stays (instance i) (All-head (StandsIn m) (instance i) (map instance code) all)) (code_stays m u stays code (All-tail (StandsIn m) (instance i) (map instance code) all))

place_stays : (m u : Loaded Forms) → ((x : Instance) → StandsIn m x → StandsIn u x) → (o : Option held.Instance) → PlaceStands m o → PlaceStands u o
place_stays m u stays None stands = tt
place_stays m u stays (Some i) stands = stays (instance i) stands

activity_stays : (m u : Loaded Forms) → ((x : Instance) → StandsIn m x → StandsIn u x) → (a : Activity) → CodeStands m a → CodeStands u a
activity_stays m u stays Idle stands = tt
activity_stays m u stays Suspended stands = tt
activity_stays m u stays (Runs r) stands = code_stays m u stays r.code stands

if_stands : (m u : Loaded Forms) → ((x : Instance) → StandsIn m x → StandsIn u x) → (o : Option ProcessEntry) → IfSome o (λ l. Stands m l.process) → IfSome o (λ l. Stands u l.process)
if_stands m u stays None stands = tt
if_stands m u stays (Some l) stands =
    (place_stays m u stays l.process.rests_in stands.0, activity_stays m u stays l.process.activity stands.1)

all_stay : (m u : Loaded Forms) (t : Table) → ((x : Instance) → StandsIn m x → StandsIn u x) → AllStand m t → AllStand u t
all_stay m u t stays all pid = if_stands m u stays (living pid t) (all pid)

-- Where an instance is purged, its users are gone.

among_not : (s : ℕ) (i : held.Instance) (code : List held.Instance) → is_among s (i ∷ code) ≡ false → (eqb i.serial s ≡ false) × (is_among s code ≡ false)
among_not s i code none = any_not (eqb i.serial s) (is_among s code) none

module _ (name : List ℕ) (m : Loaded Forms) (old : code.Instance Forms) (there : old_of name m ≡ Some old) where
  other_serial : (x : Instance) → eqb x.serial old.serial ≡ false → Spared name m x
  other_serial x differs i is same =
      absurd (true≢false (sym (eq-eqb x.serial old.serial (same ∙ ap (λ j. j.serial) (same_Some i old (sym is ∙ there)))) ∙ differs))

  one_spared : (i : held.Instance) → eqb i.serial old.serial ≡ false → StandsIn m (instance i) → StandsIn (purged name m) (instance i)
  one_spared i differs stands = purged_keeps name m (instance i) stands (other_serial (instance i) differs)

  code_spared : (code : List held.Instance) → is_among old.serial code ≡ false → All (StandsIn m) (map instance code) → All (StandsIn (purged name m)) (map instance code)
  code_spared [] none all = All-nil (StandsIn (purged name m))
  code_spared (i ∷ code) none all =
      let parts = among_not old.serial i code none in
      All-cons (StandsIn (purged name m)) (instance i) (map instance code) (one_spared i parts.0 (All-head (StandsIn m) (instance i) (map instance code) all)) (code_spared code parts.1 (All-tail (StandsIn m) (instance i) (map instance code) all))

  rests_spared : (o : Option held.Instance) → is_of old.serial o ≡ false → PlaceStands m o → PlaceStands (purged name m) o
  rests_spared None none stands = tt
  rests_spared (Some i) none stands = one_spared i none stands

  entered_spared : (o : Option held.Instance) (code : List held.Instance) → EntersAt o code → is_among old.serial code ≡ false → PlaceStands m o → PlaceStands (purged name m) o
  entered_spared None code enters none stands = tt
  entered_spared (Some i) code enters none stands =
      one_spared i (among_not old.serial i enters.0 (sym (ap (is_among old.serial) enters.1) ∙ none)).0 stands

  process_spared : (rests : Option held.Instance) (a : Activity) → EntersBy rests a → uses_by old.serial rests a ≡ false → PlaceStands m rests → CodeStands m a → PlaceStands (purged name m) rests × CodeStands (purged name m) a
  process_spared rests Idle enters none stands code = (rests_spared rests none stands, tt)
  process_spared rests Suspended enters none stands code = (rests_spared rests none stands, tt)
  process_spared rests (Runs r) enters none stands code = (entered_spared rests r.code enters none stands, code_spared r.code none code)

-- who is left, of whom something held

left_if : (P Q : ProcessEntry → Type 0) (l : ProcessEntry) (b : Bool) → P l → (b ≡ false → P l → Q l) → IfSome (cond b None (Some l)) Q
left_if P Q l true holds then = tt
left_if P Q l false holds then = then refl holds

left_at : (s : ℕ) (P Q : ProcessEntry → Type 0) → ((l : ProcessEntry) → uses s (Some l) ≡ false → P l → Q l) → (o : Option ProcessEntry) → IfSome o P → IfSome (unless_uses s o) Q
left_at s P Q then None holds = tt
left_at s P Q then (Some l) holds = left_if P Q l (uses s (Some l)) holds (then l)

pub left : (s : ℕ) (P Q : ProcessEntry → Type 0) → ((l : ProcessEntry) → uses s (Some l) ≡ false → P l → Q l) → (slots : List (Option ProcessEntry)) (q : ℕ) → IfSome (living_at slots q) P → IfSome (living_at (map (unless_uses s) slots) q) Q
left s P Q then [] q holds = tt
left s P Q then (o ∷ slots) zero holds = left_at s P Q then o holds
left s P Q then (o ∷ slots) (suc q) holds = left s P Q then slots q holds

-- What every state of modules and processes keeps, after a purge

sound_purged_at : (name : List ℕ) (m : Loaded Forms) (index : ℕ) (b : Bool) → IsModuleTable m → index_of name m.entries ≡ Some index → is_some (current_of name m) ≡ b → IsModuleTable (purged name m)
sound_purged_at name m index true sound at is =
    let there = Stands-index name m.entries index at in
    let here : is_some (current_at m.entries index) ≡ true = ap is_some (current_at-slots name m.entries index there ∙ sym (current_of-slots name m index there)) ∙ is in
    subst IsModuleTable (sym (purged-kept name m index at is)) (IsModuleTable-purged_slots m index sound here)
sound_purged_at name m index false sound at is =
    subst IsModuleTable (sym (purged-gone name m index at is)) (IsModuleTable-removed m index sound)

pub sound_purged : (name : List ℕ) (m : Loaded Forms) (o : Option ℕ) → IsModuleTable m → index_of name m.entries ≡ o → IsModuleTable (purged name m)
sound_purged name m None sound at = subst IsModuleTable (sym (purged-absent name m at)) sound
sound_purged name m (Some index) sound at = sound_purged_at name m index (is_some (current_of name m)) sound at refl

Holds : Loaded Forms → ProcessEntry → Type 0
Holds m l = Stands m l.process × Enters l.process

pair : (P Q : ProcessEntry → Type 0) (o : Option ProcessEntry) → IfSome o P → IfSome o Q → IfSome o (λ l. P l × Q l)
pair P Q None p q = tt
pair P Q (Some l) p q = (p, q)

first : (P Q : ProcessEntry → Type 0) (o : Option ProcessEntry) → IfSome o (λ l. P l × Q l) → IfSome o P
first P Q None both = tt
first P Q (Some l) both = both.0

second : (P Q : ProcessEntry → Type 0) (o : Option ProcessEntry) → IfSome o (λ l. P l × Q l) → IfSome o Q
second P Q None both = tt
second P Q (Some l) both = both.1

purged_from : (name : List ℕ) (m : Loaded Forms) (t : Table) (o : Option (code.Instance Forms)) → old_of name m ≡ o → IsConsistent m t → IsConsistent (purged name m) (spared_by o t)
purged_from name m t None none kept =
    record {
      sound = sound_purged name m (index_of name m.entries) kept.sound refl;
      stand = all_stay m (purged name m) t (λ x stands. purged_keeps name m x stands (λ i is same. absurd (none-some i (sym none ∙ is)))) kept.stand;
      enter = kept.enter;
    }
purged_from name m t (Some old) there kept =
    let P = λ (l : ProcessEntry). Stands m l.process × Enters l.process in
    let Q = λ (l : ProcessEntry). Stands (purged name m) l.process × Enters l.process in
    let both = λ (pid : ℕ). left old.serial P Q (λ l none holds. (process_spared name m old there l.process.rests_in l.process.activity holds.1.1 none holds.0.0 holds.0.1, holds.1)) t.slots pid (pair (λ l. Stands m l.process) (λ l. Enters l.process) (living pid t) (kept.stand pid) (kept.enter pid)) in
    record {
      sound = sound_purged name m (index_of name m.entries) kept.sound refl;
      stand = λ pid. first (λ l. Stands (purged name m) l.process) (λ l. Enters l.process) (living pid (without_users old.serial t)) (both pid);
      enter = λ pid. second (λ l. Stands (purged name m) l.process) (λ l. Enters l.process) (living pid (without_users old.serial t)) (both pid);
    }

pub purge_keeps : (name : List ℕ) (m : Loaded Forms) (t : Table) → IsConsistent m t → IsConsistent (purged name m) (spared name m t)
purge_keeps name m t kept = purged_from name m t (old_of name m) refl kept

-- a load, and a delete

sound_loaded : (name : List ℕ) (code : Forms) (post : Option Purge) (m : Loaded Forms) (o : Option ℕ) → IsModuleTable m → m.next < 2 ^ 64 → index_of name m.entries ≡ o → IsModuleTable (loaded name code post m)
sound_loaded name code post m None sound below at =
    subst (λ o. IsModuleTable (record { entries = loaded_at o name post (record { serial = m.next; code = code }) m.entries; next = m.next + 1 })) (sym at) (IsModuleTable-added m name (record { serial = m.next; code = code }) sound (absent_from_index name m.entries at) refl below)
sound_loaded name code post m (Some index) sound below at =
    subst (λ o. IsModuleTable (record { entries = loaded_at o name post (record { serial = m.next; code = code }) m.entries; next = m.next + 1 })) (sym at) (IsModuleTable-stacked m index post (record { serial = m.next; code = code }) sound refl below)

pub load_keeps : (name : List ℕ) (code : Forms) (post : Option Purge) (m : Loaded Forms) (t : Table) → IsConsistent m t → load_refusal name m ≡ None → IsConsistent (loaded name code post m) t
load_keeps name code post m t kept unrefused =
    let ready = IsLoadable-unrefused name m kept.sound unrefused in
    record {
      sound = sound_loaded name code post m (index_of name m.entries) kept.sound ready.serial refl;
      stand = all_stay m (loaded name code post m) t (loaded_keeps name code post m ready.no_old) kept.stand;
      enter = kept.enter;
    }

sound_deleted : (name : List ℕ) (post : Option Purge) (m : Loaded Forms) (o : Option ℕ) → IsModuleTable m → is_some (current_of name m) ≡ true → index_of name m.entries ≡ o → IsModuleTable (deleted name post m)
sound_deleted name post m None sound there at = subst (λ o. IsModuleTable (record { entries = deleted_at o post m.entries; next = m.next })) (sym at) sound
sound_deleted name post m (Some index) sound there at =
    let stands = Stands-index name m.entries index at in
    let here : is_some (current_at m.entries index) ≡ true = ap is_some (current_at-slots name m.entries index stands ∙ sym (current_of-slots name m index stands)) ∙ there in
    subst (λ o. IsModuleTable (record { entries = deleted_at o post m.entries; next = m.next })) (sym at) (IsModuleTable-retired m index post sound here)

pub delete_keeps : (name : List ℕ) (post : Option Purge) (m : Loaded Forms) (t : Table) → IsConsistent m t → delete_refusal name m ≡ None → IsConsistent (deleted name post m) t
delete_keeps name post m t kept unrefused =
    let ready = IsDeletable-unrefused name m unrefused in
    record {
      sound = sound_deleted name post m (index_of name m.entries) kept.sound ready.has_current refl;
      stand = all_stay m (deleted name post m) t (deleted_keeps name post m unrefused) kept.stand;
      enter = kept.enter;
    }

pub loading_keeps_code : LoadingKeepsCode
loading_keeps_code = record {
  purges = purge_keeps;
  loads = load_keeps;
  deletes = delete_keeps;
}
