-- Old code that is purged is lost: its serial stands once in the table before, and nowhere in the table after.
use Rattle.std.proofs.Common.{◌≡◌, ℕ, ◌+◌, ◌-◌, ◌≤◌, ◌==◌, Bool, if◌then◌else◌, true, false, List, [], ◌∷◌, ◌++◌, remove, slice_get, IsSome, Option, None, Some, is_some, option_map, option_and_then, option_to_list, refl, sym, ap, subst, ◌∙◌, arith}
use Rattle.std.proofs.lemmas.Bool.{eqb-true}
use Rattle.std.proofs.lemmas.List.Sums.{sum_by-append, sum_by-cons}
use Rattle.std.specs.Str.{bytes_eq}
use Rattle.code_server.specs.declared.modules.Instance.{Instance}
use Rattle.code_server.specs.declared.modules.Slots.{Slots}
use Rattle.code_server.specs.Modules.{Entry, IsModuleTable, Table as Loaded, current_of, in_entries, in_entry, in_slot, loaded, loaded_at, new_slots, old_of, index_of, purged, purged_slots, removed, retired, stacked, with_slots}
use Rattle.code_server.specs.Undo.{Fits, HasPurged, held, undone}
use Rattle.code_server.specs.declared.undo.ModulesUndo.{ModulesUndo}
use Rattle.code_server.proofs.Changes.{current_at-slots, current_of-slots, no_current, none_from_test, old_of-slots, purged-absent, purged-gone, purged-kept}
use Rattle.code_server.proofs.Reloads.{loaded-gone, loaded-kept}
use Rattle.code_server.proofs.Removing.{removed-absent, removed-gone, removed-kept}
use Rattle.code_server.proofs.Serials.{in_entries-changed_at, in_entries-given, in_entries-remove, in_found}
use Rattle.code_server.proofs.Standing.{Stands, Stands-index, absent_from_index}
use Rattle.erl_ir.specs.Module.{Forms}
use Rattle.process_store.specs.Pieces.{HoldsLost, no_pieces}
use Rattle.process_store.specs.Table.{Table}
use Rattle.process_table.specs.declared.undo.ProcessesUndo as kills
use Rattle.release_words.specs.declared.purge.Purge.{Purge}
use Rattle.code_loading.specs.Pieces.{CodeLost, IsTaken, all_held, among, held_killed}
use Rattle.code_loading.specs.Undo.{UndoesKills, LivesAgain, TakesBack}

-- an index of which the instances are known
at_index : (n : ℕ) (name : List ℕ) (es : List (Entry Forms)) (index : ℕ) (at : Stands name es index) → in_found n (slice_get es index) ≡ in_slot n at.slots.current + in_slot n at.slots.former
at_index n name es index at = ap (in_found n) at.entry

with_index : (n : ℕ) (f : Slots Forms → Slots Forms) (name : List ℕ) (es : List (Entry Forms)) (index : ℕ) (at : Stands name es index) →
    in_entries n (with_slots f es index) + (in_slot n at.slots.current + in_slot n at.slots.former) ≡ in_entries n es + (in_slot n (f at.slots).current + in_slot n (f at.slots).former)
with_index n f name es index at =
    let g : Entry Forms → Entry Forms = λ e. (e.0, f e.1) in
    omega (arith, in_entries-changed_at n g es index, at_index n name es index at, ap (λ o. in_found n (option_map g o)) at.entry)

without_index : (n : ℕ) (name : List ℕ) (es : List (Entry Forms)) (index : ℕ) (at : Stands name es index) →
    in_entries n (remove es index) + (in_slot n at.slots.current + in_slot n at.slots.former) ≡ in_entries n es
without_index n name es index at = omega (arith, in_entries-remove n es index, at_index n name es index at)

old_at : (n : ℕ) (name : List ℕ) (t : Loaded Forms) (index : ℕ) (at : Stands name t.entries index) → in_slot n at.slots.former ≡ in_slot n (old_of name t)
old_at n name t index at = ap (in_slot n) (sym (old_of-slots name t index at))

no_old : (n : ℕ) (name : List ℕ) (t : Loaded Forms) → index_of name t.entries ≡ None → in_slot n (old_of name t) ≡ 0
no_old n name t absent = ap (λ o. in_slot n (option_and_then (λ slots. slots.former) o)) (absent_from_index name t.entries absent)

-- A purge takes the old code, a removal too, and a load adds an instance of the next serial.

abbrev TakesOld : ℕ → List ℕ → Loaded Forms → Loaded Forms → Type 0
TakesOld n name t after = in_entries n after.entries + in_slot n (old_of name t) ≡ in_entries n t.entries

purged_at_index : (n : ℕ) (name : List ℕ) (t : Loaded Forms) (index : ℕ) (found : index_of name t.entries ≡ Some index) (b : Bool) → is_some (current_of name t) ≡ b → TakesOld n name t (purged name t)
purged_at_index n name t index found true there =
    let at = Stands-index name t.entries index found in
    omega (arith, ap (λ (u : Loaded Forms). in_entries n u.entries) (purged-kept name t index found there), with_index n purged_slots name t.entries index at, old_at n name t index at)
purged_at_index n name t index found false there =
    let at = Stands-index name t.entries index found in
    let none = ap (in_slot n) (none_from_test at.slots.current (ap is_some (sym (current_of-slots name t index at)) ∙ there)) in
    omega (arith, ap (λ (u : Loaded Forms). in_entries n u.entries) (purged-gone name t index found there), without_index n name t.entries index at, old_at n name t index at, none)

purged_by : (n : ℕ) (name : List ℕ) (t : Loaded Forms) (o : Option ℕ) → index_of name t.entries ≡ o → TakesOld n name t (purged name t)
purged_by n name t None absent = omega (arith, ap (λ (u : Loaded Forms). in_entries n u.entries) (purged-absent name t absent), no_old n name t absent)
purged_by n name t (Some index) found = purged_at_index n name t index found (is_some (current_of name t)) refl

pub purged-takes : (n : ℕ) (name : List ℕ) (t : Loaded Forms) → TakesOld n name t (purged name t)
purged-takes n name t = purged_by n name t (index_of name t.entries) refl

removed_at_index : (n : ℕ) (name : List ℕ) (post : Option Purge) (t : Loaded Forms) (index : ℕ) → IsModuleTable t → (found : index_of name t.entries ≡ Some index) (b : Bool) → is_some (current_of name t) ≡ b → TakesOld n name t (removed name post t)
removed_at_index n name post t index sound found true there =
    let at = Stands-index name t.entries index found in
    omega (arith, ap (λ (u : Loaded Forms). in_entries n u.entries) (removed-kept name post t index found there), with_index n (retired post) name t.entries index at, old_at n name t index at)
removed_at_index n name post t index sound found false there =
    let at = Stands-index name t.entries index found in
    let none = ap (in_slot n) (none_from_test at.slots.current (ap is_some (sym (current_of-slots name t index at)) ∙ there)) in
    omega (arith, ap (λ (u : Loaded Forms). in_entries n u.entries) (removed-gone name post t index sound found there), without_index n name t.entries index at, old_at n name t index at, none)

removed_by : (n : ℕ) (name : List ℕ) (post : Option Purge) (t : Loaded Forms) → IsModuleTable t → (o : Option ℕ) → index_of name t.entries ≡ o → TakesOld n name t (removed name post t)
removed_by n name post t sound None absent = omega (arith, ap (λ (u : Loaded Forms). in_entries n u.entries) (removed-absent name post t absent), no_old n name t absent)
removed_by n name post t sound (Some index) found = removed_at_index n name post t index sound found (is_some (current_of name t)) refl

pub removed-takes : (n : ℕ) (name : List ℕ) (post : Option Purge) (t : Loaded Forms) → IsModuleTable t → TakesOld n name t (removed name post t)
removed-takes n name post t sound = removed_by n name post t sound (index_of name t.entries) refl

-- with an instance of the next serial
abbrev Reloads : ℕ → List ℕ → Forms → Option Purge → Loaded Forms → Type 0
Reloads n name code post t = in_entries n (loaded name code post (purged name t)).entries + in_slot n (old_of name t) ≡ in_entries n t.entries + in_slot n (Some (record { serial = t.next; code = code }))

loaded_at_index : (n : ℕ) (name : List ℕ) (code : Forms) (post : Option Purge) (t : Loaded Forms) (index : ℕ) → IsModuleTable t → (found : index_of name t.entries ≡ Some index) (b : Bool) → is_some (current_of name t) ≡ b → Reloads n name code post t
loaded_at_index n name code post t index sound found true there =
    let at = Stands-index name t.entries index found in
    omega (arith, ap (λ (u : Loaded Forms). in_entries n u.entries) (loaded-kept name code post t index found there), with_index n (stacked post (record { serial = t.next; code = code })) name t.entries index at, old_at n name t index at)
loaded_at_index n name code post t index sound found false there =
    let at = Stands-index name t.entries index found in
    let none = ap (in_slot n) (none_from_test at.slots.current (ap is_some (sym (current_of-slots name t index at)) ∙ there)) in
    let last : Entry Forms = (name, new_slots (record { serial = t.next; code = code })) in
    omega (arith, ap (λ (u : Loaded Forms). in_entries n u.entries) (loaded-gone name code post t index sound found there), sum_by-append (in_entry n) (remove t.entries index) (last ∷ []), sum_by-cons (in_entry n) last [], without_index n name t.entries index at, old_at n name t index at, none)

loaded-absent : (name : List ℕ) (code : Forms) (post : Option Purge) (t : Loaded Forms) → index_of name t.entries ≡ None → loaded name code post t ≡ record { entries = t.entries ++ (name, new_slots (record { serial = t.next; code = code })) ∷ []; next = t.next + 1 }
loaded-absent name code post t absent = (λ j. record { entries = loaded_at (absent j) name post (record { serial = t.next; code = code }) t.entries; next = t.next + 1 })

loaded_by : (n : ℕ) (name : List ℕ) (code : Forms) (post : Option Purge) (t : Loaded Forms) → IsModuleTable t → (o : Option ℕ) → index_of name t.entries ≡ o → Reloads n name code post t
loaded_by n name code post t sound None absent =
    let last : Entry Forms = (name, new_slots (record { serial = t.next; code = code })) in
    let same = purged-absent name t absent in
    let added : loaded name code post t ≡ record { entries = t.entries ++ last ∷ []; next = t.next + 1 } = loaded-absent name code post t absent in
    omega (arith, ap (λ (u : Loaded Forms). in_entries n (loaded name code post u).entries) same, ap (λ (u : Loaded Forms). in_entries n u.entries) added, sum_by-append (in_entry n) t.entries (last ∷ []), sum_by-cons (in_entry n) last [], no_old n name t absent)
loaded_by n name code post t sound (Some index) found = loaded_at_index n name code post t index sound found (is_some (current_of name t)) refl

pub loaded-takes : (n : ℕ) (name : List ℕ) (code : Forms) (post : Option Purge) (t : Loaded Forms) → IsModuleTable t → Reloads n name code post t
loaded-takes n name code post t sound = loaded_by n name code post t sound (index_of name t.entries) refl

-- So what is held is lost, where it is the old code.

among_one : (n : ℕ) (held : Option (Instance Forms)) → among n (option_to_list held) ≡ in_slot n held
among_one n None = refl
among_one n (Some i) = omega (arith, sum_by-cons (λ (x : Instance Forms). in_slot n (Some x)) i [])

pub purge-lost : (name : List ℕ) (t : Loaded Forms) (held : Option (Instance Forms)) → held ≡ old_of name t → CodeLost (option_to_list held) t (purged name t)
purge-lost name t held is n some = omega (arith, among_one n held, ap (in_slot n) is, purged-takes n name t)

pub removal-lost : (name : List ℕ) (post : Option Purge) (t : Loaded Forms) (held : Option (Instance Forms)) → IsModuleTable t → held ≡ old_of name t → CodeLost (option_to_list held) t (removed name post t)
removal-lost name post t held sound is n some = omega (arith, among_one n held, ap (in_slot n) is, removed-takes n name post t sound)

-- the serial of a load was not given before
new_slot : (n : ℕ) (code : Forms) (t : Loaded Forms) (b : Bool) → (t.next == n) ≡ b → IsModuleTable t → 1 ≤ in_entries n t.entries → in_slot n (Some (record { serial = t.next; code = code })) ≡ 0
new_slot n code t true same sound some = absurd (omega (arith, in_entries-given t.next n t.entries (omega (arith, eqb-true t.next n same)) sound.given, some))
new_slot n code t false other sound some = ap (λ b. if b then 1 else 0) other

pub load-lost : (name : List ℕ) (code : Forms) (post : Option Purge) (t : Loaded Forms) (held : Option (Instance Forms)) → IsModuleTable t → held ≡ old_of name t → CodeLost (option_to_list held) t (loaded name code post (purged name t))
load-lost name code post t held sound is n some =
    let there : 1 ≤ in_entries n t.entries = omega (arith, among_one n held, ap (in_slot n) is, purged-takes n name t, some) in
    omega (arith, among_one n held, ap (in_slot n) is, loaded-takes n name code post t sound, new_slot n code t (t.next == n) refl sound there)

-- Purges one after the other take each its own.

among_both : (n : ℕ) (xs ys : List (Instance Forms)) → among n (xs ++ ys) ≡ among n xs + among n ys
among_both n xs ys = sum_by-append (λ (x : Instance Forms). in_slot n (Some x)) xs ys

held_more : (n : ℕ) (us : List (ModulesUndo Forms)) (u : ModulesUndo Forms) → among n (all_held (us ++ u ∷ [])) ≡ among n (all_held us) + in_slot n (held u)
held_more n [] u = omega (arith, among_both n (option_to_list (held u)) [], among_one n (held u))
held_more n (v ∷ us) u =
    omega (arith, among_both n (option_to_list (held v)) (all_held (us ++ u ∷ [])), among_both n (option_to_list (held v)) (all_held us), held_more n us u)

pub none_taken : (m : Loaded Forms) → IsTaken [] m m
none_taken m n = omega arith

pub one_taken : (name : List ℕ) (us : List (ModulesUndo Forms)) (u : ModulesUndo Forms) (start now after : Loaded Forms) → after ≡ purged name now → held u ≡ old_of name now → IsTaken us start now → IsTaken (us ++ u ∷ []) start after
one_taken name us u start now after is holds taken n =
    omega (arith, held_more n us u, ap (in_slot n) holds, ap (λ (m : Loaded Forms). in_entries n m.entries) is, purged-takes n name now, taken n)

pub taken_lost : (us : List (ModulesUndo Forms)) (m after : Loaded Forms) → IsTaken us m after → CodeLost (all_held us) m after
taken_lost us m after taken n some = omega (arith, taken n)

-- What takes a change back, of the pieces that it holds.

lives_again : (u : ModulesUndo Forms) (o : Option (Instance Forms)) (killed : Option kills.ProcessesUndo) (t after : Table) → UndoesKills o killed t after → (IsSome o → HasPurged u) → LivesAgain u killed t after
lives_again u None None t after back has = back
lives_again u None (Some kill) t after back has = absurd back
lives_again u (Some i) None t after back has = absurd back
lives_again u (Some i) (Some kill) t after back has = (has refl, back)

nobody_killed : (t : Table) → HoldsLost no_pieces t t
nobody_killed t pid = ((_, refl), tt)

pub takes_back : (name : List ℕ) (u : ModulesUndo Forms) (killed : Option kills.ProcessesUndo) (m after : Loaded Forms) (t spared : Table) →
    Fits u after × (undone u after ≡ m) → UndoesKills (old_of name m) killed t spared → (IsSome (old_of name m) → HasPurged u) →
    CodeLost (option_to_list (held u)) m after → HoldsLost (held_killed killed spared) t spared →
    TakesBack (record { modules = u; killed = killed }) m t after spared
takes_back name u killed m after t spared (fits, back) kills purges lost pieces = record {
  fits = fits;
  code = back;
  processes = lives_again u (old_of name m) killed t spared kills purges;
  instances = lost;
  pieces = pieces;
}

pub takes_back_alone : (u : ModulesUndo Forms) (m after : Loaded Forms) (t : Table) → Fits u after × (undone u after ≡ m) →
    CodeLost (option_to_list (held u)) m after → TakesBack (record { modules = u; killed = None }) m t after t
takes_back_alone u m after t (fits, back) lost = record { fits = fits; code = back; processes = refl; instances = lost; pieces = nobody_killed t }

pub purge_taken : (name : List ℕ) (u : ModulesUndo Forms) (m after : Loaded Forms) → after ≡ purged name m → held u ≡ old_of name m → CodeLost (option_to_list (held u)) m after
purge_taken name u m after is holds = subst (λ (x : Loaded Forms). CodeLost (option_to_list (held u)) m x) (sym is) (purge-lost name m (held u) holds)

pub removal_taken : (name : List ℕ) (post : Option Purge) (u : ModulesUndo Forms) (m after : Loaded Forms) → Fits u after × (undone u after ≡ m) → after ≡ removed name post m → held u ≡ old_of name m → CodeLost (option_to_list (held u)) m after
removal_taken name post u m after (fits, back) is holds =
    subst (λ (x : Loaded Forms). CodeLost (option_to_list (held u)) m x) (sym is) (removal-lost name post m (held u) (subst IsModuleTable back fits.sound) holds)

pub load_taken : (name : List ℕ) (code : Forms) (post : Option Purge) (u : ModulesUndo Forms) (m after : Loaded Forms) → Fits u after × (undone u after ≡ m) → after ≡ loaded name code post (purged name m) → held u ≡ old_of name m → CodeLost (option_to_list (held u)) m after
load_taken name code post u m after (fits, back) is holds =
    subst (λ (x : Loaded Forms). CodeLost (option_to_list (held u)) m x) (sym is) (load-lost name code post m (held u) (subst IsModuleTable back fits.sound) holds)
