-- Instances are found again by their names and serials.
use Rattle.std.proofs.Common.{◌≡◌, ℕ, suc, ◌≤◌, eqb, Bool, true, false, cond, All, List, [], ◌∷◌, ◌++◌, get_or, slice_get, map, Option, None, Some, option_and_then, option_map, refl, sym, ap, ◌∙◌, arith}
use Rattle.std.specs.Option.{option_or}
use Rattle.std.proofs.lemmas.Bool.{eq-eqb, eqb-true}
use Rattle.std.proofs.lemmas.List.Elements.{All-cons, All-head, All-nil, All-tail}
use Rattle.std.proofs.lemmas.List.Sums.{get_or-le-sum_by}
use Rattle.std.proofs.lemmas.Option.{get_or_from_slice_get}
use Rattle.erl_ir.specs.Module.{Forms}
use Rattle.erl_semantics.specs.State.{Instance}
use Rattle.code_server.specs.Modules.{Entry, IsModuleTable, Table, current_of, in_entry, in_entries, in_slot, old_of}
use Rattle.code_server.specs.declared.modules.Instance as loaded
use Rattle.code_server.proofs.Changes.{current_of-slots, old_of-slots}
use Rattle.code_server.proofs.Standing.{Stands-index}
use Rattle.process.specs.JobCode.{AreReached, none, reached, without_code, not_reached, job_code, instance_of}
use Rattle.process.specs.Named.{AreFoundAgain, JobCodeStands, StandsIn, as_current, as_old, all_found, and_others, found, if_serial, named_instance}
use Rattle.process.proofs.Standing.{current-at_index, index-of_entry, placed}

-- What a loop found so far, before what it finds of the others.
abbrev pub prefixed : List Instance → Option (List Instance) → Option (List Instance)
prefixed xs None = None
prefixed xs (Some ys) = Some (xs ++ ys)

-- The current and the old code of a module differ in serial.

slot_of : (i : loaded.Instance Forms) (serial : ℕ) (o : Option (loaded.Instance Forms)) → o ≡ Some i → i.serial ≡ serial → in_slot serial o ≡ 1
slot_of i serial o is same = ap (in_slot serial) is ∙ ap (λ b. cond b 1 0) (eq-eqb i.serial serial same)

apart : (t : Table Forms) (name : List ℕ) (c l : loaded.Instance Forms) → IsModuleTable t → current_of name t ≡ Some c → old_of name t ≡ Some l → c.serial ≡ l.serial → ⊥
apart t name c l sound at at_old same =
    let index = placed name t c at in
    let stands = Stands-index name t.entries index.0 index.1 in
    let entry : Entry Forms = (name, stands.slots) in
    let first : in_slot l.serial stands.slots.current ≡ 1 = slot_of c l.serial stands.slots.current (sym (current_of-slots name t index.0 stands) ∙ at) same in
    let second : in_slot l.serial stands.slots.former ≡ 1 = slot_of l l.serial stands.slots.former (sym (old_of-slots name t index.0 stands) ∙ at_old) refl in
    let is : in_entry l.serial (get_or t.entries index.0 entry) ≡ in_entry l.serial entry = ap (in_entry l.serial) (get_or_from_slice_get t.entries index.0 entry entry stands.entry) in
    let most : in_entry l.serial (get_or t.entries index.0 entry) ≤ in_entries l.serial t.entries = get_or-le-sum_by (in_entry l.serial) t.entries index.0 entry stands.within in
    let once : in_entries l.serial t.entries ≤ 1 = sound.once l.serial in
    omega (arith, first, second, is, most, once)

if_same : (i : loaded.Instance Forms) → if_serial i.serial (Some i) ≡ Some i
if_same i = ap (λ b. cond b (Some i) None) (eq-eqb i.serial i.serial refl)

if_other : (c : loaded.Instance Forms) (serial : ℕ) (b : Bool) → eqb c.serial serial ≡ b → (c.serial ≡ serial → ⊥) → if_serial serial (Some c) ≡ None
if_other c serial true is other = absurd (other (eqb-true c.serial serial is))
if_other c serial false is other = ap (λ b. cond b (Some c) None) is

current_passed : (t : Table Forms) (name : List ℕ) (l : loaded.Instance Forms) (o : Option (loaded.Instance Forms)) → IsModuleTable t → current_of name t ≡ o → old_of name t ≡ Some l → if_serial l.serial (current_of name t) ≡ None
current_passed t name l None sound is at = ap (if_serial l.serial) is
current_passed t name l (Some c) sound is at = ap (if_serial l.serial) is ∙ if_other c l.serial (eqb c.serial l.serial) refl (apart t name c l sound is at)

pub found_again : (t : Table Forms) (i : Instance) → IsModuleTable t → StandsIn t i → found i.name i.serial t ≡ Some i
found_again t _ sound (as_current {name} {i} at) =
    ap (λ o. option_map (instance_of name) (option_or o (if_serial i.serial (old_of name t)))) (ap (if_serial i.serial) at ∙ if_same i)
found_again t _ sound (as_old {name} {i} at) =
    ap (λ o. option_map (instance_of name) (option_or o (if_serial i.serial (old_of name t)))) (current_passed t name i (current_of name t) sound refl at)
    ∙ ap (option_map (instance_of name)) (ap (if_serial i.serial) at ∙ if_same i)

pub are_found_again : AreFoundAgain
are_found_again t [] sound all = refl
are_found_again t (i ∷ instances) sound all =
    ap (λ o. and_others o (all_found (map named_instance instances) t)) (found_again t i sound (All-head (StandsIn t) i instances all))
    ∙ ap (and_others (Some i)) (are_found_again t instances sound (All-tail (StandsIn t) i instances all))

-- The code of a job stands in the table.

reached_stands : (t : Table Forms) (from : Forms) (entries : List (Entry Forms)) (code : List Instance) → ((j : ℕ) (entry : Entry Forms) → slice_get entries j ≡ Some entry → current_of entry.0 t ≡ entry.1.current) → AreReached t from entries code → All (StandsIn t) code
reached_stands t from _ _ current none = All-nil (StandsIn t)
reached_stands t from _ _ current (reached {entry} {entries} {i} {code} is at rest) =
    All-cons (StandsIn t) (instance_of entry.0 i) code (as_current (current 0 entry refl ∙ at)) (reached_stands t from entries code (λ j. current (suc j)) rest)
reached_stands t from _ _ current (without_code {entry} {entries} {code} at rest) = reached_stands t from entries code (λ j. current (suc j)) rest
reached_stands t from _ _ current (not_reached {entry} {entries} {code} never rest) = reached_stands t from entries code (λ j. current (suc j)) rest

pub job_code_stands : JobCodeStands
job_code_stands t entered _ sound stands (job_code {reached = code} are) =
    All-cons (StandsIn t) entered code stands (reached_stands t entered.forms t.entries code current are)
  where
    current : (j : ℕ) (entry : Entry Forms) → slice_get t.entries j ≡ Some entry → current_of entry.0 t ≡ entry.1.current
    current j entry at =
        current-at_index entry.0 t j (index-of_entry t.entries j entry sound.distinct at) ∙ ap (option_and_then (λ e. e.1.current)) at
