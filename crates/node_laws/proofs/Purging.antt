-- There is a list of the modules whose old code is noted to be purged, and of those that a sweep purges.
use Rattle.std.specs.Prelude.{◌≡◌, ◌+◌, ℕ, zero, suc, Bool, true, false, List, [], length, slice_get, take, refl}
use Rattle.std.proofs.Common.{arith, subst}
use Rattle.std.proofs.lemmas.List.{take_all}
use Rattle.std.specs.List.{filter}
use Rattle.code_server.specs.Modules.{Entry, IsModuleTable, Table as Loaded}
use Rattle.erl_ir.specs.Module.{Forms}
use Rattle.node_rules.specs.Node.{NodeState}
use Rattle.node_rules.specs.Scripts.{ArePurged}
use Rattle.process_store.specs.Table.{Table}
use Rattle.release_words.specs.declared.purge.Purge.{Purge}
use Rattle.release_words.specs.declared.purge.Purge.TheVariants.{Brutal, Soft}
use Rattle.unpurged_code.proofs.Gathering.{Gathered, all_gathered, gathered_next, left_alone, none_gathered}
use Rattle.unpurged_code.specs.Unpurged.{AreNoted, AreSwept, is_left_alone, with_entry}

gathered : (kind : Purge) (es : List (Entry Forms)) (index : ℕ) →
    (names : List (List ℕ)) × Gathered kind (take index es) names
gathered kind es zero = ([], none_gathered kind [] refl)
gathered kind es (suc index) =
    let before = gathered kind es index in
    let more = with_entry kind (slice_get es index) before.0 in
    let one : index + 1 ≡ suc index = omega arith in (
      more,
      subst (λ n. Gathered kind (take n es) more) one
          (gathered_next kind es index before.0 more refl before.1),
    )

pub noted : (kind : Purge) (modules : Loaded Forms) → IsModuleTable modules →
    (names : List (List ℕ)) × AreNoted kind modules names
noted kind modules sound =
    let es = modules.entries in
    let all = gathered kind es (length es) in (
      all.0,
      all_gathered kind modules all.0 sound
          (subst (λ l. Gathered kind l all.0) (take_all (length es) es (omega arith)) all.1),
    )

pub swept : (modules : Loaded Forms) (t : Table) → IsModuleTable modules →
    (names : List (List ℕ)) × AreSwept modules t names
swept modules t sound =
    let soft = noted Soft modules sound in
    let left = filter (is_left_alone modules t) soft.0 in
    (left, left_alone modules t soft.0 left soft.1 refl)

pub purged_names : (b : Bool) (n : NodeState) → IsModuleTable n.modules → (names : List (List ℕ)) × ArePurged b n names
purged_names true n sound = ([], refl)
purged_names false n sound = noted Brutal n.modules sound
