-- What is likely wrong with an upgrade, seen from its releases and its script alone (relup(4); appup(4)).
use Rattle.std.specs.Prelude.{◌≡◌, ◌≢◌, ℕ, ◌+◌, true, false}
use Rattle.std.specs.Prelude.{List, codes, AllPairs, Contains, Option, None, Some, slice_get, take, drop}
use Rattle.erl_ir.specs.Module.{Forms, exported_of}
use Rattle.low_instructions.specs.declared.low.Low.{Low}
use Rattle.low_instructions.specs.declared.low.Low.TheVariants.{CodeChange, Load}
use Rattle.low_instructions.specs.declared.modules.Direction.{Direction}
use Rattle.low_instructions.specs.declared.modules.ModuleChange.{ModuleChange}
use Rattle.release_table.specs.declared.table.AppFiles.{AppFiles}
use Rattle.release_table.specs.declared.table.Release.{Release}
use Rattle.release_words.specs.declared.purge.Purge.{Purge}
use Rattle.upgrade_review.specs.Codes.{code_behind, code_in, is_callback_module, is_started_with}
use Rattle.upgrade_review.specs.Scripts.{is_loaded, is_removed, is_started, is_stopped, started_by, stopped_by}
use Rattle.upgrade_review.specs.declared.finding.Finding.{Finding}
use Rattle.upgrade_review.specs.declared.finding.Finding.TheVariants.{LoadedAgain, NoCodeChange, NoWayDown, NotLoaded, NotUndone}
use Rattle.upgrade_review.specs.declared.finding.Finding.TheVariants.{Restarts, Starts, Stops}

-- A finding about a script that leads from a release to another one, which it installs.
pub data IsFound (left installed : Release) (script : List Low) (f : Finding) : Type 0 where
  -- An application has a module that the release that is left lacks or has other code of, and the script doesn't load it.
  not_loaded : (a : AppFiles) (c : Forms) → Contains installed.apps a → Contains a.modules c → code_in c.name left ≢ Some c →
      is_loaded c.name script ≡ false → f ≡ NotLoaded a.spec.name c.name → IsFound left installed script f
  -- A module is loaded, both releases have the same code of it, and no application that has it is started.
  loaded_again : (i : ℕ) (m : List ℕ) (pre post : Purge) (c : Forms) → slice_get script i ≡ Some (Load m pre post) →
      code_in m left ≡ Some c → code_in m installed ≡ Some c → is_started_with m installed script ≡ false →
      f ≡ LoadedAgain i m → IsFound left installed script f
  -- Processes are to change their state by a module that exports no `code_change/3` at that point.
  no_code_change : (i : ℕ) (way : Direction) (changes : List ModuleChange) (change : ModuleChange) (c : Forms) →
      slice_get script i ≡ Some (CodeChange way changes) → Contains changes change →
      is_callback_module change.name installed ≡ false → code_behind change.name (take i script) left installed ≡ Some c →
      exported_of (codes "code_change") 3 c ≡ None → f ≡ NoCodeChange i change.name → IsFound left installed script f
  -- An application is started, and no instruction before stops it.
  starts : (i : ℕ) (low : Low) (app : List ℕ) → slice_get script i ≡ Some low → started_by low ≡ Some app →
      is_stopped app (take i script) ≡ false → f ≡ Starts i app → IsFound left installed script f
  -- An application is started, and an instruction before stops it.
  restarts : (i : ℕ) (low : Low) (app : List ℕ) → slice_get script i ≡ Some low → started_by low ≡ Some app →
      is_stopped app (take i script) ≡ true → f ≡ Restarts i app → IsFound left installed script f
  -- An application is stopped, and no instruction after it starts it.
  stops : (i : ℕ) (low : Low) (app : List ℕ) → slice_get script i ≡ Some low → stopped_by low ≡ Some app →
      is_started app (drop (i + 1) script) ≡ false → f ≡ Stops i app → IsFound left installed script f

-- A finding about the way back of a script, given the script that leads down again, if there is one.
pub data IsAmiss (up : List Low) (down : Option (List Low)) (f : Finding) : Type 0 where
  -- There is none.
  no_way_down : down ≡ None → f ≡ NoWayDown → IsAmiss up down f
  -- A module is loaded, and the script that leads down neither loads nor removes it.
  not_undone : (script : List Low) (i : ℕ) (m : List ℕ) (pre post : Purge) → down ≡ Some script →
      slice_get up i ≡ Some (Load m pre post) → is_loaded m script ≡ false → is_removed m script ≡ false → f ≡ NotUndone i m →
      IsAmiss up down f

-- No finding is at two indices.
abbrev pub AreDifferent : {F : Type 0} → List F → Type 0
AreDifferent found = AllPairs (λ one another. one ≢ another) found
