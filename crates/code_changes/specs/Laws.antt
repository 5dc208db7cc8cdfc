-- An upgrade's `code_change` has one outcome.
use Rattle.std.specs.Prelude.{◌≡◌, List}
use Rattle.app_table.specs.Applications.{Application}
use Rattle.code_changes.specs.Changing.{AllUpgrade, RefusesCodeChange, Script, Upgraded}
use Rattle.code_changes.specs.declared.changing.CodeChangeError.{CodeChangeError}
use Rattle.erl_semantics.specs.declared.instance.Instance.{Instance}
use Rattle.low_instructions.specs.declared.modules.ModuleChange.{ModuleChange}
use Rattle.process_store.specs.Table.{Table}
use Rattle.upgrade_calls.specs.Changing.{AreCounted}

-- What is done is one thing; where it isn't, it is for one reason; and never both. A table of a node counts each turn.
pub record CodeChangesOneWay : Type 0 where
  pub upgrades : (code : List Instance) (s : Script) (ms : List ModuleChange) (apps : List Application) (t : Table)
      (u v : Upgraded) →
      AllUpgrade code s ms apps t u → AllUpgrade code s ms apps t v → u ≡ v
  pub refuses : (code : List Instance) (s : Script) (ms : List ModuleChange) (apps : List Application) (t : Table) →
      (e f : CodeChangeError) → RefusesCodeChange e code s ms apps t → RefusesCodeChange f code s ms apps t → e ≡ f
  pub never_both : (code : List Instance) (s : Script) (ms : List ModuleChange) (apps : List Application) (t : Table) →
      (u : Upgraded) (e : CodeChangeError) → AllUpgrade code s ms apps t u → AreCounted u.changes u.processes →
      RefusesCodeChange e code s ms apps t → ⊥
