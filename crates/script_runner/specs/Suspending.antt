-- Why a `code_change` isn't made.
use Rattle.std.specs.Prelude.{◌≡◌, List}
use Rattle.app_table.specs.Applications.{Application}
use Rattle.code_changes.specs.Changing.{RefusesCodeChange, Script}
use Rattle.code_changes.specs.declared.changing.CodeChangeError.{CodeChangeError}
use Rattle.code_changes.specs.declared.changing.CodeChangeError.TheVariants as change_error
use Rattle.erl_semantics.specs.declared.instance.Instance.{Instance}
use Rattle.low_instructions.specs.declared.modules.ModuleChange.{ModuleChange}
use Rattle.process_store.specs.Table.{Table}
use Rattle.script_runner.specs.Failures.{code_change_failed}
use Rattle.script_runner.specs.declared.halt.Halt.{Halt}
use Rattle.script_runner.specs.declared.halt.Halt.TheVariants.{Failed, CounterEnd}

-- A process has failed to change its state, a supervisor gives no supervision, which says so itself, or a turn can't be counted.
abbrev pub halt_of : CodeChangeError → Halt
halt_of (change_error.Unchanged failed) = Failed (code_change_failed failed.pid failed.reason)
halt_of (change_error.BadInit reason) = Failed reason
halt_of change_error.CounterEnd = CounterEnd

abbrev pub HaltsChange : Halt → List Instance → Script → List ModuleChange → List Application → Table → Type 0
HaltsChange halt code s changes apps t = (e : CodeChangeError) × RefusesCodeChange e code s changes apps t × (halt ≡ halt_of e)
