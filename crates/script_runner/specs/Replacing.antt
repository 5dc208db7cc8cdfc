-- Why a load of a script isn't carried out.
use Rattle.std.specs.Prelude.{◌≡◌, ℕ, List, None, Some}
use Rattle.code_server.specs.Modules.{Table as Loaded, load_refusal, purged}
use Rattle.code_server.specs.declared.error.CodeError.TheVariants as code_error
use Rattle.erl_ir.specs.Module.{Forms}
use Rattle.release_table.specs.declared.table.Release.{Release}
use Rattle.script_runner.specs.Failures.{no_object_code}
use Rattle.script_runner.specs.declared.halt.Halt.{Halt}
use Rattle.script_runner.specs.declared.halt.Halt.TheVariants.{Busy, Failed, CounterEnd}
use Rattle.script_state.specs.ObjectCode.{code_at_hand}
use Rattle.script_state.specs.declared.noted.NotedVersion.{NotedVersion}

-- No object code is at hand; or it is, and no serial is left for it.
abbrev pub HaltsLoad : Halt → Release → List ℕ → List NotedVersion → Loaded Forms → Type 0
HaltsLoad (Busy pid) r m versions modules = ⊥
HaltsLoad (Failed reason) r m versions modules = (code_at_hand m versions r ≡ None) × (reason ≡ no_object_code m)
HaltsLoad CounterEnd r m versions modules = (source : Forms) × (code_at_hand m versions r ≡ Some source) ×
    (load_refusal source.name (purged source.name modules) ≡ Some code_error.CounterEnd)
