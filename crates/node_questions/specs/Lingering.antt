-- Processes that linger in old code (erlang:check_process_code/2).
use Rattle.std.specs.Prelude.{ℕ, List, map}
use Rattle.std.specs.List.{flat_map}
use Rattle.code_loading.specs.Loading.{lingering_in}
use Rattle.code_server.specs.declared.modules.Slots.{Slots}
use Rattle.erl_ir.specs.Module.{Forms}
use Rattle.process_store.specs.Table.{Table}

-- A module with each process that lingers in its old code; and the same for each module of a table.

abbrev pub lingerers_of : Table → List ℕ × Slots Forms → List (List ℕ × ℕ)
lingerers_of t entry = map (λ pid. (entry.0, pid)) (lingering_in entry.1.former t)

abbrev pub lingerers : Table → List (List ℕ × Slots Forms) → List (List ℕ × ℕ)
lingerers t modules = flat_map (lingerers_of t) modules
