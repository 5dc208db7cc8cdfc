-- What instructions depend on (appup(4), DepMods). They are told apart by their indices in the entry, counted from 0, for two
-- may be equal.
use Rattle.std.specs.Prelude.{ℕ, Bool, false, List, [], slice_get, Option, Some, None}
use Rattle.std.specs.List.{list_any}
use Rattle.std.specs.Option.{option_map_or}
use Rattle.std.specs.Str.{bytes_eq}
use Rattle.high_instructions.specs.declared.high.High.TheVariants.{Module, Application}
use Rattle.high_instructions.specs.Forms.{Name, Names}
use Rattle.instructions.specs.declared.instruction.Instruction.{Instruction}
use Rattle.instructions.specs.declared.instruction.Instruction.TheVariants.{High, Low}

-- the module that an instruction is on, if it is on one
abbrev pub module_of : Instruction → Option Name
module_of (High (Module m)) = Some m.name
module_of (High (Application a)) = None
module_of (Low low) = None

-- the modules that it names as those that it depends on
abbrev pub dependencies_of : Instruction → Names
dependencies_of (High (Module m)) = m.dependencies
dependencies_of (High (Application a)) = []
dependencies_of (Low low) = []

-- the one instruction names the module that the other is on; a module that no instruction is on joins nothing
abbrev pub depends_on : Instruction → Instruction → Bool
depends_on i j = option_map_or (λ m. list_any (λ name. bytes_eq name m) (dependencies_of i)) (module_of j) false

-- the same of the instructions at two indices of an entry
abbrev pub depends : List Instruction → ℕ → ℕ → Bool
depends is p q = option_map_or (λ i. option_map_or (λ j. depends_on i j) (slice_get is q) false) (slice_get is p) false
