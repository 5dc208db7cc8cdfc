-- The processes that a script keeps suspended by the name of a module (appup(4), suspend, resume; release_handler(3)).
use Rattle.std.specs.Prelude.{ℕ, Bool, false, ◌&&◌, ◌||◌, not, List, [], ◌∷◌}
use Rattle.std.specs.List.{list_any}
use Rattle.std.specs.Str.{bytes_eq}
use Rattle.low_instructions.specs.declared.low.Low.{Low}
use Rattle.low_instructions.specs.declared.low.Low.TheVariants.{LoadObjectCode, PointOfNoReturn, Load, Remove, Purge, Suspend}
use Rattle.low_instructions.specs.declared.low.Low.TheVariants.{Resume, CodeChange, Stop, Start, Apply}
use Rattle.low_instructions.specs.declared.modules.Suspension.{Suspension}

-- Whether a name is among those of an instruction.

abbrev pub is_among : List ℕ → List (List ℕ) → Bool
is_among m modules = list_any (λ name. bytes_eq name m) modules

abbrev pub is_suspended_among : List ℕ → List Suspension → Bool
is_suspended_among m modules = list_any (λ s. bytes_eq s.name m) modules

-- Whether processes are kept suspended by the name `m` after an instruction, given whether they were before it: a `suspend`
-- keeps them, and a `resume` releases them.
abbrev pub kept_after : List ℕ → Bool → Low → Bool
kept_after m kept (LoadObjectCode application version modules) = kept
kept_after m kept PointOfNoReturn = kept
kept_after m kept (Load name pre post) = kept
kept_after m kept (Remove name pre post) = kept
kept_after m kept (Purge modules) = kept
kept_after m kept (Suspend modules) = kept || is_suspended_among m modules
kept_after m kept (Resume modules) = kept && not (is_among m modules)
kept_after m kept (CodeChange direction changes) = kept
kept_after m kept (Stop modules) = kept
kept_after m kept (Start modules) = kept
kept_after m kept (Apply name function arguments) = kept

-- after each instruction of a script, from the first on
unfoldable pub through : (Bool → Low → Bool) → Bool → List Low → Bool
through after kept [] = kept
through after kept (low ∷ script) = through after (after kept low) script

-- Whether processes are kept suspended by the name `m` after a script.
abbrev pub has_suspended : List ℕ → List Low → Bool
has_suspended m script = through (kept_after m) false script
