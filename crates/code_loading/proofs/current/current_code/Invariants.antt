-- What is there, and what is left.
use Rattle.std.proofs.Common.{◌≡◌, ◌++◌, drop}
use Rattle.std.specs.Prelude.{filter_map}
use Rattle.code_loading.specs.Current.{current_in}
use Rattle.code_loading.proofs.current.current_code.Given as goal

abbrev pub invariant-loop-index : goal.invariant-loop-index
invariant-loop-index l = l.code.items ++ filter_map current_in (drop l.index l.modules.entries) ≡ filter_map current_in l.modules.entries
