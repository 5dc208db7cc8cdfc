use Rattle.std.proofs.Common.{◌≡◌, ◌++◌, map}
use Rattle.erl_semantics.specs.Views.{instance}
use Rattle.process.specs.Indices.{current_code}
use Rattle.process.proofs.reached.push_current.Given as goal

abbrev pub invariant-loop-index : goal.invariant-loop-index
invariant-loop-index l =
    map instance l.code.items ++ current_code l.modules.entries l.index-iterator ≡ map instance l.initial.code.items ++ current_code l.modules.entries l.indices.keys
