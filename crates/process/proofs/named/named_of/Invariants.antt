use Rattle.std.proofs.Common.{◌≡◌, map, take}
use Rattle.erl_semantics.specs.Views.{instance}
use Rattle.process.specs.Named.{named_instance}
use Rattle.process.proofs.named.named_of.Given as goal

abbrev pub invariant-loop-it : goal.invariant-loop-it
invariant-loop-it l = l.named.items ≡ map named_instance (map instance (take l.it-index l.instances))
