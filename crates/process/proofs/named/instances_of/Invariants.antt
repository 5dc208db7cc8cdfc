use Rattle.std.proofs.Common.{◌≡◌, drop, map}
use Rattle.erl_semantics.specs.Views.{instance}
use Rattle.process.specs.Named.{all_found}
use Rattle.process.proofs.FoundAgain.{prefixed}
use Rattle.process.proofs.named.instances_of.Given as goal

abbrev pub invariant-loop-told : goal.invariant-loop-told
invariant-loop-told l =
    prefixed (map instance l.instances.items) (all_found (drop l.told-index l.named) l.modules) ≡ all_found l.named l.modules
