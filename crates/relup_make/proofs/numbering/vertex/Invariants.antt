-- The numbers so far.
use Rattle.std.proofs.Common.{◌≡◌, take}
use Rattle.std.specs.List.{filter_map}
use Rattle.relup_make.specs.Indexes.{index_of}
use Rattle.relup_make.proofs.numbering.vertex.Given as goal

abbrev pub invariant-loop-name : goal.invariant-loop-name
invariant-loop-name l = l.dependencies.items ≡ filter_map (λ name. index_of 0 name l.modules) (take l.name-index l.names)
