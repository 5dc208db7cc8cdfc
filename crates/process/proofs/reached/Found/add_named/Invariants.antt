use Rattle.process.specs.Indices.{Grows, IsNamedAt}
use Rattle.process.proofs.Finding.{AreFoundOf}
use Rattle.process.proofs.reached.Found.add_named.Given as goal

abbrev pub invariant-loop-name : goal.invariant-loop-name
invariant-loop-name l = record {
  grows : Grows (IsNamedAt l.modules l.code) l.initial.self l.self;
  found : AreFoundOf l.modules l.name-items l.name-index l.self.indices;
}
