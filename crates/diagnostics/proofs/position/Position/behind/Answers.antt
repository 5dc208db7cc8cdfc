-- A line has ended.
use Rattle.diagnostics.proofs.Behind.{behind-newline}
use Rattle.diagnostics.proofs.position.Position.behind.Goals as goal

pub returns-then-byte-eq10-clause-behind : goal.returns-then-byte-eq10-clause-behind
returns-then-byte-eq10-clause-behind c = λ before stands. behind-newline before c.args.byte c.args.self c.if-byte-eq10.true stands
