-- Flushes write nothing.
use Rattle.std.specs.Io.KnownBytes.{Keeps}
use Rattle.line_server.proofs.writing.flush.Given as goal

abbrev pub invariant-loop-i : goal.invariant-loop-i
invariant-loop-i g l = Keeps (g.W.Write.contents l.fn.writer) (g.W.Write.contents l.writer)
