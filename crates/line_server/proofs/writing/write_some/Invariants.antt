-- The last call's result says what was written since the first.
use Rattle.std.specs.Io.{WritesAtMost}
use Rattle.std.specs.Io.KnownBytes.{WriteAppends}
use Rattle.line_server.proofs.writing.write_some.Given as goal

abbrev pub invariant-loop-i : goal.invariant-loop-i
invariant-loop-i g l =
    record {
      bound : WritesAtMost l.call l.bytes;
      bytes : WriteAppends (g.W.Write.contents l.fn.writer) (g.W.Write.contents l.writer) l.call l.bytes;
    }
