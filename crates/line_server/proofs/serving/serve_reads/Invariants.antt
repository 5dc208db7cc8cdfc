-- All that was read is served, and each read is counted.
use Rattle.std.proofs.Common.{◌≡◌, ◌<◌, length}
use Rattle.line_server.proofs.Ends.{Served}
use Rattle.line_server.proofs.serving.serve_reads.Given as goal

abbrev pub invariant-loop-i : goal.invariant-loop-i
invariant-loop-i g l =
    record {
      served : Served g.S.Session.exchange l.initial.session l.session (g.R.Read.remaining l.initial.reader) (g.R.Read.remaining l.reader) (g.W.Write.contents l.initial.writer) (g.W.Write.contents l.writer) l.pending;
      room : 0 < length l.chunk;
      counted : l.reads ≡ l._i;
    }
