-- Each read gives a chunk more, or ends the serving.
use Rattle.std.proofs.Common.{◌≡◌, ◌+◌, take, ap, subst, ◌∙◌, arith}
use Rattle.std.specs.Io.KnownBytes.{Consumes}
use Rattle.line_server.proofs.Ends.{Served-none, Served-chunk, Served-kept, Serves-read, Serves-endless, Serves-stopped, Serves-end, fault_of-passed}
use Rattle.line_server.proofs.serving.serve_reads.Goals as goal
use Rattle.line_server.proofs.serving.serve_reads.Goals.{in-Ok+in_ok-take_chunk-in-Ok, in-Err+else-ne}

pub loop-i-init : goal.loop-i-init
loop-i-init g c = record {
  served = Served-none g.S.Session.exchange c.args.session.now (g.R.Read.remaining c.args.reader.now) (g.W.Write.contents c.args.writer.now) c.args.pending.now c.requires.line c.requires.text c.requires.unrefused;
  room = c.requires.room;
  counted = c.none-reads.ensures;
}

pub loop-i-preserved : goal.loop-i-preserved
loop-i-preserved g c =
    let room = c.loop-i.invariant.room in
    let same = c.read.auto.buf in
    let counted : c.read.new.self ≡ c.loop-i._i + 1 = c.read.ensures.counted ∙ ap (λ n. n + 1) c.loop-i.invariant.counted in
    elim c.match-read.branch [
      | in-Ok+in_ok-take_chunk-in-Ok w ↦ record {
        served = rw (w.pending-is, w.session-is, w.writer-is) (Served-chunk g.S.Session.exchange c.args.session.now (take w.in-Ok.n c.read.new.buf) c.loop-i.session w.take_chunk.new.session _ _ _ _ _ _ c.loop-i.pending w.take_chunk.new.self c.loop-i.invariant.served w.in-Ok.ensures.bytes.0 w.in_ok-take_chunk-in-Ok.ensures.ok w.in_ok-take_chunk-in-Ok.ensures.none_left);
        room = omega (arith, room, same);
        counted = omega (arith, counted);
      }
      | in-Err+else-ne w ↦ record {
        served = rw (w.pending-is, w.session-is, w.writer-is) (Served-kept g.S.Session.exchange c.args.session.now c.loop-i.session _ _ _ _ _ c.loop-i.pending c.loop-i.invariant.served w.in-Err.ensures.bytes);
        room = omega (arith, room, same);
        counted = omega (arith, counted);
      }
    ]

pub returns : goal.returns
returns g c =
    Serves-endless g.S.Session.exchange c.args.session.now c.loop-i.reads c.loop-i.session _ _ _ _ c.loop-i.pending (omega (arith, c.loop-i.invariant.counted)) c.loop-i.invariant.served

pub returns-in-Ok-eq0 : goal.returns-in-Ok-eq0
returns-in-Ok-eq0 g c =
    let room = c.loop-i.invariant.room in
    let same = c.read.auto.buf in
    let test = c.in-Ok-eq0.field-0-test in
    let bytes = c.in-Ok-eq0.ensures.bytes in
    let none = subst (λ n. Consumes (g.R.Read.remaining c.loop-i.reader) (g.R.Read.remaining c.read.new.reader) (take n c.read.new.buf)) test bytes.0 in
    Serves-end g.S.Session.exchange c.args.session.now c.finish.result c.loop-i.session c.finish.new.session _ _ _ _ _ _ c.loop-i.pending c.finish.new.self c.loop-i.invariant.served none (bytes.1 test (omega (arith, room, same))) c.finish.ensures.ok c.finish.ensures.none_left c.finish.ensures.err

pub returns-in_err-take_chunk-in-Ok : goal.returns-in_err-take_chunk-in-Ok
returns-in_err-take_chunk-in-Ok g c =
    let fault = c.in_err-take_chunk-in-Ok.field-0.0 in
    let stopped = Serves-stopped g.S.Session.exchange c.args.session.now (take c.in-Ok.n c.read.new.buf) c.loop-i.session c.take_chunk.new.session _ _ _ _ _ _ c.loop-i.pending c.take_chunk.new.self fault c.loop-i.invariant.served c.in-Ok.ensures.bytes.0 c.in_err-take_chunk-in-Ok.ensures.err in
    rw (fault_of-passed c.from_residual.result fault c.from_residual.ensures.1) stopped

pub returns-then-ne : goal.returns-then-ne
returns-then-ne g c =
    Serves-read g.S.Session.exchange c.args.session.now c.in-Err.e c.loop-i.session (g.R.Read.remaining c.args.reader.now) (g.R.Read.remaining c.loop-i.reader) (g.R.Read.remaining c.read.new.reader) (g.W.Write.contents c.args.writer.now) (g.W.Write.contents c.loop-i.writer) c.loop-i.pending c.loop-i.invariant.served c.in-Err.ensures.bytes
