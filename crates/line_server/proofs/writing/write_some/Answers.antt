-- An interrupted write wrote nothing.
use Rattle.line_server.proofs.Streams.{WriteAppends-interrupted}
use Rattle.line_server.proofs.writing.write_some.Goals as goal

pub loop-i-preserved : goal.loop-i-preserved
loop-i-preserved g c = record {
  bound = c.write-call-in-loop-i.ensures.bound;
  bytes = WriteAppends-interrupted _ _ _ c.loop-i.call c.write-call-in-loop-i.result c.args.bytes.now (c.is_interrupted.ensures c.if-not-is_interrupted.false) c.loop-i.invariant.bytes c.write-call-in-loop-i.ensures.bytes;
}
