-- Each write takes a front of the rest.
use Rattle.line_server.proofs.Streams.{Appends-more}
use Rattle.line_server.proofs.writing.write_whole.Goals as goal

pub loop-rest-preserved : goal.loop-rest-preserved
loop-rest-preserved g c =
    let before = c.loop-rest.invariant in
    Appends-more _ _ _ c.args.bytes.now before.0 c.loop-rest.rest.now c.in-Ok.n before.1 before.2 c.in-Ok.ensures.bytes
