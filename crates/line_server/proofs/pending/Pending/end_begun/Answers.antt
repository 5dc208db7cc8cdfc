-- The session hears of all of the line.
use Rattle.std.proofs.Common.{◌∙◌}
use Rattle.line_server.proofs.Steps.{SoFar-ended_there}
use Rattle.line_server.proofs.pending.Pending.end_begun.Goals as goal

pub returns-clause-ok : goal.returns-clause-ok
returns-clause-ok g c = λ start had output so.
    SoFar-ended_there g.S.Session.exchange start had output c.args.end.now c.as_slice.result.now c.args.session.now c.hear.new.session c.args.self.now _ c.requires (c.as_slice.ensures ∙ c.append.ensures) c.in_ok-hear.ensures.heard c.clear.ensures so
