-- The session hears of the line what it would hear of all of it.
use Rattle.line_server.proofs.Steps.{OnOk-then, SoFar-ended_here}
use Rattle.line_server.proofs.pending.Pending.end_line.Goals as goal

pub returns-then-is_empty-clause-ok : goal.returns-then-is_empty-clause-ok
returns-then-is_empty-clause-ok g c =
    let begun = c.is_empty.ensures.0 c.if-is_empty.true in
    OnOk-then c.hear.result _ _ c.hear.ensures.heard (λ hears start had output so. SoFar-ended_here g.S.Session.exchange start had output c.args.end.now c.args.session.now c.hear.new.session c.args.self.now _ c.requires begun hears begun so)
