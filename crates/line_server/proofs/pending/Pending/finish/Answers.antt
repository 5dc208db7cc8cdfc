-- The answer to the rest is written like the others.
use Rattle.std.proofs.Common.{[], refl}
use Rattle.line_server.proofs.Steps.{GoesOn-none, StopsIn-refused, StopsIn-end, Finishes-written, OnOk-both, IfErr-then}
use Rattle.line_server.proofs.pending.Pending.finish.Goals as goal

pub returns-in-Ok-clause-ok : goal.returns-in-Ok-clause-ok
returns-in-Ok-clause-ok g c =
    OnOk-both c.write.result _ _ _ c.write.ensures.whole c.write.ensures.none_left (λ written empty. Finishes-written g.S.Session.exchange c.args.session.now c.end_input.new.session _ _ c.args.self.now _ c.end_input.new.self.answers c.in-Ok.ensures.ok written empty c.write.ensures.refused)

pub returns-in-Ok-clause-err : goal.returns-in-Ok-clause-err
returns-in-Ok-clause-err g c =
    IfErr-then c.write.result _ _ c.write.ensures.err (λ fault writing. StopsIn-end g.S.Session.exchange c.args.session.now c.end_input.new.session _ _ c.args.self.now _ c.end_input.new.self.answers fault c.in-Ok.ensures.ok c.write.ensures.front c.write.ensures.refused writing)

pub returns-in-Err-clause-err : goal.returns-in-Err-clause-err
returns-in-Err-clause-err g c =
    let on = GoesOn-none g.S.Session.exchange c.args.session.now (g.W.Write.contents c.args.writer.now) c.args.self.now in
    StopsIn-refused g.S.Session.exchange [] [] [] _ _ _ _ _ _ c.args.self.now _ c.end_input.new.self.answers c.give_up.result refl on c.in-Err.ensures.err c.give_up.ensures.front c.give_up.ensures.refused c.give_up.ensures.fault
