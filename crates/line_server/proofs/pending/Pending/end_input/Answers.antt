-- What is kept of the rest tells what the session hears of it.
use Rattle.std.proofs.Common.{◌<◌, length, subst, sym}
use Rattle.line_server.proofs.Steps.{OnOk-then, some_from_test, IsAnswered-no_rest, IsAnswered-rest}
use Rattle.line_server.proofs.pending.Pending.end_input.Goals as goal

pub returns-then-is_empty-clause-ok : goal.returns-then-is_empty-clause-ok
returns-then-is_empty-clause-ok g c = λ start had output so.
    IsAnswered-no_rest g.S.Session.exchange start had output c.args.session.now c.args.self.now (c.is_empty.ensures.0 c.if-is_empty.true) so

pub returns-clause-ok : goal.returns-clause-ok
returns-clause-ok g c =
    let some = some_from_test c.is_empty.result c.args.self.now.line.bytes.items c.is_empty.ensures.1 c.if-is_empty.false in
    let kept = subst (λ l. 0 < length l) (sym c.as_slice.ensures) some in
    OnOk-then c.hear.result _ _ c.hear.ensures.heard (λ hears start had output so. IsAnswered-rest g.S.Session.exchange start had output c.as_slice.result.now c.args.session.now c.hear.new.session c.args.self.now c.hear.new.self c.as_slice.ensures kept hears so)
