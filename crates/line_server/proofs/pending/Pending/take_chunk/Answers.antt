-- Each turn takes a piece, and writes the answers where they are many.
use Rattle.std.proofs.Common.{◌++◌, length, sym, ap, ◌∙◌, append_assoc, append-nil, refl}
use Rattle.std.proofs.lemmas.Bool.{eqb-true}
use Rattle.std.proofs.lemmas.List.{nil_from_length}
use Rattle.line_server.specs.Progress.{StopsIn}
use Rattle.line_server.proofs.Steps.{GoesOn-piece, GoesOn-written, StopsIn-part, StopsIn-refused, OnOk-both, IfErr-then, IfErr-passed}
use Rattle.line_server.proofs.pending.Pending.take_chunk.Goals as goal

pub returns-in-Err-clause-err : goal.returns-in-Err-clause-err
returns-in-Err-clause-err g c =
    let so = c.loop-rest.invariant in
    StopsIn-refused g.S.Session.exchange c.args.chunk.now so.0 c.loop-rest.rest.now c.args.session.now c.loop-rest.session (g.W.Write.contents c.args.writer.now) (g.W.Write.contents c.loop-rest.writer) (g.W.Write.contents c.give_up.new.writer) c.args.self.now c.loop-rest.self record { line = c.take_piece.new.self.line; answers = c.give_up.new.self } c.take_piece.new.self.answers c.give_up.result so.1 so.2 c.in-Err.ensures.err c.give_up.ensures.front c.give_up.ensures.refused c.give_up.ensures.fault

pub returns-in_err-write-clause-err : goal.returns-in_err-write-clause-err
returns-in_err-write-clause-err g c =
    let so = c.loop-rest.invariant in
    let piece = c.in-Ok.ensures.ok in
    let on = GoesOn-piece g.S.Session.exchange so.0 piece.0 c.args.session.now c.loop-rest.session c.take_piece.new.session (g.W.Write.contents c.args.writer.now) (g.W.Write.contents c.loop-rest.writer) c.args.self.now c.loop-rest.self c.take_piece.new.self so.2 piece.2 in
    let stops = StopsIn-part g.S.Session.exchange c.args.chunk.now (so.0 ++ piece.0) c.in-Ok.left.now c.args.session.now c.take_piece.new.session (g.W.Write.contents c.args.writer.now) (g.W.Write.contents c.loop-rest.writer) (g.W.Write.contents c.write.new.writer) c.args.self.now c.take_piece.new.self record { line = c.take_piece.new.self.line; answers = c.write.new.self } c.in_err-write.field-0.0 (so.1 ∙ ap (λ l. so.0 ++ l) piece.1 ∙ sym (append_assoc so.0 piece.0 c.in-Ok.left.now)) on c.in_err-write.ensures.front c.in_err-write.ensures.refused c.in_err-write.ensures.err in
    IfErr-passed c.from_residual.result c.in_err-write.field-0.0 (StopsIn g.S.Session.exchange c.args.chunk.now c.args.session.now (g.W.Write.contents c.args.writer.now) (g.W.Write.contents c.write.new.writer) c.args.self.now record { line = c.take_piece.new.self.line; answers = c.write.new.self }) c.from_residual.ensures.1 stops

pub loop-rest-preserved : goal.loop-rest-preserved
loop-rest-preserved g c =
    let so = c.loop-rest.invariant in
    let piece = c.in-Ok.ensures.ok in
    let on = GoesOn-piece g.S.Session.exchange so.0 piece.0 c.args.session.now c.loop-rest.session c.take_piece.new.session (g.W.Write.contents c.args.writer.now) (g.W.Write.contents c.loop-rest.writer) c.args.self.now c.loop-rest.self c.take_piece.new.self so.2 piece.2 in (
      so.0 ++ piece.0,
      so.1 ∙ ap (λ l. so.0 ++ l) piece.1 ∙ sym (append_assoc so.0 piece.0 c.in-Ok.left.now),
      on,
    )

pub loop-rest-preserved-in-Continue-1 : goal.loop-rest-preserved-in-Continue-1
loop-rest-preserved-in-Continue-1 g c =
    let so = c.loop-rest.invariant in
    let piece = c.in-Ok.ensures.ok in
    let on = GoesOn-piece g.S.Session.exchange so.0 piece.0 c.args.session.now c.loop-rest.session c.take_piece.new.session (g.W.Write.contents c.args.writer.now) (g.W.Write.contents c.loop-rest.writer) c.args.self.now c.loop-rest.self c.take_piece.new.self so.2 piece.2 in (
      so.0 ++ piece.0,
      so.1 ∙ ap (λ l. so.0 ++ l) piece.1 ∙ sym (append_assoc so.0 piece.0 c.in-Ok.left.now),
      GoesOn-written g.S.Session.exchange (so.0 ++ piece.0) c.args.session.now c.take_piece.new.session (g.W.Write.contents c.args.writer.now) (g.W.Write.contents c.loop-rest.writer) (g.W.Write.contents c.write.new.writer) c.args.self.now c.take_piece.new.self record { line = c.take_piece.new.self.line; answers = c.write.new.self } on c.in_ok-write.ensures.whole c.in_ok-write.ensures.none_left c.in_ok-write.ensures.refused refl,
    )

pub returns-clause-ok : goal.returns-clause-ok
returns-clause-ok g c =
    let so = c.loop-rest.invariant in
    let none = nil_from_length c.loop-rest.rest.now (eqb-true (length c.loop-rest.rest.now) 0 (sym c.loop-rest-test.ensures)) in
    let all = so.1 ∙ ap (λ l. so.0 ++ l) none ∙ append-nil so.0 in
    OnOk-both c.write-2.result _ _ _ c.write-2.ensures.whole c.write-2.ensures.none_left (λ written empty. rw all (GoesOn-written g.S.Session.exchange so.0 c.args.session.now c.loop-rest.session (g.W.Write.contents c.args.writer.now) (g.W.Write.contents c.loop-rest.writer) (g.W.Write.contents c.write-2.new.writer) c.args.self.now c.loop-rest.self record { line = c.loop-rest.self.line; answers = c.write-2.new.self } so.2 written empty c.write-2.ensures.refused refl))

pub returns-clause-err : goal.returns-clause-err
returns-clause-err g c =
    let so = c.loop-rest.invariant in
    IfErr-then c.write-2.result _ _ c.write-2.ensures.err (λ fault writing. StopsIn-part g.S.Session.exchange c.args.chunk.now so.0 c.loop-rest.rest.now c.args.session.now c.loop-rest.session (g.W.Write.contents c.args.writer.now) (g.W.Write.contents c.loop-rest.writer) (g.W.Write.contents c.write-2.new.writer) c.args.self.now c.loop-rest.self record { line = c.loop-rest.self.line; answers = c.write-2.new.self } fault so.1 so.2 c.write-2.ensures.front c.write-2.ensures.refused writing)
