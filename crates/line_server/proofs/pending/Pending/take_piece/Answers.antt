-- The first newline cuts the chunk.
use Rattle.std.proofs.Common.{[], ◌∷◌, ◌++◌, take, refl}
use Rattle.line_server.proofs.Cuts.{none_before, none_in, parted_at-newline, parted_at-end}
use Rattle.line_server.proofs.Steps.{SoFar-piece}
use Rattle.line_server.proofs.pending.Pending.take_piece.Goals as goal

pub end_line-requires : goal.end_line-requires
end_line-requires g c =
    none_before c.args.chunk.now c.in-Some.end (λ k from below within. c.in-Some.ensures.0.before k from below)

pub returns-in_ok-end_line-in-Some-clause-ok : goal.returns-in_ok-end_line-in-Some-clause-ok
returns-in_ok-end_line-in-Some-clause-ok g c =
    let chunk = c.args.chunk.now in
    let end = c.in-Some.end in (
      take end chunk ++ 10 ∷ [],
      parted_at-newline chunk end c.in-Some.ensures.0.high c.in-Some.ensures.1,
      c.in_ok-end_line-in-Some.ensures.ok,
    )

pub returns-in-None-clause-ok : goal.returns-in-None-clause-ok
returns-in-None-clause-ok g c =
    let chunk = c.args.chunk.now in (
      chunk,
      parted_at-end chunk,
      λ start had output so. SoFar-piece g.S.Session.exchange start had output chunk c.args.session.now c.args.self.now _ (none_in chunk c.in-None.ensures) refl refl c.append.ensures so,
    )
