-- What was taken of the chunk is answered, and so many of the answers are written.
use Rattle.std.proofs.Common.{◌≡◌, ℕ, List, ◌++◌, length}
use Rattle.line_server.specs.Progress.{GoesOn}
use Rattle.line_server.proofs.pending.Pending.take_chunk.Given as goal

abbrev pub invariant-loop-rest : goal.invariant-loop-rest
invariant-loop-rest g l =
    (bytes : List ℕ) × (l.chunk ≡ bytes ++ l.rest) × GoesOn g.S.Session.exchange bytes l.initial.session l.session (g.W.Write.contents l.initial.writer) (g.W.Write.contents l.writer) l.initial.self l.self

abbrev pub decreases-loop-rest : goal.decreases-loop-rest
decreases-loop-rest g l = length l.rest
