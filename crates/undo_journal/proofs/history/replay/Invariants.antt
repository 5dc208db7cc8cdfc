-- The journal is what the commands so far made of the first node, as they were carried out, and no
-- more serials are given, nor commands missed, than commands passed.
use Rattle.std.proofs.Common.{◌≤◌, take}
use Rattle.undo_journal.specs.Timeline.{opened}
use Rattle.undo_journal.proofs.Histories.{CarriedOn}
use Rattle.undo_journal.proofs.history.replay.Given as goal

abbrev pub invariant-loop-command : goal.invariant-loop-command
invariant-loop-command g l =
    record {
      on : CarriedOn g.S.Reversible.rule g.S.Reversible.may_run_out (opened l.fn.node) l.journal (take l.command-index l.commands) l.missed;
      given : l.journal.last ≤ l.command-index;
      missed : l.missed ≤ l.command-index;
    }
