-- Each command leads to one end, since the rule gives an event one outcome.
use Rattle.undo_journal.proofs.Histories.{AreAfter-one, RunsCommands-one, FoldsTo-one}
use Rattle.undo_journal.proofs.history.commands_have_one_end.Goals as goal

pub returns-clause-timeline : goal.returns-clause-timeline
returns-clause-timeline g c = λ t u v commands first second.
    AreAfter-one g.S.Reversible.rule g.met.S.Reversible.has_one_outcome commands t u v first second

pub returns-clause-steps : goal.returns-clause-steps
returns-clause-steps g c = λ t u v commands steps live others first second.
    RunsCommands-one g.S.Reversible.rule g.met.S.Reversible.has_one_outcome commands t u v steps live others first second

pub returns-clause-node : goal.returns-clause-node
returns-clause-node g c = λ begun end other steps first second.
    FoldsTo-one g.S.Reversible.rule g.met.S.Reversible.has_one_outcome steps begun end other first second
