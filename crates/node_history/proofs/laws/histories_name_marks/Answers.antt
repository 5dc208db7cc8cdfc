-- Marks in histories.
use Rattle.node_history.proofs.Marks.{forgotten, given, kept, name, undone}
use Rattle.node_history.proofs.laws.histories_name_marks.Goals as goal

pub returns : goal.returns
returns c = record { name = name; given = given; undone = undone; forgotten = forgotten; kept = kept }
