-- What a forget keeps is what stands behind the front that an undo to its mark keeps.
use Rattle.undo_journal.proofs.Forgets.{forgotten_to-alive}
use Rattle.undo_journal.proofs.Floors.{exchanged, same_cut-forgotten, MakesKept-split, Makes-unforgotten}
use Rattle.undo_journal.proofs.history.forgets_drop_the_front.Goals as goal

pub returns-clause-same_marks : goal.returns-clause-same_marks
returns-clause-same_marks g c = λ t mark. forgotten_to-alive mark t

pub returns-clause-exchanged : goal.returns-clause-exchanged
returns-clause-exchanged g c = λ t floor mark ordered from. exchanged floor mark t ordered from

pub returns-clause-same_cut : goal.returns-clause-same_cut
returns-clause-same_cut g c = λ t u v w floor mark ordered from found cut left.
    same_cut-forgotten floor mark t u v w ordered from found cut left

pub returns-clause-split : goal.returns-clause-split
returns-clause-split g c = λ node live t makes. MakesKept-split g.S.Reversible.rule node live t makes

pub returns-clause-unforgotten : goal.returns-clause-unforgotten
returns-clause-unforgotten g c = λ node commands missed t replay none.
    Makes-unforgotten g.S.Reversible.rule g.S.Reversible.may_run_out node commands missed t replay none
