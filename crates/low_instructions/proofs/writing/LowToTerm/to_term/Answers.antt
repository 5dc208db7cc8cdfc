-- What holds of each module that was written holds of all.
use Rattle.std.proofs.lemmas.List.Sums.{list_all-from_AllPass}
use Rattle.std.proofs.lemmas.Result.{IfOk-weaker}
use Rattle.low_instructions.specs.Laws.{is_suspension}
use Rattle.low_instructions.proofs.writing.LowToTerm.to_term.Goals as goal

pub returns-in-Suspend-clause-kept : goal.returns-in-Suspend-clause-kept
returns-in-Suspend-clause-kept c =
    rw c.in-Suspend.is (IfOk-weaker c.form_of-in-Suspend.result _ _ (λ t all. list_all-from_AllPass is_suspension c.in-Suspend.modules all) c.form_of-in-Suspend.ensures.kept)
