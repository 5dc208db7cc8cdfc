-- These answers tell it, whatever the processes are.
use Rattle.std.proofs.Common.{[]}
use Rattle.process_effects.specs.Parted.{answers_told}
use Rattle.process_store.specs.Table.{Table}
use Rattle.process_effects.proofs.AllTold.{by_answers, if_ok}
use Rattle.process_effects.specs.Telling.{IsReady, IsReadyFor}
use Rattle.process_effects.specs.declared.telling.Telling.{Telling}
use Rattle.process_effects.proofs.telling.Telling.of_answers.Goals as goal

pub returns : goal.returns
returns c =
    let answers = c.args.answers.now in
    if_ok (IsReady answers [] c.args.n) (λ (it : Telling). (t : Table) → IsReadyFor (answers_told answers t) c.args.n it) c.new.result
    (λ it ready t. record { answers = answers; reasons = []; ready = ready; told = by_answers answers t }) c.new.ensures
