-- The replies among the acts tell it, whatever the processes are.
use Rattle.std.proofs.Common.{List, [], sym, subst, ◌∙◌}
use Rattle.process_effects.specs.Acts.{acts_told}
use Rattle.process_effects.specs.declared.answers.Answer.{Answer}
use Rattle.process_store.specs.Table.{Table}
use Rattle.process_effects.proofs.AllTold.{by_rest, if_ok}
use Rattle.process_effects.specs.Telling.{IsReady, IsReadyFor, IsToldBy}
use Rattle.process_effects.specs.declared.telling.Telling.{Telling}
use Rattle.process_effects.proofs.telling.Telling.of_rest.Goals as goal

pub returns : goal.returns
returns c =
    let acts = c.args.acts.now in
    let answers = c.as_slice.result.now in
    let are = c.as_slice.ensures.value ∙ c.in_ok-answers.ensures in
    if_ok (IsReady answers [] c.args.n) (λ (it : Telling). (t : Table) → IsReadyFor (acts_told acts t) c.args.n it) c.new.result
    (λ it ready t. record {
      answers = answers;
      reasons = [];
      ready = ready;
      told = subst (λ (xs : List Answer). IsToldBy xs [] (acts_told acts t)) (sym are) (by_rest acts t);
    }) c.new.ensures
