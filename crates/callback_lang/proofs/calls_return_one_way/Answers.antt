-- What is evaluated gives one outcome, and an outcome says one return.
use Rattle.std.proofs.Common.{ap, sym, ◌∙◌}
use Rattle.erl_semantics.proofs.Outcomes.{from_outside-once}
use Rattle.callback_lang.specs.Returns.{apply_return, change_return}
use Rattle.callback_lang.proofs.calls_return_one_way.Goals as goal

pub returns : goal.returns
returns c = record {
  changes = λ code self m vsn s extra acts others r q one other.
      let same = from_outside-once one.1 other.1 in
      (one.2 ∙ ap (λ o. o.acts) same ∙ sym other.2, one.3 ∙ ap (λ o. change_return o.ended) same ∙ sym other.3);
  applies = λ code m f args acts others r q one other.
      let same = from_outside-once one.1 other.1 in
      (one.2 ∙ ap (λ o. o.acts) same ∙ sym other.2, one.3 ∙ ap (λ o. apply_return o.ended) same ∙ sym other.3);
}
