-- The replies among the acts tell it, and then a reason for each open call.
use Rattle.std.proofs.Common.{◌≡◌, All, List, sym, subst, vec_len, ◌∙◌}
use Rattle.erl_term.specs.declared.term.Term.{Term}
use Rattle.process_effects.specs.Exits.{exit_told}
use Rattle.process_effects.specs.declared.answers.Answer.{Answer}
use Rattle.process_effects.proofs.AllTold.{by_exit, if_ok}
use Rattle.process_effects.specs.Telling.{IsReady, IsReadyFor, IsToldBy}
use Rattle.process_effects.proofs.telling.Telling.of_exit.Goals as goal

pub returns : goal.returns
returns c =
    let pid = c.args.pid in
    let reason = c.args.reason.now in
    let acts = c.args.acts.now in
    let t = c.args.store.now in
    let answers = c.as_slice.result.now in
    let reasons = c.as_slice-2.result.now in
    let are = c.as_slice.ensures.value ∙ c.in_ok-answers.ensures in
    let same = subst (All (λ (r : Term). r ≡ reason)) (sym c.as_slice-2.ensures.value) c.in_ok-reasons.ensures.same in
    if_ok (IsReady answers reasons c.args.n) (IsReadyFor (exit_told pid reason acts t) c.args.n) c.new.result
    (λ it ready. record {
      answers = answers;
      reasons = reasons;
      ready = ready;
      told = subst (λ (xs : List Answer). IsToldBy xs reasons (exit_told pid reason acts t)) (sym are) (by_exit pid reason acts t reasons (vec_len c.in_ok-reasons.reasons) c.requires same c.in_ok-reasons.ensures.enough c.as_slice-2.ensures.len);
    }) c.new.ensures
