-- There is such a function, or there is none.
use Rattle.std.proofs.Common.{◌≡◌, sym, ◌∙◌, ap}
use Rattle.erl_term.specs.Term.{trees}
use Rattle.erl_term.specs.Tree.{count}
use Rattle.erl_semantics.specs.Jobs.{Evaluates, nowhere}
use Rattle.erl_semantics.specs.Starting.{remote_function}
use Rattle.callback_lang.specs.Leading.{CallComes}
use Rattle.erl_semantics.specs.Views.{outcome_of, instance}
use Rattle.erl_steps.specs.Views.{callee_of, world_of}
use Rattle.callback_lang.proofs.Finishing.{called_outside, not_called}
use Rattle.erl_steps.proofs.Results.{if_ok}
use Rattle.callback_lang.proofs.evaluation.evaluate_in.Goals as goal

pub returns-in-Some : goal.returns-in-Some
returns-in-Some c = if_ok
    (λ it. CallComes (world_of c.args.world.now) (instance c.in-Some.callee.instance.now) c.args.name.now c.in-Some.callee.function.now
    (trees c.args.arguments.items) (outcome_of it))
    (λ it. Evaluates (world_of c.args.world.now) c.args.module_name.now c.args.name.now (trees c.args.arguments.items) (outcome_of it))
    c.call.result
    (λ it d. called_outside (world_of c.args.world.now) c.args.name.now _ _ (trees c.args.arguments.items) _ (outcome_of it)
    (sym (c.remote_function.ensures ∙ ap (λ n. remote_function (world_of c.args.world.now) c.args.module_name.now c.args.name.now n)
    (c.in_ok-arity.ensures ∙ ap (λ ts. count (trees ts)) c.as_slice.ensures.value)) ∙ ap callee_of c.in-Some.is) d)
    c.call.ensures

pub returns-in-None : goal.returns-in-None
returns-in-None c = if_ok (λ it. outcome_of it ≡ nowhere)
    (λ it. Evaluates (world_of c.args.world.now) c.args.module_name.now c.args.name.now (trees c.args.arguments.items) (outcome_of it))
    c.undefined.result
    (λ it is. not_called (world_of c.args.world.now) c.args.name.now (trees c.args.arguments.items) _ (outcome_of it)
    (sym (c.remote_function.ensures ∙ ap (λ n. remote_function (world_of c.args.world.now) c.args.module_name.now c.args.name.now n)
    (c.in_ok-arity.ensures ∙ ap (λ ts. count (trees ts)) c.as_slice.ensures.value)) ∙ ap callee_of c.in-None.is) is)
    c.undefined.ensures
