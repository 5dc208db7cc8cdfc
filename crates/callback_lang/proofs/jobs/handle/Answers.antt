-- The callback isn't exported, or it is entered.
use Rattle.std.proofs.Common.{◌≡◌, ap, ◌∙◌, map, option_map}
use Rattle.std.specs.Option.{option_copied}
use Rattle.erl_term.specs.Term.{tree, trees}
use Rattle.erl_term.specs.Tree.{count}
use Rattle.erl_ir.specs.Module.{exported_of}
use Rattle.erl_semantics.specs.Acts.{act_of}
use Rattle.erl_semantics.specs.Jobs.{Handles, arguments_of, callback_of, name_of, served, unexported}
use Rattle.callback_lang.specs.Views.{callback}
use Rattle.erl_semantics.specs.Views.{job_of, outcome_of, end_of, instance}
use Rattle.erl_steps.specs.Views.{startup_of, world_of}
use Rattle.erl_steps.proofs.Results.{if_ok}
use Rattle.callback_lang.proofs.Gives.{not_exported_by, handled_by}
use Rattle.callback_lang.proofs.jobs.handle.Goals as goal

pub returns-in_default : goal.returns-in_default
returns-in_default c = if_ok
    (λ it. outcome_of it ≡ unexported c.args.module_name.now (tree c.args.state.now) (callback c.callback_of-callback.result))
    (λ it. Handles (job_of c.args.job.now) c.args.module_name.now (tree c.args.state.now) (callback_of (tree c.args.job.now.message))
    (exported_of (name_of (callback_of (tree c.args.job.now.message))) (count (arguments_of (callback_of (tree c.args.job.now.message))
    (tree c.args.state.now))) c.args.item.now.«module») (instance c.args.item.now) (outcome_of it)) c.unexported.result
    (λ it is. not_exported_by (job_of c.args.job.now) (instance c.args.item.now) c.args.module_name.now (tree c.args.state.now)
    (callback_of (tree c.args.job.now.message)) (callback c.callback_of-callback.result) (option_copied c.exported.result) c.name-name.result
    (trees c.in_ok-arguments.arguments.items) c.in_ok-arity.arity c.callback_of-callback.ensures c.name-name.ensures c.in_ok-arguments.ensures
    (c.in_ok-arity.ensures ∙ ap (λ ts. count (trees ts)) c.as_slice.ensures.value) c.exported.ensures
    (outcome_of it) (ap option_copied c.in_default.is) is) c.unexported.ensures

pub returns : goal.returns
returns c = if_ok
    (λ it. outcome_of it ≡ served c.args.module_name.now (callback c.callback_of-callback.result) (map act_of c.new.result)
    (end_of c.in_ok-end.end))
    (λ it. Handles (job_of c.args.job.now) c.args.module_name.now (tree c.args.state.now) (callback_of (tree c.args.job.now.message))
    (exported_of (name_of (callback_of (tree c.args.job.now.message))) (count (arguments_of (callback_of (tree c.args.job.now.message))
    (tree c.args.state.now))) c.args.item.now.«module») (instance c.args.item.now) (outcome_of it)) c.serve.result
    (λ it is. handled_by (job_of c.args.job.now) (instance c.args.item.now) c.args.module_name.now (tree c.args.state.now)
    (callback_of (tree c.args.job.now.message)) (callback c.callback_of-callback.result) (option_copied c.exported.result) c.name-name.result
    (trees c.in_ok-arguments.arguments.items) c.in_ok-arity.arity c.callback_of-callback.ensures c.name-name.ensures c.in_ok-arguments.ensures
    (c.in_ok-arity.ensures ∙ ap (λ ts. count (trees ts)) c.as_slice.ensures.value) c.exported.ensures
    (world_of c.args.world.now) c.in-Some.function.now (map act_of c.call_in.new.machine.acts.items) (option_map startup_of c.call_in.new.machine.startup) (end_of c.in_ok-end.end) (outcome_of it) c.requires
    (ap option_copied c.in-Some.is) (c.in_ok-end.ensures c.new-machine.ensures)
    (is ∙ ap (λ acts. served c.args.module_name.now (callback c.callback_of-callback.result) (map act_of acts) (end_of c.in_ok-end.end))
    c.new.ensures)) c.serve.ensures
