-- There is no such function, no clause takes the message, or one does.
use Rattle.std.proofs.Common.{◌≡◌, ap, sym, subst, ◌∙◌, None, Some, map}
use Rattle.std.specs.Prelude.{MatchOption}
use Rattle.std.specs.Option.{option_copied}
use Rattle.erl_term.specs.Term.{tree}
use Rattle.erl_term.specs.Tree.{count}
use Rattle.erl_ir.specs.Module.{function_of}
use Rattle.erl_semantics.specs.Jobs.{heard, heard_by, nowhere, Receives}
use Rattle.callback_lang.specs.Leading.{LoopComes}
use Rattle.erl_semantics.specs.Views.{job_of, outcome_of, instance}
use Rattle.erl_steps.specs.Views.{world_of}
use Rattle.erl_steps.proofs.Results.{if_ok}
use Rattle.callback_lang.proofs.Gives.{not_there, not_heard, is_heard}
use Rattle.callback_lang.proofs.jobs.hear_in.Goals as goal

pub returns-in_default : goal.returns-in_default
returns-in_default c = if_ok (λ it. outcome_of it ≡ nowhere)
    (λ it. Receives (job_of c.args.job.now) (instance c.args.item.now) (heard c.args.job.now.pid (tree c.args.job.now.message)
    c.args.args.now (function_of c.args.name.now (count c.args.args.now) c.args.item.now.«module»)) (outcome_of it)) c.undefined.result
    (λ it is. not_there (job_of c.args.job.now) (instance c.args.item.now) c.args.job.now.pid (tree c.args.job.now.message)
    c.args.args.now _ (outcome_of it) (sym c.in_ok-function.ensures ∙ ap option_copied c.in_default.is) is) c.undefined.ensures

pub returns-in-None : goal.returns-in-None
returns-in-None c = if_ok (λ it. outcome_of it ≡ nowhere)
    (λ it. Receives (job_of c.args.job.now) (instance c.args.item.now) (heard c.args.job.now.pid (tree c.args.job.now.message)
    c.args.args.now (function_of c.args.name.now (count c.args.args.now) c.args.item.now.«module»)) (outcome_of it)) c.undefined-in-None.result
    (λ it is. not_heard (job_of c.args.job.now) (instance c.args.item.now) c.args.job.now.pid (tree c.args.job.now.message)
    c.args.args.now _ c.in-Some.function.now (outcome_of it) (sym c.in_ok-function.ensures ∙ ap option_copied c.in-Some.is)
    (ap (λ n. (heard_by n (tree c.args.job.now.message) c.args.args.now c.in-Some.function.now.definition).0)
    (sym (ap (λ w. w.pid) c.requires)) ∙ (subst (λ o. MatchOption o ((heard_by c.args.world.now.setting.own (tree c.args.job.now.message) c.args.args.now
    c.in-Some.function.now.definition).0 ≡ None) (λ h. heard_by c.args.world.now.setting.own (tree c.args.job.now.message)
    c.args.args.now c.in-Some.function.now.definition ≡ (Some (map tree h.bindings.items, h.body.now), h.calls)))
    c.in-None.is c.in_ok-heard.ensures)) is) c.undefined-in-None.ensures

pub returns-in-Some-2 : goal.returns-in-Some-2
returns-in-Some-2 c = if_ok
    (λ it. LoopComes (world_of c.args.world.now) (instance c.args.item.now) (map tree c.in-Some-2.heard.bindings.items) c.in-Some-2.heard.calls
    c.in-Some-2.heard.body.now (outcome_of it))
    (λ it. Receives (job_of c.args.job.now) (instance c.args.item.now) (heard c.args.job.now.pid (tree c.args.job.now.message)
    c.args.args.now (function_of c.args.name.now (count c.args.args.now) c.args.item.now.«module»)) (outcome_of it)) c.receive.result
    (λ it d. is_heard (job_of c.args.job.now) (instance c.args.item.now) (world_of c.args.world.now) c.args.job.now.pid
    (tree c.args.job.now.message) c.args.args.now _ c.in-Some.function.now (map tree c.in-Some-2.heard.bindings.items)
    c.in-Some-2.heard.body.now c.in-Some-2.heard.calls (outcome_of it) c.requires
    (sym c.in_ok-function.ensures ∙ ap option_copied c.in-Some.is)
    (ap (λ n. heard_by n (tree c.args.job.now.message) c.args.args.now c.in-Some.function.now.definition)
    (sym (ap (λ w. w.pid) c.requires)) ∙ (subst (λ o. MatchOption o ((heard_by c.args.world.now.setting.own (tree c.args.job.now.message) c.args.args.now
    c.in-Some.function.now.definition).0 ≡ None) (λ h. heard_by c.args.world.now.setting.own (tree c.args.job.now.message)
    c.args.args.now c.in-Some.function.now.definition ≡ (Some (map tree h.bindings.items, h.body.now), h.calls)))
    c.in-Some-2.is c.in_ok-heard.ensures)) d) c.receive.ensures
