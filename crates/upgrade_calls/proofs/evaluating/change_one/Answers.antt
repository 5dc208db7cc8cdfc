-- What is given in the state that the process has, or is to get, is given where all states are given.
use Rattle.std.proofs.Common.{◌≡◌, refl, subst}
use Rattle.callback_lang.specs.Returns.{change_return, unchanged}
use Rattle.erl_semantics.specs.Views.{end_of}
use Rattle.erl_semantics.specs.declared.acts.Place.TheVariants.{Server}
use Rattle.erl_term.specs.Term.{tree}
use Rattle.upgrade_calls.proofs.Seen.{gives_given}
use Rattle.values.specs.Failure.{Fails}
use Rattle.upgrade_calls.proofs.evaluating.change_one.Goals as goal

pub returns-in-Ok-clause-changes : goal.returns-in-Ok-clause-changes
returns-in-Ok-clause-changes c =
    let o = c.in_ok-outcome.outcome in
    let it = c.module_and_state.result in
    let gives = gives_given c.args.code.now c.args.change.now c.args.states.now c.args.processes.now (Server it.0.now it.1.now) o c.requires.rising c.module_and_state.ensures c.in_ok-outcome.ensures in
    (o, record { gives = gives; returns = c.in-Ok.ensures.state }, refl)

pub returns-in-Err-Refused-clause-fails : goal.returns-in-Err-Refused-clause-fails
returns-in-Err-Refused-clause-fails c =
    let o = c.in_ok-outcome.outcome in
    let it = c.module_and_state.result in
    let gives = gives_given c.args.code.now c.args.change.now c.args.states.now c.args.processes.now (Server it.0.now it.1.now) o c.requires.rising c.module_and_state.ensures c.in_ok-outcome.ensures in
    let returns = subst (Fails (λ reason. change_return (end_of o.end) ≡ unchanged (tree reason)) (Unit {0})) c.in-Err-Refused.field-0-is c.in-Err-Refused.ensures.reason in
    (refl, record { outcome = o; gives = gives; returns = returns })
