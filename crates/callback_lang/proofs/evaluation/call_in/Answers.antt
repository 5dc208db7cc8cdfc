-- The function is entered, and what comes of it is left behind.
use Rattle.std.proofs.Common.{◌∙◌, ap, ℕ, map, option_map, ◌≡◌}
use Rattle.erl_term.specs.Term.{trees}
use Rattle.erl_semantics.specs.Acts.{act_of}
use Rattle.callback_lang.specs.Leading.{ComesOf, unused}
use Rattle.erl_steps.specs.Leading.{Comes}
use Rattle.erl_steps.specs.Machine.{entered}
use Rattle.erl_steps.specs.Views.{control_of, machine_of, startup_of, world_of}
use Rattle.erl_semantics.specs.Views.{end_of, instance}
use Rattle.callback_lang.proofs.Finishing.{comes_of, final}
use Rattle.erl_steps.proofs.Results.{if_ok}
use Rattle.callback_lang.proofs.evaluation.call_in.Goals as goal

pub returns : goal.returns
returns c =
    let acts = c.finish.new.machine.acts.items in
    let startup = c.finish.new.machine.startup in
    if_ok
    (λ it. (calls : ℕ) × Comes (world_of c.args.world.now) (control_of c.in_ok-next.next) (machine_of c.enter.new.self) (final calls acts startup it))
    (λ it. machine_of c.args.machine.now ≡ unused (instance c.args.callee.now.instance.now) → ComesOf (world_of c.args.world.now) (instance c.args.callee.now.instance.now)
    c.args.name.now c.args.callee.now.function.now (trees c.args.arguments.items) (map act_of acts) (option_map startup_of startup) (end_of it)) c.finish.result
    (λ it d is. comes_of (world_of c.args.world.now) c.args.name.now (instance c.args.callee.now.instance.now)
    c.args.callee.now.function.now (trees c.args.arguments.items) (control_of c.in_ok-next.next) (machine_of c.enter.new.self)
    acts startup it (c.in_ok-next.ensures ∙ ap (λ m. entered (world_of c.args.world.now) c.args.name.now
    c.args.callee.now.function.now.definition (trees c.args.arguments.items) m) is) d)
    c.finish.ensures
