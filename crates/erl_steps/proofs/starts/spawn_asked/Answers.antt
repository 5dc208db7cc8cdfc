-- The function that is asked for.
use Rattle.std.proofs.Common.{◌≡◌, sym, ◌∙◌, None, option_map}
use Rattle.erl_term.specs.Term.{tree, trees}
use Rattle.erl_term.specs.Tree.{count}
use Rattle.erl_semantics.specs.Starting.{begin_or_undef, first_start, remote_function, spawn_asked}
use Rattle.erl_steps.specs.Views.{request_of, startup_of, world_of}
use Rattle.erl_steps.proofs.Asking.{spawn_three}
use Rattle.erl_steps.proofs.Results.{if_ok}
use Rattle.erl_steps.proofs.starts.spawn_asked.Goals as goal

pub returns : goal.returns
returns c = if_ok
    (λ it. request_of it ≡ first_start (option_map startup_of c.args.startup.now) (begin_or_undef None c.in_ok-copy.field-0
    (trees c.in_ok-args.args.items) (remote_function (world_of c.args.world.now) c.in-Some-as_atom.m.now c.in_ok-copy.field-0
    (count (trees c.in_ok-args.args.items)))))
    (λ it. request_of it ≡ spawn_asked (world_of c.args.world.now) (option_map startup_of c.args.startup.now) (trees c.args.arguments.now))
    c.begin.result
    (λ it is. is ∙ (λ k. first_start (option_map startup_of c.args.startup.now) (begin_or_undef None (c.in_ok-copy.ensures k)
    (c.in_ok-args.ensures k) (remote_function (world_of c.args.world.now) c.in-Some-as_atom.m.now (c.in_ok-copy.ensures k)
    (count (c.in_ok-args.ensures k))))) ∙
    sym (spawn_three (world_of c.args.world.now) (option_map startup_of c.args.startup.now) (trees c.args.arguments.now)
    (tree c.in-Some.m.now) (tree c.in-Some.f.now) (tree c.in-Some.args.now) c.in-Some-as_atom.m.now c.in-Some-as_atom-2.f.now
    c.in-Some-as_list.args.now c.in-Some.ensures c.in-Some-as_atom.ensures c.in-Some-as_atom-2.ensures c.in-Some-as_list.ensures))
    c.begin.ensures
