-- The function and the arguments are those of `code_change/3`.
use Rattle.std.proofs.Common.{List, ℕ, map, subst}
use Rattle.std.specs.Prelude.{IfOk}
use Rattle.erl_semantics.specs.Jobs.{Evaluates}
use Rattle.erl_semantics.specs.State.{plain}
use Rattle.erl_semantics.specs.Views.{instance, outcome_of}
use Rattle.erl_term.specs.Tree.{Trees, more, none}
use Rattle.erl_term.specs.Term.{tree}
use Rattle.upgrade_calls.proofs.evaluating.outcome_of.Goals as goal

pub returns : goal.returns
returns c =
    let change = c.args.change.now in
    let m = c.args.module.now in
    let all = more (tree change.vsn) (more (tree c.args.state.now) (more (tree change.extra) none)) in
    subst (λ (f : List ℕ). IfOk c.evaluate.result (λ it. Evaluates (record { code = map instance c.args.code.now; pid = change.pid; mode = plain }) m f all (outcome_of it))) c.in_ok-function.ensures
    (subst (λ (args : Trees). IfOk c.evaluate.result (λ it. Evaluates (record { code = map instance c.args.code.now; pid = change.pid; mode = plain }) m c.in_ok-function.function args (outcome_of it))) c.in_ok-arguments.ensures c.evaluate.ensures)
