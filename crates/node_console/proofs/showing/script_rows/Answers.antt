-- A script runs, or none.
use Rattle.std.proofs.Common.{List, Option, ◌++◌, ◌∷◌, [], ap, subst, ◌∙◌}
use Rattle.erl_term.specs.declared.term.Term.{Term}
use Rattle.node_console.specs.Console.{AreScriptRows}
use Rattle.script_state.specs.Runner.{RunnerState}
use Rattle.node_console.proofs.showing.script_rows.Goals as goal

pub returns-in_default : goal.returns-in_default
returns-in_default c =
    subst (λ (o : Option RunnerState). AreScriptRows c.args.node.now o c.new.result.items) c.in_default.ensures c.new.ensures.items

pub returns : goal.returns
returns c =
    subst (λ (o : Option RunnerState). AreScriptRows c.args.node.now o c.push.new.self.items) c.in-Some.ensures
    (c.awaited-busy.result, c.awaited-busy.ensures, c.in_ok-push.ensures.items ∙ ap (λ (rs : List Term). rs ++ c.in_ok-script_row.field-0 ∷ []) c.in_ok-rows.ensures.items ∙ ap (λ (r : Term). r ∷ []) c.in_ok-script_row.ensures)
