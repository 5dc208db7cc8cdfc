-- The changes of the kind.
use Rattle.std.proofs.Common.{◌++◌, ap, ◌∙◌}
use Rattle.std.proofs.lemmas.Result.{on_ok_weaker}
use Rattle.low_instructions.specs.declared.modules.Direction.TheVariants.{Down}
use Rattle.relup_make.specs.Parts.{code_change}
use Rattle.relup_make.specs.Scripts.{at}
use Rattle.relup_make.proofs.Joining.{changes_of_one}
use Rattle.relup_make.proofs.parts.append_changes_of.Goals as goal

pub returns : goal.returns
returns c =
    let found = c.in_ok-changes.ensures ∙ changes_of_one c.args.kind (at c.args.instructions.now c.args.order.now) in
    on_ok_weaker c.append_changes.result (λ e. e ∙ ap (λ changes. c.args.parts.now.items ++ code_change Down changes) found) c.append_changes.ensures
