-- Each runs again as the process that it ran as.
use Rattle.std.proofs.Common.{◌∙◌, List, ap}
use Rattle.app_table.proofs.Restoring.{stop_back}
use Rattle.app_table.specs.Applications.{Application}
use Rattle.app_table.specs.Changes.{all_stopped}
use Rattle.app_table.specs.Undo.{all_unended}
use Rattle.app_table.specs.declared.undo.ChildProcess.{ChildProcess}
use Rattle.app_table.proofs.table.AppTable.stop.Goals as goal

pub returns-clause-inverse : goal.returns-clause-inverse
returns-clause-inverse c =
    let now = c.args.self.now in
    let children = c.args.children in
    let noted = c.new.ensures ∙ c.from_vec.ensures.items ∙ c.into_vec.ensures in
    ap (λ (cs : List ChildProcess). all_unended cs c.stop_each.new.self) noted ∙ ap (λ (v : List Application). all_unended children v) (c.stop_each.ensures ∙ ap (λ (cs : List ChildProcess). all_stopped cs now) c.as_slice.ensures) ∙ stop_back children now c.requires
