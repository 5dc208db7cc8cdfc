-- It is started again, and its children are in the states that they were in.
use Rattle.std.proofs.Common.{◌∙◌, List, ap}
use Rattle.values.specs.Edits.{changed_at}
use Rattle.app_table.proofs.Backs.{app_back}
use Rattle.app_table.specs.Applications.{Application}
use Rattle.app_table.specs.Undo.{unstopped}
use Rattle.app_table.proofs.table.AppTable.stop_app.Goals as goal

pub returns-clause-inverse : goal.returns-clause-inverse
returns-clause-inverse c =
    let (a, at, started, are) = c.requires in
    ap (λ (v : List Application). changed_at (unstopped c.args.states) v c.args.index) c.stop_at.ensures ∙ app_back c.args.states c.args.self.now c.args.index a at started are
