-- Its pieces are among those that there were.
use Rattle.std.proofs.Common.{◌++◌, ◌∙◌, List, Some, ap, sym, subst, get_or, remove}
use Rattle.std.specs.Prelude.{IsPermutation}
use Rattle.app_table.proofs.Replacing.{taken_out}
use Rattle.app_table.proofs.Spots.{got}
use Rattle.app_table.specs.Applications.{Application}
use Rattle.app_table.specs.Pieces.{app_pieces, pieces}
use Rattle.app_table.proofs.table.AppTable.unload.Goals as goal

pub returns-clause-pieces : goal.returns-clause-pieces
returns-clause-pieces c =
    let now : List Application = c.args.self.now in
    let it : Application = c.remove-app.result in
    let read = c.remove-app.ensures.value ∙ ap (λ (l : List Application). get_or l c.args.index it) c.self.view_is in
    let left = c.remove-app.ensures.items ∙ ap (λ (l : List Application). remove l c.args.index) c.self.view_is in
    let at = got now c.args.index it c.requires ∙ ap Some (sym read) in
    subst (λ (v : List Application). IsPermutation (app_pieces it ++ pieces v) (pieces now)) (sym left) (taken_out app_pieces now c.args.index it at)
