-- Where there is no application there is no child.
use Rattle.std.proofs.Common.{◌++◌, ◌∙◌, Option, ap, sym, append-nil}
use Rattle.app_table.specs.Applications.{Application}
use Rattle.app_table.specs.Modules.{name_in}
use Rattle.app_table.proofs.table.AppTable.push_name.Goals as goal

pub returns-in-None : goal.returns-in-None
returns-in-None c =
    let names = c.args.names.now.items in
    sym (append-nil names) ∙ ap (λ (o : Option Application). names ++ name_in c.args.spot.child o) c.in-None.ensures
