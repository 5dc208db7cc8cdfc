-- Where there is no child there is no name.
use Rattle.std.proofs.Common.{◌++◌, ◌∙◌, List, Option, ap, sym, append-nil, slice_get}
use Rattle.app_table.proofs.Keys.{nothing_at}
use Rattle.app_table.specs.Modules.{name_for}
use Rattle.app_table.specs.declared.child.Child.{Child}
use Rattle.app_table.proofs.app.App.push_name.Goals as goal

pub returns-in-None : goal.returns-in-None
returns-in-None c =
    let names = c.args.names.now.items in
    let none = nothing_at c.children.result.now c.args.index c.in-None.ensures.lookup.0 in
    sym (append-nil names) ∙ ap (λ (o : Option Child). names ++ name_for c.args.self.now.spec.name o) (sym none ∙ ap (λ (l : List Child). slice_get l c.args.index) c.children.ensures)
