-- It stands where it was put in.
use Rattle.std.proofs.Common.{◌≡◌, ◌∙◌, Bool, List, None, ap, if◌then◌else◌, subst}
use Rattle.std.specs.Prelude.{insert, remove}
use Rattle.values.proofs.Edits.{remove-insert}
use Rattle.app_table.specs.Renewing.{child_for}
use Rattle.app_table.specs.declared.child.Child.{Child}
use Rattle.app_table.proofs.renewing.add_child.Goals as goal

pub returns-clause-back : goal.returns-clause-back
returns-clause-back c =
    let xs = c.args.row.now.items in
    let child = child_for c.args.spec None in
    let is = subst (λ (b : Bool). c.insert.new.self.items ≡ (if b then insert xs c.args.at child else xs)) (c.insert.ensures.succeeds c.requires.room) c.insert.ensures.items in
    ap (λ (ys : List Child). remove ys c.args.at) is ∙ remove-insert xs c.args.at child c.requires.within
