-- The child was due, and is again.
use Rattle.std.proofs.Common.{◌≡◌, Bool, List, sym, subst}
use Rattle.app_table.proofs.Backs.{child_back}
use Rattle.app_table.proofs.Spots.{due_again}
use Rattle.app_table.specs.Applications.{Application, set_child}
use Rattle.app_table.specs.Children.{in_state}
use Rattle.app_table.specs.declared.child.Child.{Child}
use Rattle.app_table.specs.declared.child.ChildState.TheVariants.{Running, Due}
use Rattle.app_table.proofs.table.AppTable.revive.Goals as goal

pub returns-clause-inverse : goal.returns-clause-inverse
returns-clause-inverse c =
    let (was, at, due) = c.requires in
    let now = c.args.self.now in
    let back = child_back (λ (b : Bool) (it : Child). in_state (Running c.args.pid) it) (λ (b : Bool) (it : Child). in_state Due it) c.args.spot now was at (λ b. due_again was due) in
    subst (λ (t : List Application). set_child Due c.args.spot t ≡ now) (sym c.set_child.ensures) back
