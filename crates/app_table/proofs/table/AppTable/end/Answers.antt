-- The child ran as the process, and does again.
use Rattle.std.proofs.Common.{◌≡◌, ◌∙◌, Bool, List, ap, sym, subst}
use Rattle.app_table.proofs.Backs.{child_back, one_more}
use Rattle.app_table.proofs.Spots.{by_pid, runs_again}
use Rattle.app_table.specs.Applications.{Application, set_child}
use Rattle.app_table.specs.Children.{after_end, in_state}
use Rattle.app_table.specs.Undo.{all_unended}
use Rattle.app_table.specs.declared.child.Child.{Child}
use Rattle.app_table.specs.declared.child.ChildState.TheVariants.{Running}
use Rattle.app_table.specs.declared.undo.ChildProcess.{ChildProcess}
use Rattle.app_table.proofs.table.AppTable.end.Goals as goal

pub returns-clause-back : goal.returns-clause-back
returns-clause-back c =
    let now = c.args.self.now in
    let pid = c.args.pid in
    let spot = c.in-Some.spot in
    let es = c.args.undo.now.items in
    let (was, at, runs) = by_pid pid now spot (sym c.spot_by_pid.ensures ∙ c.in-Some.is) in
    let back = child_back (λ (b : Bool) (it : Child). after_end b c.args.reason.now it) (λ (b : Bool) (it : Child). in_state (Running pid) it) spot now was at (λ b. runs_again pid was runs) in
    let again = subst (λ (t : List Application). set_child (Running pid) spot t ≡ now) (sym c.stop_child.ensures) back in
    ap (λ (it : List ChildProcess). all_unended it c.stop_child.new.self) c.push_reserved.ensures.items ∙ one_more es (record { spot = spot; pid = pid }) c.stop_child.new.self ∙ ap (λ (t : List Application). all_unended es t) again
