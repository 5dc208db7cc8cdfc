-- It has the children again that it had, and isn't started.
use Rattle.std.proofs.Common.{◌≡◌, ◌∙◌, false, true, IfSome, List, Option, ap, sym, subst, slice_get}
use Rattle.values.proofs.Edits.{slice_get-changed_at}
use Rattle.values.specs.Edits.{changed_at}
use Rattle.app_table.proofs.Backs.{started_back}
use Rattle.app_table.specs.Applications.{Application, with_children}
use Rattle.app_table.specs.Pieces.{child_pieces, child_pieces_at}
use Rattle.app_table.specs.declared.child.Child.{Child}
use Rattle.app_table.proofs.table.AppTable.start.Goals as goal

pub returns-clause-inverse : goal.returns-clause-inverse
returns-clause-inverse c =
    let (was, at, stopped) = c.requires in
    let now = c.args.self.now in
    let before = c.set_children.result in
    let had = subst (λ (o : Option Application). IfSome o (λ a. before ≡ a.children)) at c.set_children.ensures.before in
    subst (λ (t : List Application). changed_at (with_children false before) t c.args.app ≡ now) (sym c.set_children.ensures.set) (started_back c.args.children before now c.args.app was at stopped had)

pub returns-clause-pieces : goal.returns-clause-pieces
returns-clause-pieces c =
    let (was, at, stopped) = c.requires in
    let now = c.args.self.now in
    let before = c.set_children.result in
    let had = subst (λ (o : Option Application). IfSome o (λ a. before ≡ a.children)) at c.set_children.ensures.before in
    let there = ap (λ (v : List Application). slice_get v c.args.app) c.set_children.ensures.set ∙ slice_get-changed_at (with_children true c.args.children) now c.args.app was at in
    subst (λ (o : Option Application). IfSome o (λ a. child_pieces_at (slice_get c.set_children.new.self c.args.app) before ≡ child_pieces a.spec.name a.children)) (sym at) (
    ap (λ (o : Option Application). child_pieces_at o before) there ∙ ap (λ (cs : List Child). child_pieces was.spec.name cs) had
    )
