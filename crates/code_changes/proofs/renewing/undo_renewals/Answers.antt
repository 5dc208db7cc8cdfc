-- One step less.
use Rattle.std.proofs.Common.{◌≡◌, ◌++◌, ◌∷◌, ◌∙◌, List, [], ap, arith, sym}
use Rattle.app_table.specs.declared.undo.AppsUndo.{AppsUndo}
use Rattle.code_changes.proofs.Backs.{undone_more}
use Rattle.code_changes.specs.Undo.{all_undone}
use Rattle.code_changes.proofs.renewing.undo_renewals.Goals as goal

pub loop-at-preserved-in-Some : goal.loop-at-preserved-in-Some
loop-at-preserved-in-Some c =
    let others = c.pop.new.self.items in
    let undo = c.in-Some.undo in
    let left : c.loop-at.left.items ≡ others ++ undo ∷ [] = c.in-Some.ensures.items in
    record {
      undone =
          ap (all_undone others) c.revert.ensures
          ∙ sym (undone_more others undo c.loop-at.apps)
          ∙ ap (λ (us : List AppsUndo). all_undone us c.loop-at.apps) (sym left)
          ∙ c.loop-at.invariant.undone;
      long = omega (arith, c.loop-at.invariant.long, c.in-Some.ensures.cases, c.loop-at-test.true);
    }
