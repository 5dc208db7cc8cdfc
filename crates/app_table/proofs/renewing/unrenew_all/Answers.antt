-- One edit less.
use Rattle.std.proofs.Common.{◌≡◌, ◌+◌, ◌-◌, ◌++◌, ◌∷◌, ◌∙◌, List, [], ap, arith, length, sym}
use Rattle.app_table.proofs.Renewals.{unrenewed_more}
use Rattle.app_table.specs.Renewing.{unedited, unrenewed}
use Rattle.app_table.specs.declared.renewing.ChildEdit.{ChildEdit}
use Rattle.app_table.proofs.renewing.unrenew_all.Goals as goal

pub loop-at-preserved-in-Some : goal.loop-at-preserved-in-Some
loop-at-preserved-in-Some c =
    let row = c.loop-at.row.items in
    let edit = c.in-Some.edit in
    let others = c.pop.new.self.items in
    let left : c.loop-at.left.items ≡ others ++ edit ∷ [] = c.in-Some.ensures.items in
    let index : c.loop-at.at - 1 ≡ 0 + length others = omega (arith, c.loop-at.invariant.long, c.in-Some.ensures.cases) in
    record {
      undone =
          ap (unrenewed 0 others) (c.undo_edit.ensures.undone ∙ ap (λ n. unedited n edit row) index)
          ∙ sym (unrenewed_more 0 others edit row)
          ∙ ap (λ (es : List ChildEdit). unrenewed 0 es row) (sym left)
          ∙ c.loop-at.invariant.undone;
      long = omega (arith, c.loop-at.invariant.long, c.in-Some.ensures.cases, c.loop-at-test.true);
      room = omega (arith, c.undo_edit.ensures.room, c.loop-at.invariant.room);
      same = c.undo_edit.ensures.room.1 ∙ c.loop-at.invariant.same;
    }
