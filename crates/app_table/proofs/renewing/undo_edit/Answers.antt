-- It gets its former specification, and moves back; or there is none.
use Rattle.std.proofs.Common.{◌<◌, ◌≤◌, ◌∙◌, List, ap, arith, length, sym}
use Rattle.app_table.proofs.Renewals.{moved_past, unedited_past}
use Rattle.app_table.proofs.Writes.{changed_from_write}
use Rattle.values.specs.Edits.{changed_at}
use Rattle.app_table.specs.Renewing.{moved, unedited, with_former}
use Rattle.app_table.specs.declared.child.Child.{Child}
use Rattle.app_table.specs.declared.renewing.ChildEdit.{ChildEdit}
use Rattle.app_table.proofs.renewing.undo_edit.Goals as goal

pub returns-then-at-as_slice-clause-undone : goal.returns-then-at-as_slice-clause-undone
returns-then-at-as_slice-clause-undone c =
    let xs = c.args.row.now.items in
    let past : length xs ≤ c.args.at = omega (arith, ap (λ (ys : List Child). length ys) c.as_slice.ensures.value, c.if-at-as_slice.true) in
    sym (unedited_past c.args.at c.args.edit xs past)

pub returns-then-from-as_slice-clause-undone : goal.returns-then-from-as_slice-clause-undone
returns-then-from-as_slice-clause-undone c =
    let xs = c.args.row.now.items in
    let within : c.args.at < length xs = omega (arith, ap (λ (ys : List Child). length ys) c.as_slice.ensures.value, c.if-at-as_slice.false) in
    let write = changed_from_write (with_former c.in-Kept.former) xs c.args.at c.index_mut.result.now c.undo_spec.new.child within c.index_mut.ensures.value c.undo_spec.ensures in
    c.move_child.ensures.moved ∙ ap (moved c.args.at c.in-Kept.from) write ∙ ap (λ (e : ChildEdit). unedited c.args.at e xs) (sym c.in-Kept.is)

pub returns-else-from-as_slice-clause-undone : goal.returns-else-from-as_slice-clause-undone
returns-else-from-as_slice-clause-undone c =
    let xs = c.args.row.now.items in
    let within : c.args.at < length xs = omega (arith, ap (λ (ys : List Child). length ys) c.as_slice.ensures.value, c.if-at-as_slice.false) in
    let write = changed_from_write (with_former c.in-Kept.former) xs c.args.at c.index_mut.result.now c.undo_spec.new.child within c.index_mut.ensures.value c.undo_spec.ensures in
    let now = changed_at (with_former c.in-Kept.former) xs c.args.at in
    let past : length now ≤ c.in-Kept.from = omega (arith, ap (λ (ys : List Child). length ys) c.as_slice-in-Kept.ensures.value, ap (λ (ys : List Child). length ys) write, c.if-from-as_slice.false) in
    write ∙ sym (moved_past now c.args.at c.in-Kept.from past) ∙ ap (λ (e : ChildEdit). unedited c.args.at e xs) (sym c.in-Kept.is)
