-- The child of its Id is there, or none is.
use Rattle.std.proofs.Common.{◌+◌, ◌∙◌, List, ap, drop, option_map, position, sym}
use Rattle.app_table.proofs.Renewals.{added_edit, kept_edit, kept_renewed_from}
use Rattle.app_table.specs.Applications.{has_id}
use Rattle.app_table.specs.declared.child.Child.{Child}
use Rattle.app_table.proofs.renewing.renew_child.Goals as goal

pub returns-in-Some-clause-renewed : goal.returns-in-Some-clause-renewed
returns-in-Some-clause-renewed c =
    let there = ap (λ (row : List Child). option_map (λ k. c.args.at + k) (position (has_id c.args.spec.id) (drop c.args.at row))) (sym c.as_slice.ensures.value) ∙ sym c.index_from.ensures ∙ c.in-Some.is in
    kept_renewed_from c.args.row.now.items c.keep_child.new.row.items c.args.at c.in-Some.from c.args.spec there c.keep_child.ensures.kept

pub returns-in-Some-clause-edit : goal.returns-in-Some-clause-edit
returns-in-Some-clause-edit c =
    let there = ap (λ (row : List Child). option_map (λ k. c.args.at + k) (position (has_id c.args.spec.id) (drop c.args.at row))) (sym c.as_slice.ensures.value) ∙ sym c.index_from.ensures ∙ c.in-Some.is in
    kept_edit c.args.row.now.items c.args.at c.in-Some.from c.args.spec c.keep_child.result there c.keep_child.ensures.edit

pub returns-in-None-clause-edit : goal.returns-in-None-clause-edit
returns-in-None-clause-edit c =
    let none = ap (λ (row : List Child). option_map (λ k. c.args.at + k) (position (has_id c.args.spec.id) (drop c.args.at row))) (sym c.as_slice.ensures.value) ∙ sym c.index_from.ensures ∙ c.in-None.is in
    added_edit c.args.row.now.items c.args.at c.args.spec c.add_child.result none c.add_child.ensures.edit
