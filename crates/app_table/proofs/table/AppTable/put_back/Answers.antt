-- What was put in place is what the applications and the specifications are made of that were put back.
use Rattle.std.proofs.Common.{◌++◌, ◌∙◌, List, ap, arith, drop, length}
use Rattle.std.proofs.lemmas.List.{take_at}
use Rattle.app_table.proofs.Replacing.{again_is, back_pieces, length-replaced, put_back_is}
use Rattle.app_table.specs.Applications.{Application}
use Rattle.app_table.specs.Changes.{all_replaced}
use Rattle.app_table.specs.Undo.{all_given_up}
use Rattle.app_table.specs.declared.specs.Replaced.{Replaced}
use Rattle.app_table.proofs.table.AppTable.put_back.Goals as goal

pub take_last-requires-clause-there : goal.take_last-requires-clause-there
take_last-requires-clause-there c =
    let seen = ap length (c.self-2.view_is ∙ c.swap_back.ensures.set) in
    omega (arith, seen, length-replaced c.as_mut_slice.result.now c.args.self.now, c.requires.0)

pub returns-clause-ok : goal.returns-clause-ok
returns-clause-ok c =
    let given = c.as_mut_slice.ensures.value ∙ c.into_vec-replaced.ensures in
    let left = c.new.ensures ∙ take_at c.swap_back.new.replaced (drop (length c.swap_back.new.replaced) c.into_vec-replaced.result.items) c.into_vec-replaced.result.len (c.swap_back.auto.replaced ∙ c.as_mut_slice.ensures.len) ∙ c.swap_back.ensures.left ∙ ap (λ (l : List Replaced). all_given_up l c.args.self.now) given in
    let whole = c.take_last.ensures.whole ∙ c.self-2.view_is ∙ c.swap_back.ensures.set ∙ ap (λ (l : List Replaced). all_replaced l c.args.self.now) given in
    put_back_is c.args.former c.args.self.now c.take_last.new.list.items c.new.result c.take_last.new.taken.items c.requires left whole c.take_last.ensures.count

pub returns-clause-inverse : goal.returns-clause-inverse
returns-clause-inverse c =
    let given = c.as_mut_slice.ensures.value ∙ c.into_vec-replaced.ensures in
    let left = c.new.ensures ∙ take_at c.swap_back.new.replaced (drop (length c.swap_back.new.replaced) c.into_vec-replaced.result.items) c.into_vec-replaced.result.len (c.swap_back.auto.replaced ∙ c.as_mut_slice.ensures.len) ∙ c.swap_back.ensures.left ∙ ap (λ (l : List Replaced). all_given_up l c.args.self.now) given in
    let whole = ap (λ (l : List Application). c.take_last.new.list.items ++ l) c.new-2.ensures ∙ c.take_last.ensures.whole ∙ c.self-2.view_is ∙ c.swap_back.ensures.set ∙ ap (λ (l : List Replaced). all_replaced l c.args.self.now) given in
    again_is c.args.former c.args.self.now c.take_last.new.list.items c.new.result c.new-2.result c.requires left whole (ap length c.new-2.ensures ∙ c.take_last.ensures.count)

pub returns-clause-pieces : goal.returns-clause-pieces
returns-clause-pieces c =
    let given = c.as_mut_slice.ensures.value ∙ c.into_vec-replaced.ensures in
    let left = c.new.ensures ∙ take_at c.swap_back.new.replaced (drop (length c.swap_back.new.replaced) c.into_vec-replaced.result.items) c.into_vec-replaced.result.len (c.swap_back.auto.replaced ∙ c.as_mut_slice.ensures.len) ∙ c.swap_back.ensures.left ∙ ap (λ (l : List Replaced). all_given_up l c.args.self.now) given in
    let whole = ap (λ (l : List Application). c.take_last.new.list.items ++ l) c.new-2.ensures ∙ c.take_last.ensures.whole ∙ c.self-2.view_is ∙ c.swap_back.ensures.set ∙ ap (λ (l : List Replaced). all_replaced l c.args.self.now) given in
    back_pieces c.args.former c.args.self.now c.take_last.new.list.items c.new.result c.new-2.result c.requires left whole
