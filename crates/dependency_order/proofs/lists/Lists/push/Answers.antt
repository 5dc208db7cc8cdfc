use Rattle.std.proofs.Common.{◌<◌, ◌++◌, ◌∷◌, [], ℕ, List, set, vec_items, length, arith, ap, ◌∙◌}
use Rattle.std.proofs.lemmas.List.{length-map}
use Rattle.dependency_order.specs.Lists.{row}
use Rattle.dependency_order.proofs.Rows.{pushed_row}
use Rattle.dependency_order.proofs.lists.Lists.push.Goals as goal

pub returns : goal.returns
returns c =
    let vs = c.self.inside.rows.items in
    let long = length-map vs (vec_items {X = ℕ}) in
    let same = ap (length {A = List ℕ}) c.self.view_is in
    let k = c.requires in
    let below : c.args.number < length vs = omega (arith, long, same, k) in
    let pushed = pushed_row vs c.args.number c.index_mut.result.now c.push.new.self c.args.item below c.index_mut.ensures.value c.in_ok-push.ensures.items in
    pushed ∙ ap (λ xss. set xss c.args.number (row xss c.args.number ++ c.args.item ∷ [])) c.self.view_is
