-- It is taken out, and put in where it is to stand.
use Rattle.std.proofs.Common.{◌≡◌, ◌<◌, ◌∙◌, Bool, arith, if◌then◌else◌, subst, sym, vec_capacity, vec_len}
use Rattle.std.specs.Prelude.{insert}
use Rattle.app_table.proofs.Renewals.{moved_as, moved_nowhere}
use Rattle.app_table.proofs.renewing.move_child.Goals as goal

pub returns-then-from-to-clause-moved : goal.returns-then-from-to-clause-moved
returns-then-from-to-clause-moved c = sym (moved_nowhere c.args.row.now.items c.args.from c.args.to c.if-from-to.true c.requires.from)

pub returns-clause-moved : goal.returns-clause-moved
returns-clause-moved c =
    let xs = c.args.row.now.items in
    let child = c.remove-child.result in
    let left = c.remove-child.new.self.items in
    let room : vec_len c.remove-child.new.self < vec_capacity c.remove-child.new.self = omega (arith, c.remove-child.ensures.len, c.remove-child.ensures.capacity, c.args.row.now.ok.0, c.args.row.now.ok.1, c.requires.from) in
    let is = subst (λ (b : Bool). c.insert.new.self.items ≡ (if b then insert left c.args.to child else left)) (c.insert.ensures.succeeds room) c.insert.ensures.items in
    is ∙ (λ i. insert (c.remove-child.ensures.items i) c.args.to child) ∙ sym (moved_as xs c.args.from c.args.to child c.requires.from c.requires.to c.remove-child.ensures.value)
