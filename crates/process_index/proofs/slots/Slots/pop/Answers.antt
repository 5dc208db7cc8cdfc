-- The last pid stands no more.
use Rattle.std.proofs.Common.{◌≡◌, ◌-◌, ◌∙◌, arith, suc, ap, length}
use Rattle.std.specs.BTreeMap.{get}
use Rattle.std.specs.Ordering.{nat_cmp}
use Rattle.process_index.specs.Standing.{stands_at}
use Rattle.process_index.proofs.Standing.{found, length-standing, popped}
use Rattle.process_index.proofs.slots.Slots.pop.Goals as goal

pub returns-clause-last : goal.returns-clause-last
returns-clause-last g c =
    let old = get nat_cmp c.self.inside.living in
    let last = c.self.inside.last in
    let most : last ≡ length c.args.self.now - 1 = omega (arith, length-standing old 0 (suc last), ap length c.self.view_is) in
    c.remove-last.ensures.value ∙ found old last last c.args.self.now c.self.invariant c.self.view_is ∙ ap (stands_at c.args.self.now) most

pub returns-clause-rest : goal.returns-clause-rest
returns-clause-rest g c =
    let old = get nat_cmp c.self.inside.living in
    let last = c.self.inside.last in
    let next : last ≡ suc (last - 1) = omega (arith, length-standing old 0 (suc last), ap length c.self.view_is, c.requires) in
    popped old (get nat_cmp c.remove-last.new.self) last (last - 1) c.args.self.now next c.self.view_is c.remove-last.ensures.updates.0
