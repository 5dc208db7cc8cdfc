-- What is written through the borrow stands at the pid then.
use Rattle.std.proofs.Common.{Some, ◌∙◌, ap, suc}
use Rattle.std.specs.BTreeMap.{get, keys}
use Rattle.std.specs.Ordering.{nat_cmp}
use Rattle.process_index.specs.Standing.{standing}
use Rattle.process_index.proofs.Standing.{changed, found, lent_ends, lent_some, same_read}
use Rattle.process_index.proofs.slots.Slots.get_mut.Goals as goal

pub invariant_of-self-lent : goal.invariant_of-self-lent
invariant_of-self-lent g c =
    let es = c.self.inside.living.entries in
    let last = c.self.inside.last in
    let at = c.get_mut.follows in
    λ lent. (λ it. lent_ends es (at.lender it).entries last (at.holds it).1 c.self.invariant, lent_ends es at.lender-at-none.entries last (ap (λ m. keys m) at.holds-at-none) c.self.invariant)

pub returns : goal.returns
returns g c =
    let old = get nat_cmp c.self.inside.living in
    let last = c.self.inside.last in
    let pid = c.args.pid in
    let slots = c.args.self.now in
    let at = c.get_mut.follows in (
      same_read c.get_mut.result _ _ _ _ (λ some it. changed old (get nat_cmp (at.lender it)) last pid (Some it) slots c.self.view_is ((at.holds it).3 (lent_some _ _ c.get_mut.ensures.value some)).0) (ap (λ m. standing (get nat_cmp m) 0 (suc last)) at.holds-at-none ∙ c.self.view_is),
      record { writes_back = tt; value = c.get_mut.ensures.value ∙ found old last pid slots c.self.invariant c.self.view_is },
    )
