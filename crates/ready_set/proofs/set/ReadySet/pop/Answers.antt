-- One leaf is unmarked, and its flag is no more.
use Rattle.std.proofs.Common.{◌≡◌, ◌-◌, ◌∙◌, arith, ap, sym, length, take, List, Bool}
use Rattle.std.proofs.lemmas.List.{with_items_is}
use Rattle.ready_set.specs.Marks.{flags_of, is_leaf_marked}
use Rattle.ready_set.proofs.Kept.{length-flags, popped_flags}
use Rattle.ready_set.proofs.set.ReadySet.pop.Goals as goal

pub returns : goal.returns
returns c =
    let s = c.self.inside in
    let old = s.marks.items in
    let new = c.put.new.marks in
    let same = c.deref_mut.ensures.value in
    let long : length new ≡ length old = c.put.auto.marks ∙ ap length same in
    let many : length c.args.self.now ≡ s.capacity = sym (ap length c.self.view_is) ∙ length-flags old s.capacity c.self.invariant.room in
    ap (λ (ms : List Bool). flags_of ms (s.capacity - 1)) (with_items_is s.marks new (c.put.auto.marks ∙ c.deref_mut.ensures.len))
    ∙ popped_flags old new s.capacity long c.self.invariant.room (omega (arith, c.requires, many))
    (λ k other. c.put.ensures.others k other ∙ ap (λ (ms : List Bool). is_leaf_marked ms k) same)
    ∙ ap (λ (fs : List Bool). take (s.capacity - 1) fs) c.self.view_is
    ∙ ap (λ n. take (n - 1) c.args.self.now) (sym many)
