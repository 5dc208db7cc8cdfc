-- One specification more.
use Rattle.std.proofs.Common.{◌≡◌, ◌≤◌, ◌+◌, ◌++◌, ◌∷◌, ◌∙◌, List, [], ap, arith, drop, length, length-append, subst, sym, take, zero-add}
use Rattle.std.proofs.lemmas.List.{append-nil, nil_from_length}
use Rattle.std.specs.Vec.Iter.{into_iter_items}
use Rattle.app_table.proofs.Renewals.{edits_more, left_more, renewed_more, unrenewed_more, within_more}
use Rattle.app_table.specs.Renewing.{AreEdits, IsEdit, child_by_id, child_for, renewed, unedited, unrenewed, without}
use Rattle.app_table.specs.declared.child.Child.{Child}
use Rattle.app_table.specs.declared.renewing.ChildEdit.{ChildEdit}
use Rattle.child_specs.specs.declared.child.ChildSpec.{ChildSpec}
use Rattle.app_table.proofs.renewing.renew_all.Goals as goal

pub loop-spec-preserved : goal.loop-spec-preserved
loop-spec-preserved c =
    let specs = c.args.specs.items in
    let first = c.args.row.now.items in
    let row = c.loop-spec.row.items in
    let now = c.renew_child.new.row.items in
    let edits = c.loop-spec.edits.items in
    let e = c.renew_child.result in
    let spec = c.in-Some.spec in
    let rest = into_iter_items c.next.new.self in
    let within = c.loop-spec.invariant.within in
    let left : into_iter_items c.loop-spec.spec-iterator ≡ spec ∷ rest = c.in-Some.ensures.steps.0 in
    let count = ap (λ (es : List ChildEdit). length es) c.as_slice-at.ensures.value in
    let pushed : c.push_reserved.new.self.items ≡ edits ++ e ∷ [] = c.push_reserved.ensures.items in
    let long : length c.push_reserved.new.self.items ≡ length edits + 1 = ap (λ (es : List ChildEdit). length es) pushed ∙ length-append edits (e ∷ []) in
    let child = child_for spec (child_by_id spec.id (drop (length edits) row)) in
    let others = without spec.id (drop (length edits) row) in
    let is : now ≡ take (length edits) row ++ child ∷ others =
    subst (λ n. now ≡ take n row ++ child_for spec (child_by_id spec.id (drop n row)) ∷ without spec.id (drop n row)) count c.renew_child.ensures.renewed in
    let back : unedited (length edits) e now ≡ row = subst (λ n. unedited n e now ≡ row) count c.renew_child.ensures.back in
    let edited : IsEdit spec (child_by_id spec.id (drop (length edits) row)) e = subst (λ n. IsEdit spec (child_by_id spec.id (drop n row)) e) count c.renew_child.ensures.edit in
    let so_far = subst (λ (ss : List ChildSpec). (es : List ChildEdit) → AreEdits ss (drop (length edits) row) es → AreEdits specs first (edits ++ es)) left c.loop-spec.invariant.edited in
    let next = ap (λ n. drop n now) long ∙ left_more row now (length edits) spec within is in
    let zero_first : 0 + length edits ≡ length edits = zero-add (length edits) in
    let shorter = ap (λ (ss : List ChildSpec). length ss) left in
    record {
      renewed =
          ap (λ n. take n now ++ renewed rest (drop n now)) long
          ∙ renewed_more row now (length edits) spec rest within is
          ∙ ap (λ (ss : List ChildSpec). take (length edits) row ++ renewed ss (drop (length edits) row)) (sym left)
          ∙ c.loop-spec.invariant.renewed;
      back =
          ap (λ (es : List ChildEdit). unrenewed 0 es now) pushed
          ∙ unrenewed_more 0 edits e now
          ∙ ap (λ n. unrenewed 0 edits (unedited n e now)) zero_first
          ∙ ap (unrenewed 0 edits) back
          ∙ c.loop-spec.invariant.back;
      edited = λ es others.
          subst (λ (all : List ChildEdit). AreEdits specs first (all ++ es)) (sym pushed)
          (edits_more specs first edits e (drop (length edits) row) spec rest so_far edited es
          (subst (λ (behind : List Child). AreEdits rest behind es) next others));
      within = subst (λ n. n ≤ length now) (sym long) (within_more row now others (length edits) child within is);
      room = omega (arith, c.renew_child.ensures.room, c.loop-spec.invariant.room, shorter);
      more = omega (arith, c.renew_child.ensures.room, c.loop-spec.invariant.more, shorter);
      same = c.renew_child.ensures.room.1 ∙ c.loop-spec.invariant.same;
      noted = omega (arith, c.push_reserved.ensures.len, c.push_reserved.ensures.capacity, c.loop-spec.invariant.noted, shorter);
    }

pub returns-clause-edits : goal.returns-clause-edits
returns-clause-edits c =
    let specs = c.args.specs.items in
    let first = c.args.row.now.items in
    let edits = c.loop-spec.edits.items in
    let none : into_iter_items c.loop-spec.spec-iterator ≡ [] =
    nil_from_length (into_iter_items c.loop-spec.spec-iterator) (omega (arith, c.loop-spec.spec-iterator.rest.ok.0, c.in-None.ensures.steps.0)) in
    let left = drop (length edits) c.loop-spec.row.items in
    let all = c.loop-spec.invariant.edited [] (subst (λ (ss : List ChildSpec). AreEdits ss left []) (sym none) tt) in
    subst (AreEdits specs first) (append-nil edits) all
