-- Each turn puts one child in front of those that are seen.
use Rattle.std.proofs.Common.{◌≡◌, ◌-◌, true, false, drop, get_or, Bor, sym, ap, ◌∙◌, arith}
use Rattle.std.specs.Prelude.{not, ◌&&◌}
use Rattle.std.specs.BTreeSet.{contains}
use Rattle.erl_term.specs.declared.term.Term.{Term}
use Rattle.child_specs.specs.Reading.{are_distinct}
use Rattle.child_specs.proofs.Distinct.{lent_cmp, not_distinct, one_before, one_more, told_before}
use Rattle.child_specs.proofs.reading.are_distinct.Goals as goal

pub returns-then-not-branch : goal.returns-then-not-branch
returns-then-not-branch c =
    let children = c.args.children.now in
    let i = c.loop-index.index in
    let x = c.index-children-index.result in
    let key : Bor Term = record { ref_ptr = c.args.children.ref_ptr; now = (get_or children (i - 1) x).id } in
    let before = one_before children i x (omega arith) (omega arith) c.index-children-index.is in
    let same : key.now ≡ x.id = ap (λ child. child.id) (sym c.index-children-index.is) in
    let told = told_before c.loop-index.ids key x _ _ before same c.loop-index.invariant.known in
    let again : not (contains lent_cmp c.loop-index.ids key) ≡ false = sym c.in_ok-insert.ensures.added ∙ c.if-not-branch.true in
    sym (not_distinct (i - 1) children (told ∙ ap (λ b. b && are_distinct (drop i children)) again))

pub loop-index-preserved : goal.loop-index-preserved
loop-index-preserved c =
    let children = c.args.children.now in
    let i = c.loop-index.index in
    let x = c.index-children-index.result in
    let key : Bor Term = record { ref_ptr = c.args.children.ref_ptr; now = (get_or children (i - 1) x).id } in
    let before = one_before children i x (omega arith) (omega arith) c.index-children-index.is in
    let same : key.now ≡ x.id = ap (λ child. child.id) (sym c.index-children-index.is) in
    let told = told_before c.loop-index.ids key x _ _ before same c.loop-index.invariant.known in
    let new : not (contains lent_cmp c.loop-index.ids key) ≡ true = sym c.in_ok-insert.ensures.added ∙ c.if-not-branch.false in
    record {
      known = one_more c.loop-index.ids c.insert.new.self key x _ _ before same c.in_ok-insert.ensures.updates c.loop-index.invariant.known;
      distinct = told ∙ ap (λ b. b && are_distinct (drop i children)) new ∙ c.loop-index.invariant.distinct;
    }
