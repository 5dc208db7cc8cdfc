-- A row that is seen whole, of which the last index that is as deep may be kept as an earlier one.
use Rattle.std.proofs.Common.{◌-◌, ◌^◌, ◌<◌, sym, subst, arith, rules}
use Rattle.erl_term.specs.Parts.{IsPart}
use Rattle.erl_term.specs.Stored.{listed}
use Rattle.erl_term.proofs.Parts.{earlier_part}
use Rattle.erl_term.proofs.term.rows.row_of.Goals as goal

pub invariant_of-result : goal.invariant_of-result
invariant_of-result c =
    let told = c.args.told in
    let below : told.depth < 2 ^ 64 - 1 = search (rules, arith) in
    let part = earlier_part (listed c.args.items) told.depth told.last told.size c.index_before.result c.requires below c.index_before.ensures in
    subst (λ r. IsPart (listed r.items) r.depth r.last r.size 0 0) (sym c.in_ok-row.ensures.ok) part
