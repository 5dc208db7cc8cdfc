-- A change of a release that has the status, and none of another.
use Rattle.std.proofs.Common.{cond, ap, sym, ◌∙◌}
use Rattle.values.proofs.Edits.{changed_at-same}
use Rattle.release_statuses.specs.Statuses.{with_status}
use Rattle.release_statuses.proofs.Standing.{status_changed_one}
use Rattle.release_statuses.proofs.Writes.{changed_alike, lent_at}
use Rattle.release_statuses.proofs.status_changes.change_one.Goals as goal

pub returns-then-has_status : goal.returns-then-has_status
returns-then-has_status c =
    let it = c.index-as_slice-index.result in
    let to = c.args.to in
    let lent = c.as_slice.result.now in
    let there = lent_at lent c.args.table.now c.args.index it c.as_slice.ensures c.requires c.index-as_slice-index.is in
    let passes = sym c.has_status.ensures ∙ c.if-has_status.true in
    c.set_status.ensures ∙
    changed_alike (with_status to) (status_changed_one c.args.from to) c.args.table.now c.args.index it there
    (sym (ap (λ b. cond b (with_status to it) it) passes))

pub returns-else-has_status : goal.returns-else-has_status
returns-else-has_status c =
    let it = c.index-as_slice-index.result in
    let to = c.args.to in
    let lent = c.as_slice.result.now in
    let there = lent_at lent c.args.table.now c.args.index it c.as_slice.ensures c.requires c.index-as_slice-index.is in
    let fails = sym c.has_status.ensures ∙ c.if-has_status.false in
    sym (changed_at-same (status_changed_one c.args.from to) c.args.table.now c.args.index it there
    (ap (λ b. cond b (with_status to it) it) fails))
