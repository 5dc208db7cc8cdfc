-- Each turn gives the next release its status.
use Rattle.std.proofs.Common.{◌≡◌, ◌+◌, ◌<◌, suc, length, take, get_or, ap, ◌∙◌, arith}
use Rattle.values.specs.Edits.{changed_at}
use Rattle.release_statuses.specs.declared.status.Status.TheVariants.{Unpacked}
use Rattle.release_statuses.specs.Statuses.{with_status}
use Rattle.release_statuses.specs.Undo.{with_statuses}
use Rattle.release_statuses.proofs.Writes.{length-with_statuses, with_statuses-more}
use Rattle.release_statuses.proofs.status_changes.restore.Goals as goal

pub set_status-requires : goal.set_status-requires
set_status-requires c =
    let long = ap length c.loop-index.invariant ∙
    length-with_statuses (take c.loop-index.index c.args.former.now) c.args.table.now in
    omega (arith, long, c.requires)

pub loop-index-preserved : goal.loop-index-preserved
loop-index-preserved c =
    let ss = c.args.former.now in
    let xs = c.args.table.now in
    let i = c.loop-index.index in
    let status = get_or ss i Unpacked in
    let known : i < length ss = omega arith in
    let within : i < length xs = omega (arith, c.requires) in
    let next : suc i ≡ i + 1 = omega arith in
    c.set_status.ensures ∙ ap (λ ts. changed_at (with_status status) ts i) c.loop-index.invariant ∙
    with_statuses-more ss xs i Unpacked known within ∙ ap (λ n. with_statuses (take n ss) xs) next
