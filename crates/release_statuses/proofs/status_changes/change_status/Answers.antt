-- Each turn changes the status of the next release.
use Rattle.std.proofs.Common.{◌≡◌, ◌+◌, ◌<◌, ◌++◌, suc, length, map, take, drop, ap, ◌∙◌, arith}
use Rattle.values.specs.Edits.{changed_at}
use Rattle.release_statuses.proofs.Standing.{status_changed_one}
use Rattle.release_statuses.proofs.Writes.{changed-more}
use Rattle.release_statuses.proofs.status_changes.change_status.Goals as goal

pub loop-index-preserved : goal.loop-index-preserved
loop-index-preserved c =
    let f = status_changed_one c.args.from c.args.to in
    let xs = c.args.table.now in
    let i = c.loop-index.index in
    let within : i < length xs = omega (arith, ap length c.as_slice-index-end.ensures) in
    let next : suc i ≡ i + 1 = omega arith in
    c.change_one.ensures ∙ ap (λ ts. changed_at f ts i) c.loop-index.invariant ∙ changed-more f xs i within ∙
    ap (λ n. map f (take n xs) ++ drop n xs) next
