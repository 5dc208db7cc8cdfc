-- Each turn counts the instructions of one entry more.
use Rattle.std.proofs.Common.{◌≡◌, ◌+◌, ◌∷◌, length, drop, sym, ap, ◌∙◌, arith}
use Rattle.std.proofs.lemmas.List.{drop_more, drop_all}
use Rattle.otp_files.specs.Reading.{count_in}
use Rattle.otp_files.specs.Upgrades.{saturated}
use Rattle.otp_files.proofs.Numbers.{count_step, counted}
use Rattle.otp_files.proofs.upgrade.drafts.count.Goals as goal

pub loop-draft-preserved : goal.loop-draft-preserved
loop-draft-preserved g c =
    let items = c.args.drafts.now in
    let i = c.loop-draft.draft-index in
    let d = c.draft-item.result in
    let seen = c.as_slice.result.now in
    let rest = count_in (drop (i + 1) items) in
    let step : c.saturating_add-count.result ≡ saturated (c.loop-draft.count + length seen) = c.saturating_add-count.ensures in
    let one : count_in (drop i items) ≡ length seen + rest = ap count_in (drop_more items i d c.loop-draft-test.true ∙ ap (λ u. u ∷ drop (i + 1) items) (sym c.draft-item.is)) ∙ ap (λ n. n + rest) (counted d.instructions seen c.as_slice.ensures) in
    record {
      so_far = count_step _ c.loop-draft.count (length seen) c.saturating_add-count.result _ rest one step c.loop-draft.invariant.so_far;
      fits = omega (arith, step);
    }

pub returns : goal.returns
returns g c =
    let all = drop_all c.loop-draft.draft-index c.args.drafts.now c.loop-draft-test.false in
    let none_left : count_in (drop c.loop-draft.draft-index c.args.drafts.now) ≡ 0 = ap count_in all in
    let so_far = c.loop-draft.invariant.so_far in
    let fits = c.loop-draft.invariant.fits in
    omega (arith, none_left, so_far, fits)
