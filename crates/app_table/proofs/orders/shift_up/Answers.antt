-- Those between and the entry are turned.
use Rattle.std.proofs.Common.{◌≡◌, ◌<◌, ◌+◌, ◌-◌, ◌∙◌, suc, ap, arith, drop, get_or, length, take, ◌++◌}
use Rattle.std.specs.List.{insert, remove}
use borrow.Rule.Slice.PartMut.{put_mid}
use Rattle.app_table.proofs.Turns.{turned_up}
use Rattle.app_table.proofs.orders.shift_up.Goals as goal

pub returns : goal.returns
returns c =
    let xs = c.args.pids.now in
    let count : (c.args.to + 1) - c.args.from ≡ suc (c.args.to - c.args.from) = omega (arith, c.requires.ordered) in
    let to : c.args.from + (c.args.to - c.args.from) ≡ c.args.to = omega (arith, c.requires.ordered) in
    let within : c.args.from + (c.args.to - c.args.from) < length c.args.pids.now = omega (arith, c.requires.ordered, c.requires.within) in
    ap (put_mid c.args.from ((c.args.to + 1) - c.args.from) xs) c.rotate_left.ensures.after ∙ ap (λ k. take c.args.from xs ++ ((drop 1 (take k (drop c.args.from xs)) ++ take 1 (take k (drop c.args.from xs))) ++ drop k (drop c.args.from xs))) count ∙ turned_up xs c.args.from (c.args.to - c.args.from) within ∙ ap (λ n. insert (remove xs c.args.from) n (get_or xs c.args.from 0)) to
