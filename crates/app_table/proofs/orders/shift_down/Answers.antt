-- The entry and those between are turned.
use Rattle.std.proofs.Common.{◌≡◌, ◌<◌, ◌+◌, ◌-◌, ◌∙◌, suc, ap, arith, drop, get_or, length, take, length-drop, length-take-le, ◌++◌}
use Rattle.std.specs.List.{insert, remove}
use borrow.Rule.Slice.PartMut.{put_mid}
use Rattle.app_table.proofs.Turns.{turned_down}
use Rattle.app_table.proofs.orders.shift_down.Goals as goal

pub returns : goal.returns
returns c =
    let xs = c.args.pids.now in
    let count : (c.args.from + 1) - c.args.to ≡ suc (c.args.from - c.args.to) = omega (arith, c.requires.ordered) in
    let from : c.args.to + (c.args.from - c.args.to) ≡ c.args.from = omega (arith, c.requires.ordered) in
    let within : c.args.to + (c.args.from - c.args.to) < length c.args.pids.now = omega (arith, c.requires.ordered, c.requires.within) in
    let long = length-take-le ((c.args.from + 1) - c.args.to) (drop c.args.to xs) (omega (arith, length-drop c.args.to xs, c.requires.ordered, c.requires.within)) in
    let last : length (take ((c.args.from + 1) - c.args.to) (drop c.args.to c.args.pids.now)) - 1 ≡ c.args.from - c.args.to = omega (arith, long, count) in
    ap (put_mid c.args.to ((c.args.from + 1) - c.args.to) xs) (c.rotate_right.ensures.after ∙ ap (λ n. drop n (take ((c.args.from + 1) - c.args.to) (drop c.args.to xs)) ++ take n (take ((c.args.from + 1) - c.args.to) (drop c.args.to xs))) last) ∙ ap (λ k. take c.args.to xs ++ ((drop (c.args.from - c.args.to) (take k (drop c.args.to xs)) ++ take (c.args.from - c.args.to) (take k (drop c.args.to xs))) ++ drop k (drop c.args.to xs))) count ∙ turned_down xs c.args.to (c.args.from - c.args.to) within ∙ ap (λ n. insert (remove xs n) c.args.to (get_or xs n 0)) from
