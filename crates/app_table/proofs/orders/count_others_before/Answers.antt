-- Those in front of it, and those behind it, are in order, and make the others.
use Rattle.std.proofs.Common.{◌≡◌, ◌<◌, ◌≤◌, ◌+◌, ◌-◌, ◌∙◌, List, ℕ, suc, true, false, ap, sym, subst, arith, length, take, drop, length-take, length-drop}
use Rattle.std.specs.List.Sorted.{IsPartitionPoint}
use Rattle.std.specs.Ordering.{is_lt}
use Rattle.std.proofs.lemmas.List.{take_all}
use Rattle.app_table.proofs.Keys.{by_pid_total}
use Rattle.app_table.proofs.Indices.{point_back, point_front, rises_back, rises_front}
use Rattle.app_table.specs.Ordered.{Rises, by_pid}
use Rattle.app_table.proofs.orders.count_others_before.Goals as goal

behind : (xs : List ℕ) (from : ℕ) → take (length xs - (from + 1)) (drop (from + 1) xs) ≡ drop (suc from) xs
behind xs from =
    let one : from + 1 ≡ suc from = omega arith in
    take_all (length xs - (from + 1)) (drop (from + 1) xs) (omega (arith, length-drop (from + 1) xs)) ∙ ap (λ n. drop n xs) one

in_front : (xs : List ℕ) (from : ℕ) → from < length xs → length (take from xs) ≡ from
in_front xs from within = omega (arith, length-take from xs)

pub count_before_by_pid-count-requires : goal.count_before_by_pid-count-requires
count_before_by_pid-count-requires c = rises_front (by_pid c.args.row.now) (take c.args.from c.args.pids.now) (drop (suc c.args.from) c.args.pids.now) c.requires.rises

pub count_before_by_pid-requires : goal.count_before_by_pid-requires
count_before_by_pid-requires c =
    subst (Rises (by_pid c.args.row.now)) (sym (behind c.args.pids.now c.args.from)) (rises_back (by_pid c.args.row.now) (take c.args.from c.args.pids.now) (drop (suc c.args.from) c.args.pids.now) c.requires.rises)

pub returns-then-count-from-clause-point : goal.returns-then-count-from-clause-point
returns-then-count-from-clause-point c =
    let long = in_front c.args.pids.now c.args.from c.requires.there in
    let within : c.count_before_by_pid-count.result < length (take c.args.from c.args.pids.now) = omega (arith, long, c.if-count-from.true) in
    point_front (by_pid c.args.row.now) (by_pid_total c.args.row.now) (take c.args.from c.args.pids.now) (drop (suc c.args.from) c.args.pids.now) c.count_before_by_pid-count.result c.args.index c.requires.rises within c.count_before_by_pid-count.ensures.point

pub returns-clause-point : goal.returns-clause-point
returns-clause-point c =
    let long = in_front c.args.pids.now c.args.from c.requires.there in
    let over : c.args.from ≤ c.count_before_by_pid-count.result = c.if-count-from.false in
    let point = subst (λ (l : List ℕ). IsPartitionPoint (λ e. is_lt (by_pid c.args.row.now e c.args.index) ≡ true) (λ e. is_lt (by_pid c.args.row.now e c.args.index) ≡ false) l c.count_before_by_pid.result) (behind c.args.pids.now c.args.from) c.count_before_by_pid.ensures.point in
    point_back (by_pid c.args.row.now) (take c.args.from c.args.pids.now) (drop (suc c.args.from) c.args.pids.now) c.count_before_by_pid.result (c.args.from + c.count_before_by_pid.result) c.args.index (λ k d below. c.count_before_by_pid-count.ensures.point.0 k d (omega arith) (omega (arith, long, over, below))) point (omega (arith, long))
