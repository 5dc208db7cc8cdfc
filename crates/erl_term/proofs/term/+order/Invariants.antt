-- What is left of the rows compares as the whole rows do, and each call goes down.
use Rattle.std.proofs.Common.{◌≡◌, ◌+◌, ◌*◌, drop}
use Rattle.erl_term.specs.Tree.{depth, greatest_depth}
use Rattle.erl_term.specs.Term.{tree, trees}
use Rattle.erl_term.specs.Order.{trees_cmp}
use Rattle.erl_term.proofs.term.+order.Given as goal

abbrev pub decreases-order::TermOrd::cmp : goal.decreases-order::TermOrd::cmp
decreases-order::TermOrd::cmp l = 3 * depth (tree l.self.now)

abbrev pub decreases-Terms::compare : goal.decreases-Terms::compare
decreases-Terms::compare l = 3 * greatest_depth l.self.now + 2

abbrev pub decreases-Terms::compare_sized : goal.decreases-Terms::compare_sized
decreases-Terms::compare_sized l = 3 * greatest_depth l.self.now + 2

abbrev pub decreases-order::compare_rows : goal.decreases-order::compare_rows
decreases-order::compare_rows l = 3 * greatest_depth (trees l.ts.now) + 1

abbrev pub invariant-order::compare_rows-loop-i : goal.invariant-order::compare_rows-loop-i
invariant-order::compare_rows-loop-i l =
    trees_cmp (trees (drop l.i l.ts)) (trees (drop l.i l.us)) ≡ trees_cmp (trees l.ts) (trees l.us)
