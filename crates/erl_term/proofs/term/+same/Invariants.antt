-- The terms passed so far are equal, and each call goes down.
use Rattle.std.proofs.Common.{◌≡◌, ◌+◌, ◌*◌, take}
use Rattle.erl_term.specs.Tree.{depth, greatest_depth}
use Rattle.erl_term.specs.Term.{tree, trees}
use Rattle.erl_term.proofs.term.+same.Given as goal

abbrev pub decreases-TermSame::same : goal.decreases-TermSame::same
decreases-TermSame::same l = 3 * depth (tree l.self.now)

abbrev pub decreases-TermsSame::same : goal.decreases-TermsSame::same
decreases-TermsSame::same l = 3 * greatest_depth l.self.now + 2

abbrev pub decreases-same_rows : goal.decreases-same_rows
decreases-same_rows l = 3 * greatest_depth (trees l.ts.now) + 1

abbrev pub invariant-same_rows-loop-i : goal.invariant-same_rows-loop-i
invariant-same_rows-loop-i l = take l.i l.ts ≡ take l.i l.us
