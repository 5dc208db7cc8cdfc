-- The patterns passed so far are equal, and each call goes down.
use Rattle.std.proofs.Common.{◌≡◌, ◌+◌, ◌*◌, take}
use Rattle.erl_ir.specs.Pattern.{pat_depth, pats_depth}
use Rattle.erl_ir.specs.PatternForms.{pat, pats}
use Rattle.erl_ir.proofs.pattern.+same.Given as goal

abbrev pub decreases-PatternSame::same : goal.decreases-PatternSame::same
decreases-PatternSame::same l = 3 * pat_depth (pat l.self.now)

abbrev pub decreases-PatternsSame::same : goal.decreases-PatternsSame::same
decreases-PatternsSame::same l = 3 * pats_depth l.self.now + 2

abbrev pub decreases-same_rows : goal.decreases-same_rows
decreases-same_rows l = 3 * pats_depth (pats l.ps.now) + 1

abbrev pub invariant-same_rows-loop-i : goal.invariant-same_rows-loop-i
invariant-same_rows-loop-i l = take l.i l.ps ≡ take l.i l.qs
