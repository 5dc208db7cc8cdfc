-- The patterns copied so far are equal, and each call goes down.
use Rattle.std.proofs.Common.{◌≡◌, ◌+◌, ◌*◌, take}
use Rattle.erl_ir.specs.Pattern.{pat_depth, pats_depth}
use Rattle.erl_ir.specs.PatternForms.{pat, pats}
use Rattle.erl_ir.proofs.pattern.+copy.Given as goal

abbrev pub decreases-PatternDuplicate::copy : goal.decreases-PatternDuplicate::copy
decreases-PatternDuplicate::copy l = 3 * pat_depth (pat l.self.now)

abbrev pub decreases-PatternsDuplicate::copy : goal.decreases-PatternsDuplicate::copy
decreases-PatternsDuplicate::copy l = 3 * pats_depth l.self.now + 2

abbrev pub decreases-copied_row : goal.decreases-copied_row
decreases-copied_row l = 3 * pats_depth (pats l.items.now) + 1

abbrev pub invariant-copied_row-loop-item : goal.invariant-copied_row-loop-item
invariant-copied_row-loop-item l = l.copied.items ≡ take l.item-index l.items
