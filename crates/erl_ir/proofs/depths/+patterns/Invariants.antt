-- The greatest depth so far, and each call goes down.
use Rattle.std.proofs.Common.{◌≡◌, ◌+◌, ◌-◌, ◌*◌, ◌^◌, min, take}
use Rattle.erl_ir.specs.Pattern.{pat_depth, pats_depth}
use Rattle.erl_ir.specs.PatternForms.{pat, pats}
use Rattle.erl_ir.proofs.depths.+patterns.Given as goal

abbrev pub decreases-depth_of_pattern : goal.decreases-depth_of_pattern
decreases-depth_of_pattern l = 2 * pat_depth (pat l.pattern.now)

abbrev pub decreases-depth_of_patterns : goal.decreases-depth_of_patterns
decreases-depth_of_patterns l = 2 * pats_depth (pats l.patterns.now) + 1

abbrev pub invariant-depth_of_patterns-loop-pattern : goal.invariant-depth_of_patterns-loop-pattern
invariant-depth_of_patterns-loop-pattern l = l.depth ≡ min (pats_depth (pats (take l.pattern-index l.patterns))) (2 ^ 64 - 1)
