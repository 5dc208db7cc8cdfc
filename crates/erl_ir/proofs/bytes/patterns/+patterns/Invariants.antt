-- What is left of the row is still to be written, and each call goes down.
use Rattle.std.proofs.Common.{◌≡◌, ◌+◌, ◌*◌, drop}
use Rattle.erl_ir.specs.Pattern.{pat_depth, pats_depth}
use Rattle.erl_ir.specs.PatternCode.{pats_code}
use Rattle.erl_ir.specs.PatternForms.{pat, pats}
use Rattle.erl_ir.specs.ModuleBytes.{written}
use Rattle.erl_ir.proofs.bytes.patterns.+patterns.Given as goal

abbrev pub decreases-write_pattern : goal.decreases-write_pattern
decreases-write_pattern l = 2 * pat_depth (pat l.pattern.now)

abbrev pub decreases-write_patterns : goal.decreases-write_patterns
decreases-write_patterns l = 2 * pats_depth (pats l.row.now) + 1

abbrev pub invariant-write_patterns-loop-pattern : goal.invariant-write_patterns-loop-pattern
invariant-write_patterns-loop-pattern l =
    written (pats_code (pats (drop l.pattern-index l.row))) l.out.items ≡ written (pats_code (pats l.row)) l.fn.out.items
