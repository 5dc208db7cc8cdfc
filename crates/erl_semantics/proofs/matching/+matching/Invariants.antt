-- What is left to match gives what all gives, and each call goes down.
use Rattle.std.proofs.Common.{◌≡◌, ◌+◌, ◌*◌, drop}
use Rattle.erl_term.specs.Term.{tree, trees}
use Rattle.erl_ir.specs.Pattern.{pat_depth, pats_depth}
use Rattle.erl_ir.specs.PatternForms.{pat, pats}
use Rattle.erl_semantics.specs.Bindings.{bindings}
use Rattle.erl_semantics.specs.Matching.{matched_each, matched_all}
use Rattle.erl_semantics.proofs.matching.+matching.Given as goal

abbrev pub decreases-match_pattern : goal.decreases-match_pattern
decreases-match_pattern l = 3 * pat_depth (pat l.pattern.now)

abbrev pub decreases-match_each : goal.decreases-match_each
decreases-match_each l = 3 * pats_depth (pats l.patterns.now) + 1

abbrev pub decreases-match_front : goal.decreases-match_front
decreases-match_front l = 3 * pats_depth (pats l.patterns.now) + 2

abbrev pub decreases-match_all : goal.decreases-match_all
decreases-match_all l = 3 * pats_depth (pats l.patterns.now) + 1

abbrev pub invariant-match_each-loop-i : goal.invariant-match_each-loop-i
invariant-match_each-loop-i l =
    matched_each (pats (drop l.i l.patterns)) (trees (drop l.i l.terms)) (bindings l.base l.fresh.items) ≡
    matched_each (pats l.initial.patterns) (trees l.initial.terms) (bindings l.initial.base l.initial.fresh.items)

abbrev pub invariant-match_all-loop-pattern : goal.invariant-match_all-loop-pattern
invariant-match_all-loop-pattern l =
    matched_all (pats (drop l.pattern-index l.patterns)) (tree l.term) (bindings l.base l.fresh.items) ≡
    matched_all (pats l.initial.patterns) (tree l.initial.term) (bindings l.initial.base l.initial.fresh.items)
