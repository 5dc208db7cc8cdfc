-- What is left of the row is still to be written, and each call goes down.
use Rattle.std.proofs.Common.{◌≡◌, ◌+◌, ◌*◌, drop}
use Rattle.erl_term.specs.Term.{tree, trees}
use Rattle.erl_term.specs.Tree.{depth, greatest_depth}
use Rattle.erl_term.specs.TreeCode.{trees_code}
use Rattle.erl_ir.specs.ModuleBytes.{written}
use Rattle.erl_ir.proofs.bytes.terms.+terms.Given as goal

abbrev pub decreases-write_term : goal.decreases-write_term
decreases-write_term l = 2 * depth (tree l.term.now)

abbrev pub decreases-write_terms : goal.decreases-write_terms
decreases-write_terms l = 2 * greatest_depth (trees l.row.now) + 1

abbrev pub invariant-write_terms-loop-term : goal.invariant-write_terms-loop-term
invariant-write_terms-loop-term l =
    written (trees_code (trees (drop l.term-index l.row))) l.out.items ≡ written (trees_code (trees l.row)) l.fn.out.items
