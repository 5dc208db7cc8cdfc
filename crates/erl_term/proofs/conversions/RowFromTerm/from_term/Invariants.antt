-- The items so far, and those that are left, are those of the whole.
use Rattle.std.proofs.Common.{◌≡◌, ◌++◌, drop, Some, option_and_then}
use Rattle.erl_term.specs.Accessors.{all_of}
use Rattle.erl_term.specs.Term.{trees}
use Rattle.erl_term.proofs.conversions.RowFromTerm.from_term.Given as goal

abbrev pub invariant-loop-term : goal.invariant-loop-term
invariant-loop-term g l =
    let read = g.T.FromTerm.reading in
    all_of read (trees l.row) ≡ option_and_then (λ rest. Some (l.items.items ++ rest)) (all_of read (trees (drop l.term-index l.row)))
