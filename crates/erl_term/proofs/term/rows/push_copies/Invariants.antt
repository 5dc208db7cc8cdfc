use Rattle.std.proofs.Common.{◌≡◌, ◌++◌, take}
use Rattle.erl_term.proofs.term.rows.push_copies.Given as goal

abbrev pub invariant-loop-term : goal.invariant-loop-term
invariant-loop-term l = l.items.items ≡ l.initial.items.items ++ take l.term-index l.terms
