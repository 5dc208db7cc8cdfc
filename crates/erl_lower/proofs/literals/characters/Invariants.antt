-- The characters so far and those that are left are all.
use Rattle.std.proofs.Common.{◌≡◌, drop}
use Rattle.erl_term.specs.Rows.{append_trees}
use Rattle.erl_term.specs.Term.{trees}
use Rattle.erl_lower.specs.Literals.{characters}
use Rattle.erl_lower.proofs.literals.characters.Given as goal

abbrev pub invariant-loop-text : goal.invariant-loop-text
invariant-loop-text l = append_trees (trees l.items.items) (characters (drop l.text-index l.texts)) ≡ characters l.texts
