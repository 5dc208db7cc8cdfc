-- The rows of those so far.
use Rattle.std.proofs.Common.{◌≡◌, flat_map, take}
use Rattle.console_answers.specs.Rows.{children_of}
use Rattle.console_answers.proofs.children.child_rows.Given as goal

abbrev pub invariant-loop-index : goal.invariant-loop-index
invariant-loop-index l = l.rows.items ≡ flat_map children_of (take l.index l.apps)
