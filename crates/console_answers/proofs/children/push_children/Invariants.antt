-- A row for each so far.
use Rattle.std.proofs.Common.{◌≡◌, ◌++◌, map, take}
use Rattle.console_answers.specs.Rows.{child_row}
use Rattle.console_answers.proofs.children.push_children.Given as goal

abbrev pub invariant-loop-child : goal.invariant-loop-child
invariant-loop-child l = l.rows.items ≡ l.fn.rows.items ++ map (child_row l.app.spec.name) (take l.child-index l.app.children)
