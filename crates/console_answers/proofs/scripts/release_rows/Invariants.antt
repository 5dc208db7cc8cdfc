-- A row for each so far.
use Rattle.std.proofs.Common.{◌≡◌, map, take}
use Rattle.console_answers.specs.Rows.{release_row}
use Rattle.console_answers.proofs.scripts.release_rows.Given as goal

abbrev pub invariant-loop-it : goal.invariant-loop-it
invariant-loop-it l = l.rows.items ≡ map release_row (take l.it-index l.releases)
