-- One character more.
use Rattle.std.proofs.Common.{◌∙◌, ap}
use Rattle.erl_chars.specs.Cursor.{after_first}
use Rattle.erl_scan.proofs.Reading.{after_first-drop}
use Rattle.erl_scan.proofs.scanner.Scanner.skip.Goals as goal

pub loop-preserved : goal.loop-preserved
loop-preserved c = record {
  behind = c.advance.ensures.left ∙ ap after_first c.loop.invariant.behind ∙ after_first-drop c.loop.counter _;
  whole = c.advance.ensures.total ∙ c.loop.invariant.whole;
}
