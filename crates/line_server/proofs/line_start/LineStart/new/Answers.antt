-- The room is for what is kept of any line.
use Rattle.std.proofs.Common.{arith}
use Rattle.line_server.specs.Lines.{longest_line}
use Rattle.line_server.proofs.line_start.LineStart.new.Goals as goal

pub invariant_of-result : goal.invariant_of-result
unfolding longest_line
invariant_of-result c = record {
  has_room = omega (arith, c.in_ok-bytes.ensures.capacity);
  is_cut = omega (arith, c.in_ok-bytes.ensures.len);
}
