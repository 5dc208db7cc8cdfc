-- So many lines have been read.
use Rattle.std.proofs.Common.{◌≡◌, length, take}
use Rattle.client_traffic.specs.Traffic.{AllSend, lines_of}
use Rattle.client_traffic.proofs.read_traffic.Given as goal

abbrev pub invariant-loop-line : goal.invariant-loop-line
invariant-loop-line l = (l.number ≡ length l.yielded) × AllSend (take l.number (lines_of l.text)) l.found.items
