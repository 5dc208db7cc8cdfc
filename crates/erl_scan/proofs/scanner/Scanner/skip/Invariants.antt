-- As many characters are stepped over as the loop has counted.
use Rattle.std.proofs.Common.{◌≡◌, drop}
use Rattle.erl_scan.specs.Scanner.{left, total}
use Rattle.erl_scan.proofs.scanner.Scanner.skip.Given as goal

abbrev pub invariant-loop : goal.invariant-loop
invariant-loop l = record {
  behind : left l.self ≡ drop l.counter (left l.fn.self);
  whole : total l.self ≡ total l.fn.self;
}
