-- What the name goes on with stays to be stepped over.
use Rattle.std.proofs.Common.{◌≡◌, length}
use Rattle.erl_chars.specs.Chars.{is_name_char, front, after_front}
use Rattle.erl_chars.specs.Cursor.{left as left_of, total as total_of}
use Rattle.erl_scan.specs.Scanner.{left, total}
use Rattle.erl_scan.proofs.scanner.Scanner.skip_name.Given as goal

abbrev pub invariant-loop : goal.invariant-loop
invariant-loop l = record {
  behind : after_front is_name_char (left_of l.cursor) ≡ after_front is_name_char (left l.fn.self);
  whole : total_of l.cursor ≡ total l.fn.self;
}

abbrev pub decreases-loop : goal.decreases-loop
decreases-loop l = length (front is_name_char (left_of l.cursor))
