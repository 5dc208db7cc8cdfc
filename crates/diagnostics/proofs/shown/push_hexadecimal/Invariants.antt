-- What was one line still is.
use Rattle.std.proofs.Common.{◌≤◌, string_bytes}
use Rattle.std.specs.Str.{chars}
use Rattle.diagnostics.specs.Shown.{IsOneLine}
use Rattle.diagnostics.proofs.shown.push_hexadecimal.Given as goal

abbrev pub invariant-loop-index : goal.invariant-loop-index
invariant-loop-index l = IsOneLine (chars (string_bytes l.initial.out)) → IsOneLine (chars (string_bytes l.out))
