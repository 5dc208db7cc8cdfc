-- What was one line still is, and characters of which none is hidden stand behind it.
use Rattle.std.proofs.Common.{◌≡◌, ◌++◌, string_bytes}
use Rattle.std.specs.Str.{chars}
use Rattle.diagnostics.specs.Shown.{IsOneLine}
use Rattle.diagnostics.proofs.shown.push_shown.Given as goal

abbrev pub invariant-loop-c : goal.invariant-loop-c
invariant-loop-c l =
    (IsOneLine (chars (string_bytes l.initial.out)) → IsOneLine (chars (string_bytes l.out))) ×
    (IsOneLine l.yielded → chars (string_bytes l.out) ≡ chars (string_bytes l.initial.out) ++ l.yielded)
