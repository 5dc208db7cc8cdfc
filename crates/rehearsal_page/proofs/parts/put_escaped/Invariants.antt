-- The bytes so far are appended.
use Rattle.std.proofs.Common.{◌≡◌, ◌++◌, take}
use Rattle.rehearsal_page.specs.Escaping.{escaped}
use Rattle.rehearsal_page.proofs.parts.put_escaped.Given as goal

abbrev pub invariant-loop-byte : goal.invariant-loop-byte
invariant-loop-byte l = l.out.items ≡ l.initial.out.items ++ escaped (take l.byte-index l.text)
