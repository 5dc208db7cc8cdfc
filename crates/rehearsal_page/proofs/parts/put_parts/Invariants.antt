-- The pieces so far are appended, and only their markup has brackets.
use Rattle.std.proofs.Common.{◌≡◌, ◌++◌, take}
use Rattle.rehearsal_page.specs.Escaping.{brackets}
use Rattle.rehearsal_page.specs.Parts.{Adds, AreWritten, markup_of}
use Rattle.rehearsal_page.proofs.parts.put_parts.Given as goal

abbrev pub invariant-loop-part : goal.invariant-loop-part
invariant-loop-part l =
    Adds (AreWritten (take l.part-index l.parts)) l.initial.out.items l.out.items ×
    (brackets l.out.items ≡ brackets l.initial.out.items ++ brackets (markup_of (take l.part-index l.parts)))
