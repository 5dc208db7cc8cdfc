-- The entries that were read stand before those that are left.
use Rattle.std.proofs.Common.{◌≡◌, ◌-◌, length}
use Rattle.erl_ast.specs.Terminal.{terminals}
use Rattle.erl_expressions.specs.declared.delimiter.Delimiter.TheVariants.{Comma}
use Rattle.erl_expressions.specs.Reading.{and_then, separated}
use Rattle.erl_expressions.specs.Refusing.{Leaves}
use Rattle.module_forms.specs.FormReading.{entry, some_entries, rest_of_entries}
use Rattle.module_forms.proofs.attributes.some_entries.Given as goal

abbrev pub invariant-loop-turn : goal.invariant-loop-turn
invariant-loop-turn l =
    (some_entries (terminals l.tokens) ≡
    and_then (separated Comma (length l.tokens - l._turn) entry (terminals l.left)) (rest_of_entries l.entries.items)) ×
    Leaves l.tokens l.left
