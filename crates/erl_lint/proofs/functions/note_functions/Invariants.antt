-- The functions so far are noted, and the first fault with them.
use Rattle.std.proofs.Common.{◌≡◌, take}
use Rattle.erl_lint.specs.First.{soonest}
use Rattle.erl_lint.specs.Keys.{with_forms, duplicates}
use Rattle.erl_lint.proofs.functions.note_functions.Given as goal

abbrev pub invariant-loop-form : goal.invariant-loop-form
invariant-loop-form l =
    (l.found ≡ soonest l.fn.first (duplicates l.fn.functions.keys (take l.form-index l.forms))) ×
    (l.functions.keys ≡ with_forms l.fn.functions.keys (take l.form-index l.forms))
