-- The forms that were read stand before those that are left.
use Rattle.std.proofs.Common.{◌≡◌, ◌+◌, ◌-◌, length}
use Rattle.erl_ast.specs.Terminal.{terminals}
use Rattle.module_forms.specs.FormReading.{all_forms, forms_from}
use Rattle.module_forms.proofs.FirstFault.{AreRead}
use Rattle.module_forms.proofs.module.forms.Given as goal

abbrev pub invariant-loop-turn : goal.invariant-loop-turn
invariant-loop-turn l =
    (all_forms (terminals l.tokens) ≡ forms_from (length l.tokens + 1 - l._turn) l.forms.items (terminals l.left)) ×
    AreRead l.tokens l.left l.forms.items l._turn
