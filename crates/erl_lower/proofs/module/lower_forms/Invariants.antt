-- The functions so far, and those of the forms that are left, are all; so are their faults.
use Rattle.std.proofs.Common.{◌≡◌, ◌++◌}
use Rattle.std.specs.Vec.Iter.{into_iter_items}
use Rattle.erl_lint.specs.First.{soonest}
use Rattle.erl_lint.specs.Faults.{faults_in_forms}
use Rattle.erl_lower.specs.Meaning.{functions_in}
use Rattle.erl_lower.proofs.module.lower_forms.Given as goal

abbrev pub invariant-loop-form : goal.invariant-loop-form
invariant-loop-form l =
    (goal.iterator-loop-form).can_next l.form-iterator ×
    (goal.iterator-loop-form).is_finite l.form-iterator ×
    (l.builder ++ functions_in l.own l.exports.keys (into_iter_items l.form-iterator) ≡ functions_in l.own l.exports.keys l.fn.forms.items) ×
    (soonest l.found (faults_in_forms l.functions.keys (into_iter_items l.form-iterator)) ≡
    soonest l.fn.first (faults_in_forms l.functions.keys l.fn.forms.items))
