-- One form more: its function stands behind those so far, and its faults behind theirs.
use Rattle.std.proofs.Common.{◌≡◌, ◌∷◌, ◌++◌, append_assoc, sym, ap, ◌∙◌}
use Rattle.std.proofs.lemmas.List.Sums.{fold-append}
use Rattle.std.specs.Option.{option_to_list}
use Rattle.std.specs.Vec.Iter.{into_iter_items}
use Rattle.erl_lint.specs.First.{sooner, soonest}
use Rattle.erl_lint.specs.Faults.{faults_in_form, faults_in_forms}
use Rattle.erl_lower.specs.Meaning.{function_of, functions_in}
use Rattle.erl_lower.proofs.module.lower_forms.Goals as goal

pub loop-form-preserved : goal.loop-form-preserved
loop-form-preserved c =
    let own = c.args.own.now in
    let exports = c.args.exports.now.keys in
    let functions = c.args.functions.now.keys in
    let form = c.in-Some.form in
    let rest = into_iter_items c.next.new.self in
    let left : into_iter_items c.loop-form.form-iterator ≡ form ∷ rest = c.in-Some.ensures.steps.0 in
    let before = c.loop-form.builder in
    let longer : c.in_ok-longer.longer ≡ before ++ option_to_list (function_of own exports form) =
    c.in_ok-longer.ensures ∙ ap (λ e. before ++ option_to_list e) c.in_ok-entry.ensures.entry in (
      tt,
      tt,
      ap (λ fs. fs ++ functions_in own exports rest) longer ∙
          append_assoc before (option_to_list (function_of own exports form)) (functions_in own exports rest) ∙
          ap (λ fs. before ++ functions_in own exports fs) (sym left) ∙ c.loop-form.invariant.2,
      ap (λ f. soonest f (faults_in_forms functions rest)) c.in_ok-entry.ensures.found ∙
          sym (fold-append sooner c.loop-form.found (faults_in_form functions form) (faults_in_forms functions rest)) ∙
          ap (λ fs. soonest c.loop-form.found (faults_in_forms functions fs)) (sym left) ∙ c.loop-form.invariant.3,
    )
