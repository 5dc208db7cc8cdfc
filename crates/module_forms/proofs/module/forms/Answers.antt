-- The form that was read stands behind the others, and a refusal is told of the form that stands behind all that were read.
use Rattle.std.proofs.Common.{◌≡◌, ◌+◌, ◌-◌, ◌<◌, false, List, [], ◌∷◌, ◌++◌, length, Some, None, subst, sym, ◌∙◌, arith}
use Rattle.erl_ast.specs.declared.form.FormTree.{FormTree}
use Rattle.erl_ast.specs.Terminal.{terminals}
use Rattle.erl_expressions.specs.Refusing.{IsToldOf}
use Rattle.module_forms.specs.FormReading.{form, all_forms, forms_from, is_end}
use Rattle.module_forms.proofs.FirstFault.{AreRead, one_is_read, told_in_form}
use Rattle.module_forms.proofs.Rows.{forms_next}
use Rattle.module_forms.proofs.module.forms.Goals as goal

pub returns-in-Err-clause-told : goal.returns-in-Err-clause-told
returns-in-Err-clause-told c =
    let nothing : form (terminals c.loop-turn.left.now) ≡ None = rw c.in-Err.is at c.in_ok-it.ensures.read in
    let told : IsToldOf c.loop-turn.left.now c.in-Err.refusal = rw c.in-Err.is at c.in_ok-it.ensures.told in
    told_in_form c.args.tokens.now c.loop-turn.left.now c.loop-turn.forms.items c.loop-turn._turn c.in-Err.refusal
    c.loop-turn.invariant.1 nothing told

pub loop-turn-preserved : goal.loop-turn-preserved
loop-turn-preserved c =
    let all = c.args.tokens.now in
    let left = c.loop-turn.left.now in
    let rest = c.in-Ok.rest.now in
    let fs = c.loop-turn.forms.items in
    let turn = c.loop-turn._turn in
    let found : form (terminals left) ≡ Some (c.in-Ok.it, terminals rest) = rw c.in-Ok.is at c.in_ok-it.ensures.read in
    let goes : is_end (terminals left) ≡ false = sym c.is_end.ensures ∙ c.if-is_end.false in
    let within : turn < length all + 1 = omega arith in
    let next = forms_next (length all + 1) turn fs (terminals left) c.in-Ok.it (terminals rest) within goes found in
    let there = one_is_read all left rest fs c.in-Ok.it turn c.loop-turn.invariant.1 found in
    let items : fs ++ c.in-Ok.it ∷ [] ≡ c.push.new.self.items = sym c.in_ok-push-in-Ok.ensures.items in
    subst (λ (gs : List FormTree). (all_forms (terminals all) ≡ forms_from (length all + 1 - (turn + 1)) gs (terminals rest)) ×
    AreRead all rest gs (turn + 1)) items (c.loop-turn.invariant.0 ∙ next, there)
