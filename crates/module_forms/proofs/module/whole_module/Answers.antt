-- A refusal is told of the head, or of the first form that is none.
use Rattle.std.proofs.Common.{◌≡◌, ◌≤◌, length, Some, None}
use Rattle.erl_ast.specs.Terminal.{terminals}
use Rattle.erl_expressions.specs.Refusing.{IsToldOf}
use Rattle.module_forms.specs.FirstFault.{FaultsBehind}
use Rattle.module_forms.specs.FormReading.{module_head}
use Rattle.module_forms.proofs.FirstFault.{told_at_head, told_behind_head}
use Rattle.module_forms.proofs.module.whole_module.Goals as goal

pub returns-in-Err-clause-told : goal.returns-in-Err-clause-told
returns-in-Err-clause-told c =
    let nothing : module_head (terminals c.args.tokens.now) ≡ None = rw c.in-Err.is at c.in_ok-found.ensures.read in
    let told : IsToldOf c.args.tokens.now c.in-Err.refusal = rw c.in-Err.is at c.in_ok-found.ensures.told in
    told_at_head c.args.tokens.now c.in-Err.refusal nothing told

pub returns-in-Err-2-clause-told : goal.returns-in-Err-2-clause-told
returns-in-Err-2-clause-told c =
    let found : module_head (terminals c.args.tokens.now) ≡ Some (c.in-Ok.found.0, terminals c.in-Ok.found.1.now) =
    rw c.in-Ok.is at c.in_ok-found.ensures.read in
    let fewer : length c.in-Ok.found.1.now ≤ length c.args.tokens.now = rw c.in-Ok.is at c.in_ok-found.ensures.told in
    let faults : FaultsBehind (terminals c.in-Ok.found.1.now) c.in-Err-2.refusal = rw c.in-Err-2.is at c.in_ok-forms.ensures.told in
    told_behind_head c.args.tokens.now c.in-Ok.found.1.now c.in-Ok.found.0 c.in-Err-2.refusal found fewer faults
