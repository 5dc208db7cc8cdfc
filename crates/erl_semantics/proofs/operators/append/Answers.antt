-- What stands behind terms is no list.
use Rattle.std.proofs.Common.{◌≡◌, IfOk, subst}
use Rattle.erl_term.specs.Tree.{none}
use Rattle.erl_semantics.specs.Given.{result_of}
use Rattle.erl_semantics.proofs.Rows.{appended_else}
use Rattle.erl_semantics.proofs.operators.append.Goals as goal

pub returns-in-None : goal.returns-in-None
returns-in-None c =
    let some = λ (e : c.in-Some.front.now ≡ none). let is = c.is_empty.ensures.1 e in let not = c.if-is_empty.false in let no : ⊥ = cc in no in
    subst (λ r. IfOk c.exit_by-in-None.result (λ it. result_of it ≡ r)) (appended_else _ _ c.in-Some.front.now c.in-Some.ensures some c.in-None.ensures) c.exit_by-in-None.ensures
