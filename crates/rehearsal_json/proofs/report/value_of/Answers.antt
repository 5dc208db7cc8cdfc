-- The word is that of the verdict.
use Rattle.std.proofs.Common.{Result, Ok, Err, IfOk, subst}
use Rattle.serde_json.specs.View.{view}
use Rattle.rehearsal_json.specs.Json.{HasWord}
use Rattle.rehearsal_json.proofs.report.value_of.Goals as goal

ok_then : {T E : Type 0} (r : Result T E) (P Q : T → Type 0) → ((x : T) → P x → Q x) → IfOk r P → IfOk r Q
ok_then (Ok x) P Q then p = then x p
ok_then (Err e) P Q then p = tt

pub returns : goal.returns
returns c = ok_then c.object_of.result _ _
    (λ value has. (c.verdict_of-verdict.result, c.verdict_of-verdict.ensures, subst (λ word. HasWord word (view value)) c.verdict_word.ensures has))
    c.object_of.ensures
