-- Results that may have failed.
use Rattle.std.specs.Prelude.{Result, Ok, Err, IfOk}

-- what follows of a value follows where there is one
pub if_ok : {A E : Type 0} (P Q : A → Type 0) (r : Result A E) → ((x : A) → P x → Q x) → IfOk r P → IfOk r Q
if_ok P Q (Ok x) then holds = then x holds
if_ok P Q (Err e) then holds = tt
