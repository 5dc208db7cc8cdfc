-- Errors that are passed on.
use Rattle.std.proofs.Common.{◌≡◌, Result, Ok, Err, IfErr, sym, subst}
use Rattle.std.specs.Prelude.{IsErr, IsErrAnd}

pub passed_on : {T E : Type 0} (Q : E → Type 0) (r : Result T E) (e : E) → IsErr r × IsErrAnd r (λ y. y ≡ e) → Q e → IfErr r Q
passed_on Q (Ok x) e is why = absurd is.1
passed_on Q (Err y) e is why = subst Q (sym is.1) why
