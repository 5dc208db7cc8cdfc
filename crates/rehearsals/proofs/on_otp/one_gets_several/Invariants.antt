-- None of those so far has received several.
use Rattle.std.proofs.Common.{◌<◌, ℕ}
use Rattle.rehearsals.specs.OnOtp.{GetsSeveral}
use Rattle.rehearsals.proofs.on_otp.one_gets_several.Given as goal

abbrev pub invariant-loop-pid : goal.invariant-loop-pid
invariant-loop-pid l = (p : ℕ) → p < l.pid → GetsSeveral l.before l.after p → ⊥
