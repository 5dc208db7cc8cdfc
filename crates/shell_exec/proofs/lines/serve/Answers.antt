-- There is no such process, or it does what is asked.
use Rattle.std.proofs.Common.{ℕ, IfOk, Option, refl, subst}
use Rattle.shell_upgrades.proofs.Done.{IfOk-then}
use Rattle.shell_upgrades.specs.Serving.{ServesAs}
use Rattle.shell_upgrades.specs.Done.{IsDone}
use Rattle.shell_exec.proofs.lines.serve.Goals as goal

pub returns-in_default : goal.returns-in_default
returns-in_default c =
    let s = c.args.held.now in
    subst (λ (o : Option ℕ). IfOk c.say.result (λ fate. IsDone (ServesAs s c.args.service o fate) s c.args.out.now.items c.say.new.out.items)) c.in_default.ensures (IfOk-then c.say.result _ _ c.say.ensures (λ fate told. (_, (told.0, refl), refl, told.1)))
