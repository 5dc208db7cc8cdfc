-- What the line says is done.
use Rattle.std.proofs.Common.{IfOk, None, ap, refl, subst, sym, ◌∙◌}
use Rattle.std.specs.Option.{option_copied}
use Rattle.shell_upgrades.proofs.Done.{IfOk-then, nothing}
use Rattle.shell_exec.specs.Execution.{ExecutesLine}
use Rattle.shell_upgrades.specs.Done.{IsDone}
use Rattle.shell_requests.specs.Request.{Spoken, spoken}
use Rattle.shell_exec.proofs.lines.execute.Goals as goal

pub returns-in_default : goal.returns-in_default
returns-in_default c =
    let s = c.args.held.now in
    let says = ap (λ o. spoken (option_copied o)) c.in_default.is in
    subst (λ (w : Spoken). IfOk c.say.result (λ fate. IsDone (ExecutesLine fate s w) s c.args.out.now.items c.say.new.out.items)) (sym says) (IfOk-then c.say.result _ _ c.say.ensures (λ fate told. (_, (told.0, refl), refl, told.1)))

pub returns-in-Silent : goal.returns-in-Silent
returns-in-Silent c =
    let s = c.args.held.now in
    let says = c.in-Silent.ensures ∙ ap (λ o. spoken (option_copied o)) (sym c.in-Some.is) in
    subst (λ (w : Spoken). IsDone (ExecutesLine None s w) s c.args.out.now.items c.args.out.now.items) says (_, (refl, refl), refl, nothing c.args.out.now.items)

pub returns-in-Unknown : goal.returns-in-Unknown
returns-in-Unknown c =
    let s = c.args.held.now in
    let says = c.in-Unknown.ensures ∙ ap (λ o. spoken (option_copied o)) (sym c.in-Some.is) in
    subst (λ (w : Spoken). IfOk c.say-in-Unknown.result (λ fate. IsDone (ExecutesLine fate s w) s c.args.out.now.items c.say-in-Unknown.new.out.items)) says (IfOk-then c.say-in-Unknown.result _ _ c.say-in-Unknown.ensures (λ fate told. (_, (told.0, refl), refl, told.1)))

pub returns-in-Asks : goal.returns-in-Asks
returns-in-Asks c =
    let s = c.args.held.now in
    let says = c.in-Asks.ensures ∙ ap (λ o. spoken (option_copied o)) (sym c.in-Some.is) in
    subst (λ (w : Spoken). IfOk c.execute_request.result (λ fate. IsDone (ExecutesLine fate s w) c.execute_request.new.held c.args.out.now.items c.execute_request.new.out.items)) says c.execute_request.ensures
