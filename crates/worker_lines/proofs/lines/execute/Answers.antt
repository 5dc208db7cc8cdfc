-- What the line says is done.
use Rattle.std.proofs.Common.{◌++◌, [], IfOk, None, ap, refl, subst, sym, ◌∙◌}
use Rattle.std.proofs.lemmas.List.{append-nil}
use Rattle.std.specs.Option.{option_copied}
use Rattle.shell_answers.specs.Answers.{fixed}
use Rattle.shell_answers.specs.declared.fixed.Fixed.TheVariants as words
use Rattle.shell_requests.specs.Request.{Spoken, silent, spoken}
use Rattle.worker_lines.specs.Asking.{IsAnswered}
use Rattle.worker_lines.specs.Execution.{ExecutesLine}
use Rattle.worker_lines.proofs.Heard.{IfOk-then, alone-told, told-alone}
use Rattle.worker_lines.proofs.lines.execute.Goals as goal

pub returns-in_default : goal.returns-in_default
returns-in_default g c =
    let files = c.args.office.now.files.now in
    let seat = c.args.seat.now in
    let says = ap (λ o. spoken (option_copied o)) c.in_default.is in
    subst (λ (w : Spoken). IfOk c.say.result (λ fate. IsAnswered (ExecutesLine files seat w fate) seat seat c.args.out.now.items c.say.new.out.items)) (sym says) (IfOk-then c.say.result _ _ c.say.ensures (λ fate told. alone-told (fixed words.LineTooLong) seat c.args.out.now.items c.say.new.out.items fate told))

pub returns-in-Silent : goal.returns-in-Silent
returns-in-Silent g c =
    let files = c.args.office.now.files.now in
    let seat = c.args.seat.now in
    let says = c.in-Silent.ensures ∙ ap (λ o. spoken (option_copied o)) (sym c.in-Some.is) in
    subst (λ (w : Spoken). IsAnswered (ExecutesLine files seat w None) seat seat c.args.out.now.items c.args.out.now.items) says (told-alone (ExecutesLine files seat silent None) seat c.args.out.now.items c.args.out.now.items [] (refl, refl, refl) (sym (append-nil c.args.out.now.items)))

pub returns-in-Unknown : goal.returns-in-Unknown
returns-in-Unknown g c =
    let files = c.args.office.now.files.now in
    let seat = c.args.seat.now in
    let says = c.in-Unknown.ensures ∙ ap (λ o. spoken (option_copied o)) (sym c.in-Some.is) in
    subst (λ (w : Spoken). IfOk c.say-in-Unknown.result (λ fate. IsAnswered (ExecutesLine files seat w fate) seat seat c.args.out.now.items c.say-in-Unknown.new.out.items)) says (IfOk-then c.say-in-Unknown.result _ _ c.say-in-Unknown.ensures (λ fate told. alone-told (fixed words.BadCommand) seat c.args.out.now.items c.say-in-Unknown.new.out.items fate told))

pub returns-in-Asks : goal.returns-in-Asks
returns-in-Asks g c =
    let files = c.args.office.now.files.now in
    let seat = c.args.seat.now in
    let says = c.in-Asks.ensures ∙ ap (λ o. spoken (option_copied o)) (sym c.in-Some.is) in
    subst (λ (w : Spoken). IfOk c.execute_request.result (λ fate. IsAnswered (ExecutesLine files seat w fate) seat c.execute_request.new.seat c.args.out.now.items c.execute_request.new.out.items)) says c.execute_request.ensures
