-- What is asked is told; of what only the stepped mode tells, that.
use Rattle.std.proofs.Common.{IfOk, subst, sym}
use Rattle.shell_answers.specs.Answers.{fixed}
use Rattle.shell_answers.specs.declared.fixed.Fixed.TheVariants as words
use Rattle.shell_requests.specs.declared.request.Question.{Question}
use Rattle.worker_lines.specs.Asking.{IsAnswered}
use Rattle.worker_lines.specs.Execution.{Asks}
use Rattle.worker_lines.proofs.Heard.{IfOk-then, alone-told}
use Rattle.worker_lines.proofs.asking.tell.Goals as goal

pub returns-in-Modules : goal.returns-in-Modules
returns-in-Modules g c =
    let seat = c.args.seat.now in
    let text = c.args.out.now.items in
    let out = c.say.new.out.items in
    subst (λ (q : Question). IfOk c.say.result (λ fate. IsAnswered (Asks q fate) seat seat text out)) (sym c.in-Modules.is) (IfOk-then c.say.result _ _ c.say.ensures (λ fate told. alone-told (fixed words.SteppedOnly) seat text out fate told))

pub returns-in-Apps : goal.returns-in-Apps
returns-in-Apps g c =
    let seat = c.args.seat.now in
    let text = c.args.out.now.items in
    let out = c.say-in-Apps.new.out.items in
    subst (λ (q : Question). IfOk c.say-in-Apps.result (λ fate. IsAnswered (Asks q fate) seat seat text out)) (sym c.in-Apps.is) (IfOk-then c.say-in-Apps.result _ _ c.say-in-Apps.ensures (λ fate told. alone-told (fixed words.SteppedOnly) seat text out fate told))
