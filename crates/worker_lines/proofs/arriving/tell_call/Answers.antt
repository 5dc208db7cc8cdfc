-- The reply is told, or why there is none.
use Rattle.std.proofs.Common.{◌++◌, ap, ◌∙◌}
use Rattle.std.proofs.lemmas.Str.{chars-nil}
use Rattle.shell_answers.specs.Answers.{line_of}
use Rattle.shell_answers.specs.Refusals.{Subject, naming}
use Rattle.worker_lines.specs.Telling.{work_told}
use Rattle.worker_lines.proofs.Heard.{IfOk-then}
use Rattle.worker_lines.proofs.Waiting.{call-told, uncalled-told}
use Rattle.worker_lines.proofs.arriving.tell_call.Goals as goal

pub returns-in-Ok : goal.returns-in-Ok
returns-in-Ok g c =
    IfOk-then c.say_reply.result _ _ c.say_reply.ensures (λ fate told. call-told c.args.name c.args.term c.args.seat.now c.call.new.seat c.args.out.now.items c.say_reply.new.out.items fate c.in-Ok.reply c.in-Ok.ensures.called told)

pub returns-in-Err : goal.returns-in-Err
returns-in-Err g c =
    let text = c.args.out.now.items in
    IfOk-then c.tell_unworked.result _ _ c.tell_unworked.ensures (λ fate told. uncalled-told c.args.name c.args.term c.args.seat.now c.call.new.seat text c.tell_unworked.new.out.items fate c.in-Err.error c.in-Err.ensures.fails (told.0, told.1 ∙ ap (λ (a : Subject). text ++ line_of (work_told a c.in-Err.error)) (c.naming-about.ensures ∙ ap naming chars-nil)))
