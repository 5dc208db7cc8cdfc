-- It is told by the releases, or that there is no memory for them.
use Rattle.std.proofs.Common.{◌++◌, List, reverse, ap, ◌∙◌}
use Rattle.std.specs.Str.{chars}
use Rattle.release_statuses.specs.declared.listed.Listed.{Listed}
use Rattle.shell_answers.specs.Answers.{line_of}
use Rattle.shell_exec.specs.Upgrades.{subject_in}
use Rattle.worker_lines.specs.Telling.{work_told}
use Rattle.shell_answers.specs.Refusals.{Subject}
use Rattle.worker_lines.proofs.Heard.{IfOk-then}
use Rattle.worker_lines.proofs.Waiting.{refused-told, unread-told, unwritten-told}
use Rattle.worker_lines.proofs.installing.tell_by_releases.Goals as goal

pub returns-in-Err : goal.returns-in-Err
returns-in-Err g c =
    IfOk-then c.tell_error_of.result _ _ c.tell_error_of.ensures (λ fate told. λ start by fails. unread-told (chars c.args.vsn.now) start c.args.seat.now c.which.new.seat c.args.error c.args.out.now.items c.tell_error_of.new.out.items fate by fails c.in-Err.unread _ c.in-Err.ensures told)

pub returns-in_default : goal.returns-in_default
returns-in_default g c =
    IfOk-then c.refuse.result _ _ c.refuse.ensures (λ fate told. λ start by fails. unwritten-told (chars c.args.vsn.now) start c.args.seat.now c.which.new.seat c.args.error c.args.out.now.items c.refuse.new.out.items fate by fails _ c.in-Ok.ensures.1 told)

pub returns : goal.returns
returns g c =
    let vsn = chars c.args.vsn.now in
    let text = c.args.out.now.items in
    let known = c.in-Ok-listed_from_first.releases.items in
    let listed = c.in-Ok.releases in
    let about = c.subject_in-about.ensures ∙ ap (λ (rs : List Listed). subject_in vsn rs) c.as_slice-2.ensures.value in
    let is = c.in-Ok-listed_from_first.ensures ∙ ap (λ (rs : List Listed). reverse rs) (c.as_slice.ensures ∙ c.get.ensures) in
    IfOk-then c.tell_unworked.result _ _ c.tell_unworked.ensures (λ fate told. λ start by fails. refused-told vsn start c.args.seat.now c.which.new.seat c.args.error text c.tell_unworked.new.out.items fate by fails listed known is c.in-Ok.ensures.1 (told.0, told.1 ∙ ap (λ (a : Subject). text ++ line_of (work_told a c.args.error)) about))
