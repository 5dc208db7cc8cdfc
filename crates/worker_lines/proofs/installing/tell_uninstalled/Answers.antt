-- It is told by the releases, or by the version alone.
use Rattle.std.proofs.Common.{◌++◌, ap, sym, ◌∙◌}
use Rattle.std.specs.Str.{chars}
use Rattle.shell_answers.specs.Answers.{line_of}
use Rattle.shell_answers.specs.Refusals.{Subject}
use Rattle.worker_lines.specs.Telling.{work_told}
use Rattle.worker_lines.proofs.Heard.{IfOk-then}
use Rattle.worker_lines.proofs.Waiting.{uninstalled-told}
use Rattle.worker_lines.proofs.installing.tell_uninstalled.Goals as goal

pub returns : goal.returns
returns g c =
    let text = c.args.out.now.items in
    let by_vsn = sym c.wants_releases.ensures ∙ c.if-wants_releases.false in
    IfOk-then c.tell_unworked.result _ _ c.tell_unworked.ensures (λ fate told. λ start fails. uninstalled-told (chars c.args.vsn.now) start c.args.seat.now text c.tell_unworked.new.out.items fate c.args.error by_vsn fails (told.0, told.1 ∙ ap (λ (a : Subject). text ++ line_of (work_told a c.args.error)) c.naming-about.ensures))

pub returns-then-wants_releases : goal.returns-then-wants_releases
returns-then-wants_releases g c =
    IfOk-then c.tell_by_releases.result _ _ c.tell_by_releases.ensures (λ fate told. λ start fails. told start (sym c.wants_releases.ensures ∙ c.if-wants_releases.true) fails)
