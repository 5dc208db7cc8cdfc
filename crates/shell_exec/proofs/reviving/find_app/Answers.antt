-- None has the name, or the first that has it is found.
use Rattle.std.proofs.Common.{◌∙◌, ap, arith, sym}
use Rattle.std.specs.Str.{bytes_eq, chars}
use Rattle.otp_files.specs.declared.app.AppSpec.{AppSpec}
use Rattle.shell_exec.proofs.Finding.{app_found, no_app}
use Rattle.shell_exec.proofs.reviving.find_app.Goals as goal

pub returns-then-spells : goal.returns-then-spells
returns-then-spells c =
    let name = chars c.args.text.now in
    sym (app_found name c.args.apps.now c.loop-index.index c.in_ok-app.app.now c.loop-index.invariant (sym c.in_ok-app.ensures) (ap (λ (s : AppSpec). bytes_eq s.name name) (sym c.spec.ensures) ∙ sym c.spells.ensures ∙ c.if-spells.true))

pub returns : goal.returns
returns c =
    sym (no_app (chars c.args.text.now) c.args.apps.now (λ k x below. c.loop-index.invariant k x (omega (arith, below, c.loop-index-test.false, c.len-index-end.ensures))))
