-- The version that runs, and the script, are those of the releases.
use Rattle.std.proofs.Common.{ap, sym, ◌∙◌}
use Rattle.std.specs.Str.{chars}
use Rattle.shell_upgrades.specs.Upgrades.{version_in}
use Rattle.shell_upgrades.proofs.altering.subject_in.Goals as goal

pub returns : goal.returns
returns c =
    let runs = c.as_str-running.ensures.chars ∙ ap version_in (sym c.running.ensures) in
    (λ i. record { vsn = chars c.args.vsn.now; running = runs i; script = c.script_of-script.ensures i })
