-- The instructions are those of the script that is found.
use Rattle.std.proofs.Common.{ap, sym, ◌∙◌}
use Rattle.std.specs.Option.{option_copied}
use Rattle.shell_upgrades.specs.Upgrades.{script_in}
use Rattle.shell_upgrades.proofs.altering.script_of.Goals as goal

pub returns-in-Some : goal.returns-in-Some
returns-in-Some c =
    c.as_slice.ensures ∙ ap (λ o. script_in (option_copied o)) (sym c.in-Some.is) ∙ ap script_in c.script_to.ensures

pub returns-in-None : goal.returns-in-None
returns-in-None c = ap (λ o. script_in (option_copied o)) (sym c.in-None.is) ∙ ap script_in c.script_to.ensures
