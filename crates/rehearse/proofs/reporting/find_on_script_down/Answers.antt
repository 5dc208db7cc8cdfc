-- It is the script down.
use Rattle.std.proofs.Common.{◌↔◌, Bor, Contains, IfOk, List, Option, subst, sym}
use Rattle.std.specs.Option.{option_map}
use Rattle.low_instructions.specs.declared.low.Low.{Low}
use Rattle.rehearse.specs.Reporting.{IsOnPassageDown}
use Rattle.upgrade_review.specs.declared.finding.Finding.{Finding}
use Rattle.rehearse.proofs.reporting.find_on_script_down.Goals as goal

pub returns-in-Some : goal.returns-in-Some
returns-in-Some c =
    subst (λ (down : Option (Bor (List Low))). IfOk c.find_on_script.result (λ found. (f : Finding) → Contains found.items f ↔
    IsOnPassageDown c.args.release.now c.args.left.now c.args.installed.now (option_map (λ it. it.now) down) f)) (sym c.in-Some.is)
    c.find_on_script.ensures
