-- Both lists are as required.
use Rattle.std.proofs.Common.{◌↔◌, Contains, List, Option, subst}
use Rattle.low_instructions.specs.declared.low.Low.{Low}
use Rattle.low_instructions.specs.declared.modules.Direction.TheVariants.{Up}
use Rattle.rehearse.proofs.Found.{found_in_both}
use Rattle.rehearse.specs.Reporting.{IsOnPassage, IsOnPassageDown}
use Rattle.upgrade_review.specs.declared.finding.Finding.{Finding}
use Rattle.rehearse.proofs.reporting.find_on_scripts.Goals as goal

pub returns : goal.returns
returns c =
    let chosen = c.args.chosen.now in
    let left = c.args.left.now in
    let installed = c.args.installed.now in
    let up = subst (λ (script : List Low). (f : Finding) → Contains c.in_ok-found.found.items f ↔
    IsOnPassage Up chosen.from left installed script f) c.up.ensures c.in_ok-found.ensures in
    let down = subst (λ (script : Option (List Low)). (f : Finding) → Contains c.in_ok-down.down.items f ↔
    IsOnPassageDown chosen.to left installed script f) c.down.ensures c.in_ok-down.ensures in
    found_in_both _ _ _ _ _ c.in_ok-append.ensures.items up down
