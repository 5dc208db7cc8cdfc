-- Both lists are as required.
use Rattle.std.proofs.Common.{◌↔◌, Contains, List, subst}
use Rattle.low_instructions.specs.declared.low.Low.{Low}
use Rattle.rehearse.proofs.Found.{found_in_both}
use Rattle.upgrade_review.specs.Findings.{IsFound}
use Rattle.upgrade_review.specs.declared.finding.Finding.{Finding}
use Rattle.rehearse.proofs.reporting.find_in_releases.Goals as goal

pub returns : goal.returns
returns c =
    let chosen = c.args.chosen.now in
    let up = subst (λ (script : List Low). (f : Finding) → Contains c.in_ok-found.found.items f ↔ IsFound chosen.from chosen.to script f)
    c.up.ensures c.in_ok-found.ensures.found in
    found_in_both _ _ _ _ _ c.in_ok-append.ensures.items up c.in_ok-in_modules.ensures
