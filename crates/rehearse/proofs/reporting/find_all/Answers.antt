-- The scripts are those of the releases.
use Rattle.std.proofs.Common.{◌↔◌, Contains, List, Option, subst}
use Rattle.std.specs.Option.{option_copied}
use Rattle.low_instructions.specs.declared.low.Low.{Low}
use Rattle.upgrade_files.specs.Choosing.{up_of}
use Rattle.upgrade_review.specs.Findings.{IsAmiss}
use Rattle.upgrade_review.specs.declared.finding.Finding.{Finding}
use Rattle.rehearse.proofs.reporting.find_all.Goals as goal

pub returns-clause-amiss : goal.returns-clause-amiss
returns-clause-amiss c =
    let chosen = c.args.chosen.now in
    let up = subst (λ (script : List Low). (f : Finding) → Contains c.in_ok-amiss.amiss.items f ↔
    IsAmiss script (option_copied c.down.result) f) c.up.ensures c.in_ok-amiss.ensures.found in
    subst (λ (script : Option (List Low)). (f : Finding) → Contains c.in_ok-amiss.amiss.items f ↔
    IsAmiss (up_of chosen.from chosen.to) script f) c.down.ensures up
