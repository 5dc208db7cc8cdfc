-- The interfaces are those of the releases.
use Rattle.std.proofs.Common.{◌∙◌, ◌↔◌, Contains, IfOk, List, Vec, subst}
use Rattle.rehearse.specs.Reporting.{IsFindingBy}
use Rattle.upgrade_review.specs.Interfaces.{interfaces_of}
use Rattle.upgrade_review.specs.declared.finding.Finding.{Finding}
use Rattle.upgrade_review.specs.declared.interface.Interface.{Interface}
use Rattle.rehearse.proofs.reporting.find_in_files.Goals as goal

pub returns : goal.returns
returns c =
    let chosen = c.args.chosen.now in
    let of_left = subst (λ (left : List Interface). IfOk c.find_between.result (λ found. (f : Finding) → Contains found.items f ↔
    IsFindingBy chosen.from chosen.to left c.as_slice-2.result.now f)) (c.as_slice.ensures.value ∙ c.in_ok-left.ensures) c.find_between.ensures in
    subst (λ (installed : List Interface). IfOk c.find_between.result (λ found. (f : Finding) → Contains found.items f ↔
    IsFindingBy chosen.from chosen.to (interfaces_of chosen.from) installed f)) (c.as_slice-2.ensures.value ∙ c.in_ok-installed.ensures) of_left
