-- The next item, and then none is left.
use Rattle.std.proofs.Common.{◌≡◌, ◌∙◌, ◌≤◌, ℕ, Some, length, ap, sym, arith}
use Rattle.std.specs.List.{slice_get}
use Rattle.std.specs.Option.{option_copied}
use Rattle.app_table.specs.Applications.{Application}
use Rattle.upgrade_review.proofs.Adding.{ends}
use Rattle.node_questions.proofs.Turns.{goes_on_at}
use Rattle.node_questions.specs.Parts.{StaysAfterUpgrade}
use Rattle.node_questions.specs.declared.comparing.Difference.{Difference}
use Rattle.node_questions.proofs.comparing.note_upgraded_apps.Goals as goal

pub loop-index-preserved : goal.loop-index-preserved
loop-index-preserved c =
    let R : ℕ → Application → Difference → Type 0 =
    λ i a. StaysAfterUpgrade c.args.booted.now a in
    let apps = c.args.upgraded.now in
    let app : Application = c.in-Some.app.now in
    let is : slice_get apps c.loop-index.index ≡ Some app = sym c.app.ensures ∙ ap option_copied c.in-Some.is in
    goes_on_at R apps _ app _ _ _ is c.loop-index.invariant c.in_ok-note_upgraded_app.ensures

pub returns : goal.returns
returns c =
    let R : ℕ → Application → Difference → Type 0 =
    λ i a. StaysAfterUpgrade c.args.booted.now a in
    let apps = c.args.upgraded.now in
    let all : length apps ≤ c.loop-index.index = omega arith in
    ends R apps _ _ _ all c.loop-index.invariant
