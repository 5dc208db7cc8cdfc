-- One more.
use Rattle.std.proofs.Common.{◌≡◌, ◌∙◌, Bool, true, false, Some, ap, sym}
use Rattle.std.specs.List.{slice_get}
use Rattle.std.specs.Option.{option_copied}
use Rattle.app_table.specs.Applications.{Application}
use Rattle.node_questions.specs.Unsuspended.{is_known_by}
use Rattle.node_questions.proofs.Asked.{none_next, some_passes}
use Rattle.node_questions.proofs.unsuspended.is_known.Goals as goal

pub loop-index-preserved : goal.loop-index-preserved
loop-index-preserved c =
    let has : Application → Bool = is_known_by c.args.name.now in
    let app : Application = c.in-Some.app.now in
    let is : slice_get c.args.apps.now c.loop-index.index ≡ Some app = sym c.app.ensures ∙ ap option_copied c.in-Some.is in
    let fails : has app ≡ false =
    sym c.is_known_by.ensures ∙ c.if-is_known_by.false in
    none_next has c.args.apps.now c.loop-index.index app is c.loop-index.invariant fails

pub returns-then-is_known_by : goal.returns-then-is_known_by
returns-then-is_known_by c =
    let has : Application → Bool = is_known_by c.args.name.now in
    let app : Application = c.in-Some.app.now in
    let is : slice_get c.args.apps.now c.loop-index.index ≡ Some app = sym c.app.ensures ∙ ap option_copied c.in-Some.is in
    let passes : has app ≡ true =
    sym c.is_known_by.ensures ∙ c.if-is_known_by.true in
    sym (some_passes has c.args.apps.now c.loop-index.index app is passes)
