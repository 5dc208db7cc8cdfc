-- This one has several, or none so far has.
use Rattle.std.proofs.Common.{◌≡◌, ◌∙◌, Some, ap, slice_get, sym}
use Rattle.std.specs.Option.{option_copied}
use Rattle.node_questions.proofs.Asked.{none_next, some_passes}
use Rattle.node_questions.specs.Outlooks.{has_several}
use Rattle.node_questions.proofs.outlook.is_several.Goals as goal

pub returns-then-has_several : goal.returns-then-has_several
returns-then-has_several c =
    let apps = c.args.apps.now in
    let app = c.in-Some.app.now in
    let is : slice_get apps c.loop-index.index ≡ Some app = sym c.app.ensures ∙ ap option_copied c.in-Some.is in
    sym (some_passes (has_several c.args.name.now) apps c.loop-index.index app is (sym c.has_several.ensures ∙ c.if-has_several.true))

pub loop-index-preserved : goal.loop-index-preserved
loop-index-preserved c =
    let apps = c.args.apps.now in
    let app = c.in-Some.app.now in
    let is : slice_get apps c.loop-index.index ≡ Some app = sym c.app.ensures ∙ ap option_copied c.in-Some.is in
    none_next (has_several c.args.name.now) apps c.loop-index.index app is c.loop-index.invariant
    (sym c.has_several.ensures ∙ c.if-has_several.false)
