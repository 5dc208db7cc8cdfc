-- The children of the next application are appended.
use Rattle.std.proofs.Common.{◌≡◌, ◌∙◌, ◌++◌, Some, ap, slice_get, sym}
use Rattle.std.specs.Option.{option_copied}
use Rattle.node_questions.proofs.Asked.{pieces_next}
use Rattle.node_questions.specs.Outlooks.{temporary_in}
use Rattle.node_questions.proofs.outlook.temporary_among.Goals as goal

pub loop-index-preserved : goal.loop-index-preserved
loop-index-preserved c =
    let apps = c.args.apps.now in
    let app = c.in-Some.app.now in
    let modules = c.args.modules.now in
    let is : slice_get apps c.loop-index.index ≡ Some app = sym c.app.ensures ∙ ap option_copied c.in-Some.is in
    c.in_ok-push_temporary_in.ensures ∙ ap (λ xs. xs ++ temporary_in modules app) c.loop-index.invariant
    ∙ sym (pieces_next (temporary_in modules) apps c.loop-index.index app is)
