-- The children of one application more in each turn.
use Rattle.std.proofs.Common.{◌++◌, ◌∙◌, ap, sym}
use Rattle.std.specs.Option.{option_copied}
use Rattle.console_answers.proofs.Taken.{flat_more}
use Rattle.console_answers.specs.Rows.{children_of}
use Rattle.console_answers.proofs.children.child_rows.Goals as goal

pub loop-index-preserved : goal.loop-index-preserved
loop-index-preserved c =
    let app = c.in-Some.app.now in
    let is = sym c.app.ensures ∙ ap option_copied c.in-Some.is in
    c.in_ok-push_children.ensures
    ∙ ap (λ rows. rows ++ children_of app) c.loop-index.invariant
    ∙ sym (flat_more children_of c.args.apps.now c.loop-index.index app is)
