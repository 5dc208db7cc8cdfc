-- First the name, and then the state.
use Rattle.node_questions.proofs.Turns.{noted_both}
use Rattle.node_questions.specs.Parts.{IsOtherName, IsOtherState}
use Rattle.node_questions.proofs.comparing.note_process.Goals as goal

pub returns : goal.returns
returns c =
    let app = c.args.app.now in
    let id = c.args.id.now in
    let q = c.args.upgraded.now in
    let p = c.args.booted.now in
    noted_both c.note_state.result (IsOtherName app id q p) (IsOtherState app id q p) _ _ _ c.in_ok-note_name.ensures
    c.note_state.ensures
