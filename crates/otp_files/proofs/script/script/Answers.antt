-- Each turn reads one instruction more.
use Rattle.std.proofs.Common.{◌≡◌, Ok, sym, ◌∙◌}
use Rattle.erl_term.specs.Term.{tree, trees}
use Rattle.otp_files.specs.Reading.{script_from}
use Rattle.otp_files.proofs.Numbers.{script_more}
use Rattle.otp_files.proofs.script.script.Goals as goal

pub loop-term-preserved : goal.loop-term-preserved
loop-term-preserved g c =
    let here : Ok c.in-Ok.instruction ≡ g.T.FromInstruction.reading (tree c.term-item.result) = sym c.in-Ok.is ∙ c.in_ok-instruction.ensures in
    rw c.in_ok-push-in-Ok.ensures.items (script_more g.T.FromInstruction.reading c.args.row.now c.loop-term.term-index c.term-item.result c.in-Ok.instruction c.loop-term.number c.saturating_add-number.result c.loop-term.instructions.items (script_from g.T.FromInstruction.reading c.args.first (trees c.args.row.now)) c.loop-term-test.true c.term-item.is here (c.saturating_add-number.ensures) c.loop-term.invariant)
