-- The next item, and then none is left.
use Rattle.std.proofs.Common.{◌≤◌, ℕ, length, arith}
use Rattle.code_server.specs.Modules.{Entry}
use Rattle.erl_ir.specs.Module.{Forms}
use Rattle.upgrade_review.proofs.Adding.{ends}
use Rattle.node_questions.proofs.Noted.{module_turn}
use Rattle.node_questions.specs.Parts.{DiffersInCode}
use Rattle.node_questions.specs.declared.comparing.Difference.{Difference}
use Rattle.node_questions.proofs.comparing.note_upgraded_code.Goals as goal

pub loop-index-preserved : goal.loop-index-preserved
loop-index-preserved c =
    module_turn c.args.upgraded.now c.args.booted.now c.args.upgraded.now.entries c.loop-index.index c.entry.result _ _ _ _
    c.entry.ensures
    c.in-Some.is c.loop-index.invariant c.in_ok-note_code.ensures

pub returns : goal.returns
returns c =
    let R : ℕ → Entry Forms → Difference → Type 0 = λ i e. DiffersInCode c.args.upgraded.now c.args.booted.now e.0 in
    let entries = c.args.upgraded.now.entries in
    let all : length entries ≤ c.loop-index.index = omega (arith, c.len-index-end.ensures.len) in
    ends R entries _ _ _ all c.loop-index.invariant
