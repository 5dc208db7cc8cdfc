-- What is noted so far.
use Rattle.std.proofs.Common.{ℕ}
use Rattle.code_server.specs.Modules.{Entry}
use Rattle.erl_ir.specs.Module.{Forms}
use Rattle.upgrade_review.proofs.Adding.{UpTo}
use Rattle.upgrade_review.specs.Gathering.{Adds}
use Rattle.node_questions.specs.Parts.{DiffersInCode}
use Rattle.node_questions.proofs.comparing.note_upgraded_code.Given as goal

abbrev pub invariant-loop-index : goal.invariant-loop-index
invariant-loop-index l =
    let R = λ (i : ℕ) (entry : Entry Forms). DiffersInCode l.upgraded l.booted entry.0 in
    Adds (UpTo R l.upgraded.entries l.index) l.fn.found.items l.found.items
