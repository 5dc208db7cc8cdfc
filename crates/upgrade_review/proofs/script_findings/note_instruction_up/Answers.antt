-- It is loaded.
use Rattle.std.proofs.Common.{OnOk, sym, subst}
use Rattle.low_instructions.specs.declared.low.Low.{Low}
use Rattle.upgrade_review.specs.Gathering.{Adds, IsNotUndoneAt}
use Rattle.upgrade_review.proofs.script_findings.note_instruction_up.Goals as goal

pub returns-in-Load : goal.returns-in-Load
returns-in-Load c =
    let old = c.args.found.now.items in
    let new = c.note_load_up.new.found.items in
    subst (λ (low : Low). OnOk c.note_load_up.result (Adds (IsNotUndoneAt c.args.down.now c.args.index low) old new))
    (sym c.in-Load.is) c.note_load_up.ensures
