-- It is looked up on both.
use Rattle.std.proofs.Common.{OnOk, Option, subst}
use Rattle.std.specs.Option.{option_copied}
use Rattle.erl_ir.specs.Module.{Forms}
use Rattle.upgrade_review.specs.Gathering.{Adds}
use Rattle.node_questions.specs.Parts.{HasOtherCode}
use Rattle.node_questions.specs.Running.{code_of}
use Rattle.node_questions.proofs.comparing.note_code.Goals as goal

pub returns : goal.returns
returns c =
    let m = c.args.name.now in
    let old = c.args.found.now.items in
    let new = c.note_code_of.new.found.items in
    subst (λ (o : Option Forms). OnOk c.note_code_of.result (Adds (HasOtherCode m o (code_of m c.args.booted.now)) old new))
    c.code_of.ensures
    (subst (λ (o : Option Forms). OnOk c.note_code_of.result (Adds (HasOtherCode m (option_copied c.code_of.result) o) old new))
    c.code_of-2.ensures c.note_code_of.ensures)
