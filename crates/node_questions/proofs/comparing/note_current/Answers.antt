-- Whether there is code after the boot.
use Rattle.std.proofs.Common.{Option, Some}
use Rattle.erl_ir.specs.Module.{Forms}
use Rattle.node_questions.proofs.Noted.{by_option}
use Rattle.node_questions.specs.Parts.{HasOtherCode}
use Rattle.node_questions.specs.declared.comparing.Difference.{Difference}
use Rattle.node_questions.proofs.comparing.note_current.Goals as goal

pub returns-in-Some : goal.returns-in-Some
returns-in-Some c =
    let P : Option Forms → Difference → Type 0 = HasOtherCode c.args.name.now (Some c.args.upgraded.now) in
    by_option c.note_other_code.result P c.args.booted _ _ _ c.in-Some.is c.note_other_code.ensures

pub returns-in-None : goal.returns-in-None
returns-in-None c =
    let P : Option Forms → Difference → Type 0 = HasOtherCode c.args.name.now (Some c.args.upgraded.now) in
    by_option c.note_staying_code.result P c.args.booted _ _ _ c.in-None.is c.note_staying_code.ensures
