-- Whether there is code after the upgrade.
use Rattle.std.proofs.Common.{Option}
use Rattle.std.specs.Option.{option_copied}
use Rattle.erl_ir.specs.Module.{Forms}
use Rattle.node_questions.proofs.Noted.{by_option}
use Rattle.node_questions.specs.Parts.{HasOtherCode}
use Rattle.node_questions.specs.declared.comparing.Difference.{Difference}
use Rattle.node_questions.proofs.comparing.note_code_of.Goals as goal

pub returns-in-Some : goal.returns-in-Some
returns-in-Some c =
    let P : Option Forms → Difference → Type 0 = λ o. HasOtherCode c.args.name.now o (option_copied c.args.booted) in
    by_option c.note_current.result P c.args.upgraded _ _ _ c.in-Some.is c.note_current.ensures

pub returns-in-None : goal.returns-in-None
returns-in-None c =
    let P : Option Forms → Difference → Type 0 = λ o. HasOtherCode c.args.name.now o (option_copied c.args.booted) in
    by_option c.note_missing.result P c.args.upgraded _ _ _ c.in-None.is c.note_missing.ensures
