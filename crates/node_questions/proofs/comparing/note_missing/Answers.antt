-- Whether there is code after the boot.
use Rattle.std.proofs.Common.{None, Option}
use Rattle.erl_ir.specs.Module.{Forms}
use Rattle.node_questions.proofs.Noted.{by_none, by_option}
use Rattle.node_questions.specs.Parts.{HasOtherCode}
use Rattle.node_questions.specs.declared.comparing.Difference.{Difference}
use Rattle.node_questions.proofs.comparing.note_missing.Goals as goal

pub returns-in-Some : goal.returns-in-Some
returns-in-Some c =
    let P : Option Forms → Difference → Type 0 = HasOtherCode c.args.name.now None in
    by_option c.note_missing_code.result P c.args.booted _ _ _ c.in-Some.is c.note_missing_code.ensures

pub returns-in-None : goal.returns-in-None
returns-in-None c =
    let P : Option Forms → Difference → Type 0 = HasOtherCode c.args.name.now None in
    by_none P c.args.booted _ c.in-None.is (λ d w. w)
