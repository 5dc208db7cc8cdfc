-- What is told of the text is told of its bytes.
use Rattle.std.proofs.Common.{rules, refl}
use Rattle.std.specs.Prelude.{IfErr}
use Rattle.erl_parse.specs.Telling.{Says, not_utf8}
use Rattle.erl_parse.proofs.Meanings.{errors_deny}
use Rattle.values.specs.Failure.{Fails}
use Rattle.erl_parse.proofs.source.read_module.Goals as goal

pub returns-in-Ok-clause-meaningless : goal.returns-in-Ok-clause-meaningless
returns-in-Ok-clause-meaningless c =
    let said : IfErr c.read_text.result (Fails (Says c.args.bytes.now) (Unit {0})) = search rules in
    errors_deny c.args.bytes.now c.read_text.result said

pub returns-in-Err-clause-refused : goal.returns-in-Err-clause-refused
returns-in-Err-clause-refused c = not_utf8 {at = c.valid_up_to.result} refl (search rules) (search rules)
