-- The name, the number of arguments, whether it is exported, and the definition.
use Rattle.std.proofs.Common.{sym, ap, ◌∙◌}
use base.Stored.{gnum, gcons}
use Rattle.erl_term.specs.TreeCode.{chars_code}
use Rattle.erl_ir.specs.FormsCode.{definition_code, entry_code}
use Rattle.erl_ir.specs.OperationCode.{flag}
use Rattle.erl_ir.proofs.Written.{both_is, chars-parts, last, like}
use Rattle.erl_ir.proofs.bytes.functions.write_entry.Goals as goal

pub returns : goal.returns
returns c =
    last c.write_definition.result (definition_code c.args.function.now.definition) (entry_code (c.args.key.now, c.args.function.now)) c.write_definition.new.out.items c.write_front-2.new.out.items c.args.out.now.items (
    sym (c.in_ok-write_front-2.ensures (definition_code c.args.function.now.definition)) ∙
    like (gcons (gnum c.from.result) (definition_code c.args.function.now.definition)) (gcons (gnum (flag c.args.function.now.exported)) (definition_code c.args.function.now.definition)) c.write_front.new.out.items (ap (λ n. gcons (gnum n) (definition_code c.args.function.now.definition)) (c.from.ensures ∙ c.flag_number.ensures.value)) ∙
    sym (c.in_ok-write_front.ensures (gcons (gnum (flag c.args.function.now.exported)) (definition_code c.args.function.now.definition))) ∙
    both_is (chars_code c.args.key.now.0) (gcons (gnum c.args.key.now.1) (gcons (gnum (flag c.args.function.now.exported)) (definition_code c.args.function.now.definition))) c.args.out.now.items c.push.new.self.items c.write_name.new.out.items (chars-parts c.args.key.now.0) c.in_ok-push.ensures.items c.in_ok-write_name.ensures
    ) c.write_definition.ensures
