-- What is refused is no module.
use Rattle.std.proofs.Common.{rules}
use Rattle.erl_ast.specs.Terminal.{terminals}
use Rattle.module_forms.proofs.Modules.{none_read}
use Rattle.module_forms.proofs.module.read_forms.Goals as goal

pub returns-in-Err-clause-refused : goal.returns-in-Err-clause-refused
returns-in-Err-clause-refused c = none_read (terminals c.args.tokens.now) (search rules)
