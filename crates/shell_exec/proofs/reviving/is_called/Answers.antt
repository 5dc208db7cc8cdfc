-- An Id that is an atom is spelled as its name is.
use Rattle.std.proofs.Common.{◌∙◌}
use Rattle.std.specs.Str.{chars}
use Rattle.shell_exec.proofs.Finding.{id-other, id-spells}
use Rattle.shell_exec.proofs.reviving.is_called.Goals as goal

pub returns-in-Some : goal.returns-in-Some
returns-in-Some c = c.spells.ensures ∙ id-spells c.args.id.now c.in-Some.name.now (chars c.args.text.now) c.in-Some.ensures

pub returns-in-None : goal.returns-in-None
returns-in-None c = id-other c.args.id.now (chars c.args.text.now) c.in-None.ensures
