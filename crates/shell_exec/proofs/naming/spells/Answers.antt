-- Texts of equal characters have equal bytes.
use Rattle.std.proofs.Common.{◌∙◌}
use Rattle.shell_exec.proofs.Finding.{texts-spell}
use Rattle.shell_exec.proofs.naming.spells.Goals as goal

pub returns : goal.returns
returns c =
    c.eq.ensures ∙ texts-spell c.as_str.result.now c.args.text.now c.args.name.now c.as_str.utf8 c.utf8.text c.as_str.ensures.chars
