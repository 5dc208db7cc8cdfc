-- Texts of equal characters have equal bytes.
use Rattle.std.proofs.Common.{◌∙◌}
use Rattle.console_answers.proofs.Names.{texts_spell}
use Rattle.console_answers.proofs.journal.is_named.Goals as goal

pub returns : goal.returns
returns c =
    c.eq.ensures ∙ texts_spell c.as_str.result.now c.args.name.now c.args.named.now.name c.as_str.utf8 c.utf8.name c.as_str.ensures.chars
