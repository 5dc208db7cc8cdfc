-- A name that is no reserved word.
use Rattle.std.proofs.Common.{sym, ap, ◌∙◌}
use Rattle.erl_scan.proofs.Reading.{name_atom}
use Rattle.erl_scan.specs.Words.{word_of}
use Rattle.erl_scan.proofs.scanner.Scanner.name_token.Goals as goal

pub returns-in-Ok-clause-answers : goal.returns-in-Ok-clause-answers
returns-in-Ok-clause-answers c =
    name_atom _ _ _ _ c.in-Ok.text _ (c.in-Ok.ensures ∙ c.name-name.ensures.name) c.name-name.ensures.left (c.in-None.ensures ∙ ap word_of (sym c.in-Ok.ensures)) c.offset-at.ensures c.atom.ensures
