-- Bytes are compared, which are the characters' own.
use Rattle.std.proofs.Common.{ap, ◌∙◌}
use Rattle.std.specs.Str.{bytes_eq}
use Rattle.erl_term.proofs.Ascii.{is_word}
use Rattle.erl_term.proofs.atom.Atom.is.Goals as goal

pub returns : goal.returns
returns c =
    is_word c.as_str.result.now c.args.word.now c.eq.result c.as_str.utf8 c.utf8.word c.requires c.eq.ensures ∙ ap (λ cs. bytes_eq cs c.args.word.now) c.as_str.ensures.chars
