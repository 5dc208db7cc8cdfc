-- A character's bytes are those of a text of it alone.
use Rattle.std.proofs.Common.{[], ◌∷◌, sym, ◌∙◌}
use Rattle.erl_term.specs.Text.{utf8}
use Rattle.erl_term.proofs.Appending.{renamed}
use Rattle.erl_term.proofs.Texts.{utf8-one}
use Rattle.erl_term.proofs.printing.put_char.Goals as goal

pub returns : goal.returns
returns c =
    renamed c.put.result c.args.out.now.items c.put.new.out.items c.as_bytes.result.now (utf8 (c.args.c ∷ [])) c.put.ensures (c.as_bytes.ensures.value ∙ c.encode_utf8.ensures.value ∙ sym (utf8-one c.args.c))
