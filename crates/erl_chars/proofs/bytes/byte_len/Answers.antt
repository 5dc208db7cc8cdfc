-- A text is the bytes of its characters.
use Rattle.std.proofs.Common.{length, ap, sym}
use Rattle.std.proofs.lemmas.Str.{encodes-chars}
use Rattle.erl_chars.specs.Cursor.{byte_count}
use Rattle.erl_chars.proofs.bytes.byte_len.Goals as goal

pub returns-clause-characters : goal.returns-clause-characters
unfolding byte_count
returns-clause-characters c = sym (ap length (encodes-chars c.args.text.now c.utf8.text))
