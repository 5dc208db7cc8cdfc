-- The run of the characters has taken the first.
use Rattle.std.proofs.lemmas.Str.{chars_past_char}
use Rattle.erl_chars.proofs.bytes.split_first.Goals as goal

pub returns-clause-characters : goal.returns-clause-characters
returns-clause-characters c =
    rw c.as_str.ensures (chars_past_char c.args.text.now c.next.new.self.rest.now c.in_ok-first.first c.utf8.text (rw c.chars-characters.ensures.rest at c.in_ok-first.ensures.steps.0))
