-- The run of the characters has taken the first.
use Rattle.std.proofs.Common.{ap}
use Rattle.erl_chars.proofs.Utf8.{chars-past_first}
use Rattle.erl_chars.proofs.bytes.past_first.Goals as goal

pub returns-clause-left : goal.returns-clause-left
returns-clause-left c =
    rw (c.as_str.ensures) (chars-past_first c.next.result c.args.text.now c.next.new.self.rest.now _ c.utf8.text (λ same. ap (λ x. x.rest.now) same) (rw c.chars-characters.ensures.rest at c.next.ensures.steps.0))
