-- Where no space is stripped, none is in front.
use Rattle.std.proofs.Common.{lit<, sym, ◌∙◌}
use Rattle.std.proofs.lemmas.Str.Pattern.{strip_prefix_char}
use Rattle.shell_requests.proofs.Spaces.{begins_without, unspaced}
use Rattle.shell_requests.proofs.words.after_spaces.Goals as goal

pub returns-clause-begins : goal.returns-clause-begins
returns-clause-begins c =
    let text = c.loop-shorter.rest.now in
    begins_without text (rw c.in_default.is at (strip_prefix_char 32 text c.strip_prefix.result c.strip_prefix.ensures.cases (lit< tt)))

pub returns-clause-is : goal.returns-clause-is
returns-clause-is c =
    let text = c.loop-shorter.rest.now in
    sym (unspaced text (begins_without text (rw c.in_default.is at (strip_prefix_char 32 text c.strip_prefix.result c.strip_prefix.ensures.cases (lit< tt))))) ∙ c.loop-shorter.invariant.2
