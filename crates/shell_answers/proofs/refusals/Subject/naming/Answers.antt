-- The text without a byte has no character.
use Rattle.std.proofs.Common.{[]}
use Rattle.std.specs.Str.{chars}
use Rattle.std.proofs.lemmas.Str.{chars-nil}
use Rattle.shell_answers.proofs.refusals.Subject.naming.Goals as goal

pub returns : goal.returns
returns c = (λ i. record { vsn = chars c.args.vsn.now; running = chars-nil i; script = [] })
