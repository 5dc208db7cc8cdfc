-- The run of the characters gives each of them once.
use Rattle.std.proofs.Common.{rules}
use Rattle.std.proofs.lemmas.Str.{chars_from_encodes}
use Rattle.shell_requests.proofs.name.count.Goals as goal

pub returns : goal.returns
returns c = search (rules, chars_from_encodes)
