-- Few bytes have no more characters.
use Rattle.std.proofs.Common.{arith, ◌≤◌, length}
use Rattle.std.specs.Str.{chars}
use Rattle.std.proofs.lemmas.Str.{encodes-chars, length-le-encodes}
use Rattle.erl_chars.proofs.text.is_too_long.Goals as goal

pub returns-else-text-gt255 : goal.returns-else-text-gt255
returns-else-text-gt255 c =
    let few : length (chars c.args.text.now) ≤ length c.args.text.now = rw (encodes-chars c.args.text.now c.utf8.text) at (length-le-encodes (chars c.args.text.now)) in
    grind (arith, few)
