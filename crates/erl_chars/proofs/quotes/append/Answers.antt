-- One character more.
use Rattle.std.proofs.Common.{string_bytes}
use Rattle.std.proofs.lemmas.Str.{IsUtf8-string_bytes}
use Rattle.erl_chars.proofs.Utf8.{chars-push}
use Rattle.erl_chars.proofs.quotes.append.Goals as goal

pub returns-in-Ok : goal.returns-in-Ok
returns-in-Ok c =
    chars-push (string_bytes c.args.text.now) (string_bytes c.push.new.self) c.args.c (IsUtf8-string_bytes c.args.text.now) c.ranges.c.0 c.in-Ok.ensures.bytes
