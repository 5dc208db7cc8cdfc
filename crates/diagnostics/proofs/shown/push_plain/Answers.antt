-- One character more.
use Rattle.std.proofs.Common.{string_bytes}
use Rattle.std.proofs.lemmas.Str.{IsUtf8-string_bytes}
use Rattle.diagnostics.proofs.OneLine.{chars-pushed, shown-pushed}
use Rattle.diagnostics.proofs.shown.push_plain.Goals as goal

pub returns-clause-one_line : goal.returns-clause-one_line
returns-clause-one_line c =
    shown-pushed c.push.result (string_bytes c.args.out.now) (string_bytes c.push.new.self) c.args.c (IsUtf8-string_bytes c.args.out.now) c.ranges.c.0 c.requires c.push.ensures.bytes

pub returns-clause-more : goal.returns-clause-more
returns-clause-more c =
    chars-pushed c.push.result (string_bytes c.args.out.now) (string_bytes c.push.new.self) c.args.c (IsUtf8-string_bytes c.args.out.now) c.ranges.c.0 c.push.ensures.bytes
