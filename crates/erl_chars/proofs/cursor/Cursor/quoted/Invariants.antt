-- The text so far is what is written up to here.
use Rattle.std.proofs.Common.{◌≡◌, length, string_bytes}
use Rattle.std.specs.Str.{chars}
use Rattle.erl_chars.specs.Cursor.{left, total}
use Rattle.erl_chars.specs.Quotes.{Written}
use Rattle.erl_chars.proofs.cursor.Cursor.quoted.Given as goal

abbrev pub invariant-loop-text : goal.invariant-loop-text
invariant-loop-text l = record {
  written : Written l.quote (left l.fn.self) (chars (string_bytes l.text)) (left l.self);
  whole : total l.self ≡ total l.fn.self;
}

abbrev pub decreases-loop-text : goal.decreases-loop-text
decreases-loop-text l = length (left l.self)
