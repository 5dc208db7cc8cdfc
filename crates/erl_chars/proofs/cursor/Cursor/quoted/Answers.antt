-- A character more in each turn.
use Rattle.std.proofs.Common.{◌≡◌, [], ap, ◌∙◌, refl, rules, string_bytes}
use Rattle.std.specs.Str.{chars}
use Rattle.std.proofs.lemmas.Str.{chars-nil}
use Rattle.erl_chars.specs.Cursor.{left}
use Rattle.erl_chars.proofs.Characters.{character-shorter, Written-more}
use Rattle.erl_chars.proofs.cursor.Cursor.quoted.Goals as goal

pub loop-text-init : goal.loop-text-init
loop-text-init c =
    let none : chars (string_bytes c.new-text.result) ≡ [] = ap chars c.new-text.ensures.bytes ∙ chars-nil in
    record { written = rw none refl; whole = refl }

pub loop-text-smaller : goal.loop-text-smaller
loop-text-smaller c =
    character-shorter c.args.quote c.in-Some.c (left c.loop-text.self) (left c.quoted_char.new.self) (rw c.in-Some.is at c.in_ok-c.ensures.read)

pub loop-text-preserved : goal.loop-text-preserved
loop-text-preserved c =
    let more = Written-more c.args.quote (left c.args.self.now) (chars (string_bytes c.loop-text.text)) (left c.loop-text.self) (left c.quoted_char.new.self) c.in-Some.c c.loop-text.invariant.written (rw c.in-Some.is at c.in_ok-c.ensures.read) in
    record { written = rw c.in_ok-append.ensures more; whole = search rules }
