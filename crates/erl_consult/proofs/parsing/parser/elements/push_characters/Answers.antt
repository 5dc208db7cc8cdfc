use Rattle.std.proofs.Common.{◌<◌, arith, ap, sym, ◌∙◌}
use Rattle.std.specs.Prelude.{string_bytes, string_len}
use Rattle.std.specs.Str.{chars}
use Rattle.std.proofs.lemmas.Str.{IsUtf8-string_bytes}
use Rattle.erl_term.specs.Rows.{append_trees, integers}
use Rattle.erl_term.specs.Term.{trees}
use Rattle.erl_consult.proofs.Stepping.{pieces-joined}
use Rattle.erl_consult.proofs.parsing.parser.elements.push_characters.Goals as goal

pub loop-middle-init : goal.loop-middle-init
loop-middle-init c =
    ap (λ ts. append_trees (trees ts) (integers (chars (string_bytes c.args.text)))) c.in_ok-make_room.ensures.items

pub loop-middle-preserved : goal.loop-middle-preserved
loop-middle-preserved c =
    let pushed = c.in_ok-push_piece.ensures.ok ∙ ap (λ bs. append_trees (trees c.loop-middle.items.items) (integers (chars bs))) c.as_str-in-Some.ensures.value in
    pieces-joined (trees c.loop-middle.items.items) (trees c.push_piece.new.items.items) (string_bytes c.loop-middle.text) (string_bytes c.split_off.new.self) (string_bytes c.in-Ok.back) c.in-Some.middle (IsUtf8-string_bytes c.split_off.new.self) c.in-Ok.ensures.bytes c.in-Ok.ensures.tail pushed ∙ c.loop-middle.invariant

pub loop-middle-smaller : goal.loop-middle-smaller
loop-middle-smaller c =
    let less : string_len c.in-Ok.back < string_len c.loop-middle.text = omega (arith, c.in-Ok.ensures.tail_len, c.in-Some.ensures.0) in less

pub returns-clause-ok : goal.returns-clause-ok
returns-clause-ok c =
    let text = ap (λ bs. append_trees (trees c.loop-middle.items.items) (integers (chars bs))) c.as_str-2.ensures.value ∙ c.loop-middle.invariant in
    rw (sym text) c.push_piece-2.ensures.ok
