-- Each turn puts one name in front of those that are found.
use Rattle.std.proofs.Common.{◌≡◌, sym, ap, subst, ◌∙◌, arith}
use Rattle.std.specs.Prelude.{string_bytes}
use Rattle.std.specs.Str.{IsUtf8, chars}
use Rattle.relup_make.proofs.Indices.{one_before, one_more}
use Rattle.relup_make.proofs.names.index.Goals as goal

pub loop-index-preserved : goal.loop-index-preserved
loop-index-preserved c =
    let items = c.args.items.now in
    let i = c.loop-index.index in
    let x = c.index-items-index.result in
    let key = c.in_ok-name.name in
    let before = one_before items i x (omega arith) (omega arith) c.index-items-index.is in
    let is : chars (string_bytes key) ≡ x = ap chars c.in_ok-name.ensures.ok ∙ c.as_str.ensures.chars in
    let utf8 = subst IsUtf8 (sym c.in_ok-name.ensures.ok) c.as_str.utf8 in
    one_more items i x key c.loop-index.indices c.insert.new.self (omega arith) before is utf8 c.in_ok-insert.ensures.updates c.loop-index.invariant
