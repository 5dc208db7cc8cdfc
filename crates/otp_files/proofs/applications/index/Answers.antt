-- Each turn puts one application in front of those that are seen.
use Rattle.std.proofs.Common.{◌≡◌, true, false, sym, ap, subst, ◌∙◌, arith}
use Rattle.std.specs.Prelude.{string_bytes}
use Rattle.std.specs.Option.{is_some}
use Rattle.std.specs.Str.{IsUtf8, chars}
use Rattle.otp_files.proofs.Distinct.{one_before, one_more, told_before}
use Rattle.otp_files.proofs.applications.index.Goals as goal

pub loop-index-preserved-then-is_some : goal.loop-index-preserved-then-is_some
loop-index-preserved-then-is_some c =
    let items = c.args.items.now in
    let i = c.loop-index.index in
    let x = c.index-items-index.result in
    let key = c.in_ok-name.name in
    let before = one_before items i x (omega arith) (omega arith) c.index-items-index.is in
    let is : chars (string_bytes key) ≡ x.name = ap chars c.in_ok-name.ensures.ok ∙ c.as_str.ensures.chars ∙ ap (λ app. app.name) (sym c.index-items-index.is) in
    let utf8 = subst IsUtf8 (sym c.in_ok-name.ensures.ok) c.as_str.utf8 in
    let found = c.loop-index.invariant.found in
    let again = ap is_some (sym c.in_ok-insert.ensures.old) ∙ sym c.is_some.ensures ∙ c.if-is_some.true in
    record {
      found = one_more items i x key c.loop-index.indices c.insert.new.self (omega arith) before is utf8 c.in_ok-insert.ensures.updates found;
      distinct = sym (told_before items i x key c.loop-index.indices true before is utf8 found again);
    }

pub loop-index-preserved : goal.loop-index-preserved
loop-index-preserved c =
    let items = c.args.items.now in
    let i = c.loop-index.index in
    let x = c.index-items-index.result in
    let key = c.in_ok-name.name in
    let before = one_before items i x (omega arith) (omega arith) c.index-items-index.is in
    let is : chars (string_bytes key) ≡ x.name = ap chars c.in_ok-name.ensures.ok ∙ c.as_str.ensures.chars ∙ ap (λ app. app.name) (sym c.index-items-index.is) in
    let utf8 = subst IsUtf8 (sym c.in_ok-name.ensures.ok) c.as_str.utf8 in
    let found = c.loop-index.invariant.found in
    let once = ap is_some (sym c.in_ok-insert.ensures.old) ∙ sym c.is_some.ensures ∙ c.if-is_some.false in
    record {
      found = one_more items i x key c.loop-index.indices c.insert.new.self (omega arith) before is utf8 c.in_ok-insert.ensures.updates found;
      distinct = c.loop-index.invariant.distinct ∙ sym (told_before items i x key c.loop-index.indices false before is utf8 found once);
    }
