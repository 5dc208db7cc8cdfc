-- The next function.
use Rattle.std.proofs.Common.{◌≡◌, ◌∙◌, [], Some, ap, sym}
use Rattle.std.specs.List.{slice_get}
use Rattle.std.specs.Map.Iter.{deref_pair}
use Rattle.std.specs.Option.{option_map}
use Rattle.erl_ir.specs.declared.function.Function.{Function}
use Rattle.erl_ir.specs.Module.{Key}
use Rattle.upgrade_review.proofs.Calling.{exports_push, there_appended}
use Rattle.upgrade_review.specs.Interfaces.{exported_by, exports_of}
use Rattle.upgrade_review.proofs.interface.exports_of.Goals as goal

pub loop-index-preserved : goal.loop-index-preserved
loop-index-preserved c =
    let functions = c.args.source.now.functions in
    let index = c.loop-index.index in
    let entry : Key × Function = (c.in-Some.key.now, c.in-Some.function.now) in
    let is : slice_get functions index ≡ Some entry = sym c.entry.ensures ∙ ap (λ o. option_map deref_pair o) c.in-Some.is in
    there_appended exports_of exported_by exports_push functions index entry [] c.loop-index.found.items
    c.push_exported.new.found.items is c.loop-index.invariant c.in_ok-push_exported.ensures
