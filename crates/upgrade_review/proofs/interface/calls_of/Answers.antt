-- The next function.
use Rattle.std.proofs.Common.{◌≡◌, ◌∙◌, [], Some, ap, sym}
use Rattle.std.specs.List.{slice_get}
use Rattle.std.specs.Map.Iter.{deref_pair}
use Rattle.std.specs.Option.{option_map}
use Rattle.erl_ir.specs.declared.function.Function.{Function}
use Rattle.erl_ir.specs.Module.{Key}
use Rattle.upgrade_review.proofs.Calling.{calls_in_function, functions_push, there_appended}
use Rattle.upgrade_review.specs.Interfaces.{calls_of}
use Rattle.upgrade_review.proofs.interface.calls_of.Goals as goal

pub loop-index-preserved : goal.loop-index-preserved
loop-index-preserved c =
    let functions = c.args.source.now.functions in
    let index = c.loop-index.index in
    let entry : Key × Function = (c.in-Some.field-0-0.now, c.in-Some.function.now) in
    let is : slice_get functions index ≡ Some entry = sym c.entry.ensures ∙ ap (λ o. option_map deref_pair o) c.in-Some.is in
    there_appended calls_of calls_in_function functions_push functions index entry [] c.loop-index.found.items
    c.push_definition.new.found.items is c.loop-index.invariant c.in_ok-push_definition.ensures
