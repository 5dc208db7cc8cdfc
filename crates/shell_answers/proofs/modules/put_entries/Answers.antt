-- One more in each turn.
use Rattle.std.proofs.Common.{◌≡◌, ◌<◌, ◌≤◌, ◌++◌, ◌+◌, Some, ap, drop, eqb, length, slice_get, sym, ◌∙◌, arith}
use Rattle.std.proofs.lemmas.List.{drop_all}
use Rattle.std.specs.Option.{option_map}
use Rattle.std.specs.Map.Iter.{deref_pair}
use Rattle.erl_term.specs.Text.{elements_text, utf8}
use Rattle.shell_answers.specs.Answers.{module_of, modules_of, listed}
use Rattle.shell_answers.proofs.Pieces.{all_written, at_index, element, not_first}
use Rattle.shell_answers.proofs.modules.put_entries.Goals as goal

pub loop-index-preserved : goal.loop-index-preserved
loop-index-preserved c =
    let index = c.loop-index.index in
    let all = c.args.modules.now.entries in
    let out = c.loop-index.out.items in
    let rest = modules_of (drop (index + 1) all) in
    let new = c.put_module.new.out.items in
    let within : index < length all = omega (arith, c.len-index-end.ensures.len, c.loop-index-test.true) in
    let is : Some (c.in-Some.name.now, c.in-Some.slots.now) ≡ slice_get all index = sym (ap (λ o. option_map deref_pair o) c.in-Some.is) ∙ c.entry.ensures in
    element (eqb index 0) (module_of (c.in-Some.name.now, c.in-Some.slots.now)) rest c.args.out.now.items out c.put_separator.new.out.items new (utf8 (elements_text (modules_of all))) (c.loop-index.invariant ∙ ap (λ es. out ++ utf8 (listed (eqb index 0) (modules_of es))) (at_index all index (c.in-Some.name.now, c.in-Some.slots.now) within is)) c.in_ok-put_separator.ensures c.in_ok-put_module.ensures ∙ ap (λ b. new ++ utf8 (listed b rest)) (sym (not_first index))

pub returns : goal.returns
returns c =
    let index = c.loop-index.index in
    let all = c.args.modules.now.entries in
    let past : length all ≤ index = omega (arith, c.len-index-end.ensures.len, c.loop-index-test.false) in
    all_written (eqb index 0) (modules_of (drop index all)) c.args.out.now.items c.loop-index.out.items (utf8 (elements_text (modules_of all))) c.loop-index.invariant (ap modules_of (drop_all index all past))
