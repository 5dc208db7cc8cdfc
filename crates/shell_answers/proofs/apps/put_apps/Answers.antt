-- One more in each turn.
use Rattle.std.proofs.Common.{◌≡◌, ◌<◌, ◌≤◌, ◌++◌, ◌+◌, Some, ap, drop, eqb, length, slice_get, sym, ◌∙◌, arith}
use Rattle.std.proofs.lemmas.List.{drop_all}
use Rattle.std.specs.Option.{option_copied}
use Rattle.erl_term.specs.Text.{elements_text, utf8}
use Rattle.shell_answers.specs.Answers.{app_of, apps_of, listed}
use Rattle.shell_answers.proofs.Pieces.{all_written, at_index, element, not_first}
use Rattle.shell_answers.proofs.apps.put_apps.Goals as goal

pub loop-index-preserved : goal.loop-index-preserved
loop-index-preserved c =
    let index = c.loop-index.index in
    let all = c.args.apps.now in
    let out = c.loop-index.out.items in
    let rest = apps_of (drop (index + 1) all) in
    let new = c.put_app.new.out.items in
    let within : index < length all = omega (arith, c.len-index-end.ensures, c.loop-index-test.true) in
    let is : Some c.in-Some.app.now ≡ slice_get all index = sym (ap (λ o. option_copied o) c.in-Some.is) ∙ c.app.ensures in
    element (eqb index 0) (app_of c.in-Some.app.now) rest c.args.out.now.items out c.put_separator.new.out.items new (utf8 (elements_text (apps_of all))) (c.loop-index.invariant ∙ ap (λ es. out ++ utf8 (listed (eqb index 0) (apps_of es))) (at_index all index c.in-Some.app.now within is)) c.in_ok-put_separator.ensures c.in_ok-put_app.ensures ∙ ap (λ b. new ++ utf8 (listed b rest)) (sym (not_first index))

pub returns : goal.returns
returns c =
    let index = c.loop-index.index in
    let all = c.args.apps.now in
    let past : length all ≤ index = omega (arith, c.len-index-end.ensures, c.loop-index-test.false) in
    all_written (eqb index 0) (apps_of (drop index all)) c.args.out.now.items c.loop-index.out.items (utf8 (elements_text (apps_of all))) c.loop-index.invariant (ap apps_of (drop_all index all past))
