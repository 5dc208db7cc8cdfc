-- One more in each turn, from the end.
use Rattle.std.proofs.Common.{◌≡◌, ◌<◌, ◌++◌, ◌+◌, ◌-◌, ap, eqb, length, map, reverse, sym, take, ◌∙◌, arith}
use Rattle.erl_term.specs.Text.{elements_text, utf8}
use Rattle.shell_answers.specs.Answers.{characters, listed, release_of, releases_in}
use Rattle.shell_answers.proofs.Pieces.{all_written, at_end, element, not_first}
use Rattle.shell_answers.proofs.Texts.{names_at}
use Rattle.shell_answers.proofs.releases.put_releases.Goals as goal

pub put_release-requires : goal.put_release-requires
put_release-requires c =
    let all = c.args.releases.now in
    let from_end = length all - 1 - c.loop-index.index in
    let within : from_end < length all = omega (arith, c.loop-index-test.true) in
    ap (map characters) c.as_slice.ensures.value ∙ names_at c.args.names.now all from_end c.index-names-from_end.result c.index-releases-from_end.result c.requires within c.index-names-from_end.is c.index-releases-from_end.is

pub loop-index-preserved : goal.loop-index-preserved
loop-index-preserved c =
    let index = c.loop-index.index in
    let all = c.args.releases.now in
    let out = c.loop-index.out.items in
    let from_end = length all - 1 - index in
    let it = c.index-releases-from_end.result in
    let rest = releases_in (reverse (take (length all - (index + 1)) all)) in
    let new = c.put_release.new.out.items in
    let is : index + (from_end + 1) ≡ length all = omega (arith, c.loop-index-test.true) in
    element (eqb index 0) (release_of it) rest c.args.out.now.items out c.put_separator.new.out.items new (utf8 (elements_text (releases_in (reverse all)))) (c.loop-index.invariant ∙ ap (λ left. out ++ utf8 (listed (eqb index 0) (releases_in left))) (at_end all index from_end it is c.index-releases-from_end.is)) c.in_ok-put_separator.ensures c.in_ok-put_release.ensures ∙ ap (λ b. new ++ utf8 (listed b rest)) (sym (not_first index))

pub returns : goal.returns
returns c =
    let index = c.loop-index.index in
    let all = c.args.releases.now in
    let past : length all - index ≡ 0 = omega (arith, c.loop-index-test.false) in
    all_written (eqb index 0) (releases_in (reverse (take (length all - index) all))) c.args.out.now.items c.loop-index.out.items (utf8 (elements_text (releases_in (reverse all)))) c.loop-index.invariant (ap (λ n. releases_in (reverse (take n all))) past)
