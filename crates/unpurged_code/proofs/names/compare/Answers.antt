-- The characters of both, one by one.
use Rattle.std.proofs.Common.{◌≡◌, refl, ap, ◌∙◌}
use Rattle.std.specs.Ordering.{nat_cmp}
use Rattle.std.specs.Str.{chars}
use Rattle.std.specs.Cmp.Lexicographic.{slice_cmp}
use Rattle.std.proofs.lemmas.Iterator.{YieldsList-from_chars}
use Rattle.std.proofs.lemmas.Iterator.Search.{cmp_from_yields_List}
use Rattle.unpurged_code.proofs.names.compare.Goals as goal

pub returns : goal.returns
returns c =
    let one = c.as_str.result.now in
    let other = c.as_str-2.result.now in
    let compared = cmp_from_yields_List (λ x y. y ≡ x) _ nat_cmp _ c.cmp.ensures.ran (YieldsList-from_chars one c.as_str.utf8 cc) (λ it e. YieldsList-from_chars other c.as_str-2.utf8 cc) (λ x y. refl) in
    compared ∙ ap (λ cs. slice_cmp nat_cmp cs (chars other)) c.as_str.ensures.chars ∙ ap (λ ds. slice_cmp nat_cmp c.args.one.now ds) c.as_str-2.ensures.chars
