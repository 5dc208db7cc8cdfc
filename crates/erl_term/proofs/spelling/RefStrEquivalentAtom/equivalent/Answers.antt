-- A text that is an atom's is one that spells it.
use Rattle.std.proofs.Common.{ap, sym, ◌∙◌}
use Rattle.std.specs.Str.{chars}
use Rattle.std.proofs.lemmas.Bool.Decides.{same_from_decides}
use Rattle.std.proofs.lemmas.Slice.Eq.{bytes_eq-Decides}
use Rattle.erl_term.proofs.Texts.{utf8-chars}
use Rattle.erl_term.proofs.spelling.RefStrEquivalentAtom.equivalent.Goals as goal
use Rattle.erl_term.specs.SpellingLaws.{spells-Decides}
use Rattle.erl_term.specs.Text.{utf8}

pub returns : goal.returns
returns c =
    let same = bytes_eq-Decides c.args.self.now.now c.as_str.result.now in
    let bytes = sym (utf8-chars c.as_str.result.now c.as_str.utf8) ∙ ap utf8 c.as_str.ensures.chars in
    let spelled = spells-Decides c.args.self.now.now c.args.atom.now in
    c.eq.ensures ∙ same_from_decides _ _ same ((λ it. (spelled.0 it).1 ∙ sym bytes), (λ e. spelled.1 (ap chars e ∙ c.as_str.ensures.chars, e ∙ bytes)))
