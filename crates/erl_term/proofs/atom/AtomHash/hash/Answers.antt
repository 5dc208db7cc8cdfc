-- The text's bytes are those of its characters.
use Rattle.std.proofs.Common.{ap, ◌∙◌, sym, fold}
use Rattle.std.specs.Hash as fed
use Rattle.std.proofs.lemmas.Str.{encodes-chars}
use Rattle.erl_term.specs.Text.{utf8}
use Rattle.erl_term.proofs.atom.AtomHash.hash.Goals as goal

pub returns : goal.returns
unfolding utf8
returns g c =
    let same = sym (encodes-chars _ c.as_str.utf8) ∙ ap utf8 c.as_str.ensures.chars in
    c.hash.ensures ∙ ap (λ bs. fold g.H.Hasher.write c.args.state.now (fed.str bs)) same
