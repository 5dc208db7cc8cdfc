-- What a row shows is as deep as all of it.
use Rattle.std.proofs.Common.{◌-◌, ◌^◌, min, ap, ◌∙◌}
use Rattle.erl_term.specs.Tree.{greatest_depth}
use Rattle.erl_term.proofs.Parts.{seen_depth}
use Rattle.erl_term.proofs.term.Terms.greatest_depth.Goals as goal

pub returns : goal.returns
returns c =
    c.from.ensures ∙ ap (λ r. r.depth) c.deref.ensures ∙ seen_depth _ _ _ _ _ _ c.self.invariant ∙ ap (λ ts. min (greatest_depth ts) (2 ^ 64 - 1)) c.self.view_is
