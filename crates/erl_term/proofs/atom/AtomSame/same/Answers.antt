-- Texts of equal characters have equal bytes.
use Rattle.erl_term.proofs.EqualTexts.{same_from_texts}
use Rattle.erl_term.proofs.atom.AtomSame.same.Goals as goal

pub returns-in_default : goal.returns-in_default
returns-in_default c =
    same_from_texts _ _ _ _ _ c.as_str.utf8 c.as_str-in_default.utf8 c.eq-in_default.ensures c.as_str.ensures.chars c.as_str-in_default.ensures.chars
