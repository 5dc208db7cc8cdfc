-- The word's characters are its bytes.
use Rattle.std.proofs.Common.{◌≤◌, length, sym, ap, subst, ◌∙◌}
use Rattle.std.specs.Str.{chars}
use Rattle.erl_term.proofs.Ascii.{chars_of-ascii}
use Rattle.erl_term.proofs.atom.Atom.word.Goals as goal

pub from_shared-requires : goal.from_shared-requires
from_shared-requires c =
    let same = ap chars c.in_ok-text.ensures.ok ∙ chars_of-ascii c.args.word.now c.requires.ascii in
    record { short = subst (λ cs. length cs ≤ 255) (sym same) c.requires.short }

pub returns : goal.returns
returns c = c.from_shared.ensures ∙ ap chars c.in_ok-text.ensures.ok ∙ chars_of-ascii c.args.word.now c.requires.ascii
