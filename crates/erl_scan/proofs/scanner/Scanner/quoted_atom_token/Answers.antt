-- What stands between single quotes, as an atom.
use Rattle.std.proofs.Common.{ap, ◌∙◌}
use Rattle.erl_scan.specs.Answers.{atom_at}
use Rattle.erl_scan.proofs.Reading.{quoted_atom, atom_fault}
use Rattle.erl_scan.proofs.scanner.Scanner.quoted_atom_token.Goals as goal

pub returns-in-Ok-text-clause-takes : goal.returns-in-Ok-text-clause-takes
returns-in-Ok-text-clause-takes c =
    quoted_atom _ _ _ _ _ _ c.requires.first c.in-Ok.ensures.between c.offset-at.ensures (c.atom.ensures ∙ ap (λ t. atom_at t c.offset-at.result) (c.in-Ok-text.ensures ∙ c.as_str.ensures))

pub returns-in-Err-clause-takes : goal.returns-in-Err-clause-takes
returns-in-Err-clause-takes c = atom_fault _ _ _ c.requires.first c.in-Err.ensures.between
