-- The front is the line's.
use Rattle.std.proofs.Common.{◌++◌, codes}
use Rattle.erl_term.specs.Term.{tree}
use Rattle.shell_answers.proofs.Pieces.{bytes, on_ok, same}
use Rattle.shell_answers.proofs.Texts.{carried_out-line}
use Rattle.shell_answers.proofs.scripts.write_carried_out.Goals as goal

pub returns : goal.returns
returns c =
    on_ok c.write_of_term.result _ _ c.write_of_term.ensures (λ wrote. same c.args.out.now.items c.write_of_term.new.out.items (codes "{done," ++ (bytes (tree c.args.instruction.now) ++ codes "}\n")) _ wrote (carried_out-line (tree c.args.instruction.now)))
