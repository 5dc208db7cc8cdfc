-- The pieces are the line's.
use Rattle.std.proofs.Common.{◌++◌, codes, refl}
use Rattle.erl_term.specs.Term.{tree}
use Rattle.shell_answers.proofs.Pieces.{before, bytes, on_ok, same}
use Rattle.shell_answers.proofs.relups.write_relup.Goals as goal

pub returns : goal.returns
returns c =
    let old = c.args.out.now.items in
    let new = c.put.new.out.items in
    on_ok c.put.result _ _ c.put.ensures (λ last. same old new ((bytes (tree c.args.relup.now)) ++ (codes "\n")) _ (before old c.print.new.out.items new (bytes (tree c.args.relup.now)) (codes "\n") c.in_ok-print.ensures.printed last) refl)
