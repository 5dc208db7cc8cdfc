-- The pieces are those of the line.
use Rattle.std.proofs.Common.{◌++◌, codes, refl}
use Rattle.erl_term.specs.Term.{tree}
use Rattle.shell_answers.proofs.Pieces.{before, on_ok, same, bytes}
use Rattle.shell_answers.proofs.scripts.write_of_term.Goals as goal

pub returns : goal.returns
returns c =
    let old = c.args.out.now.items in
    let new = c.put-2.new.out.items in
    on_ok c.put-2.result _ _ c.put-2.ensures (λ last. same old new ((c.args.front.now) ++ ((bytes (tree c.args.term.now)) ++ (codes "}\n"))) _ (before old c.put.new.out.items new (c.args.front.now) ((bytes (tree c.args.term.now)) ++ (codes "}\n")) c.in_ok-put.ensures (before c.put.new.out.items c.print.new.out.items new (bytes (tree c.args.term.now)) (codes "}\n") c.in_ok-print.ensures.printed last)) (refl))
