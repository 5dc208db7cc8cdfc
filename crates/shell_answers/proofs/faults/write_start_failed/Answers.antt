-- The pieces are the line's.
use Rattle.std.proofs.Common.{◌++◌, ◌∷◌, [], codes}
use Rattle.erl_term.specs.Term.{tree}
use Rattle.shell_answers.proofs.Pieces.{before, on_ok, same, bytes}
use Rattle.shell_answers.proofs.Texts.{start_failed-line}
use Rattle.shell_answers.proofs.faults.write_start_failed.Goals as goal

pub returns : goal.returns
returns c =
    let old = c.args.out.now.items in
    let new = c.put-3.new.out.items in
    on_ok c.put-3.result _ _ c.put-3.ensures (λ last. same old new ((codes "{error,{start_failed,") ++ ((bytes (tree c.args.child.now)) ++ ((44 ∷ []) ++ ((bytes (tree c.args.reason.now)) ++ (codes "}}\n"))))) _ (before (old) (c.put.new.out.items) new (codes "{error,{start_failed,") ((bytes (tree c.args.child.now)) ++ ((44 ∷ []) ++ ((bytes (tree c.args.reason.now)) ++ (codes "}}\n")))) c.in_ok-put.ensures (before (c.put.new.out.items) (c.print.new.out.items) new (bytes (tree c.args.child.now)) ((44 ∷ []) ++ ((bytes (tree c.args.reason.now)) ++ (codes "}}\n"))) c.in_ok-print.ensures.printed (before (c.print.new.out.items) (c.put-2.new.out.items) new (44 ∷ []) ((bytes (tree c.args.reason.now)) ++ (codes "}}\n")) c.in_ok-put-2.ensures (before (c.put-2.new.out.items) (c.print-2.new.out.items) new (bytes (tree c.args.reason.now)) (codes "}}\n") c.in_ok-print-2.ensures.printed last)))) (start_failed-line c.args.child.now c.args.reason.now))
