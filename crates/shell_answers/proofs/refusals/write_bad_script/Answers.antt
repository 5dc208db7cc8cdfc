-- The pieces are the line's.
use Rattle.std.proofs.Common.{◌++◌, ◌∷◌, [], codes, pos}
use Rattle.erl_term.specs.Tree.{int}
use Rattle.shell_answers.proofs.Pieces.{before, on_ok, same, bytes}
use Rattle.shell_answers.proofs.Texts.{bad_script-line}
use Rattle.shell_answers.proofs.refusals.write_bad_script.Goals as goal

pub returns : goal.returns
returns c =
    let old = c.args.out.now.items in
    let new = c.put-2.new.out.items in
    on_ok c.put-2.result _ _ c.put-2.ensures (λ last. same old new ((codes "{error,") ++ ((123 ∷ (codes "bad_script" ++ 44 ∷ (bytes (int (pos c.args.index)) ++ 125 ∷ []))) ++ (codes "}\n"))) _ (before old c.put.new.out.items new (codes "{error,") ((123 ∷ (codes "bad_script" ++ 44 ∷ (bytes (int (pos c.args.index)) ++ 125 ∷ []))) ++ (codes "}\n")) c.in_ok-put.ensures (before c.put.new.out.items c.put_placed.new.out.items new (123 ∷ (codes "bad_script" ++ 44 ∷ (bytes (int (pos c.args.index)) ++ 125 ∷ []))) (codes "}\n") c.in_ok-put_placed.ensures last)) (bad_script-line c.args.index))
