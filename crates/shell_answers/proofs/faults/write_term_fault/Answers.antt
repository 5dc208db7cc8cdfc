-- The pieces are the line's.
use Rattle.std.proofs.Common.{◌++◌, ◌∷◌, [], codes, pos, ap, ◌∙◌}
use Rattle.erl_term.specs.Tree.{int}
use Rattle.shell_answers.proofs.Pieces.{before, on_ok, same, bytes}
use Rattle.shell_answers.proofs.Texts.{term_fault-line}
use Rattle.shell_answers.proofs.faults.write_term_fault.Goals as goal

pub returns : goal.returns
returns c =
    let old = c.args.out.now.items in
    let new = c.put-2.new.out.items in
    on_ok c.put-2.result _ _ c.put-2.ensures (λ last. same old new ((codes "{error,") ++ ((123 ∷ (c.kind_word.result.now ++ 44 ∷ (bytes (int (pos c.args.at)) ++ 125 ∷ []))) ++ (codes "}\n"))) _ (before (old) (c.put.new.out.items) new (codes "{error,") ((123 ∷ (c.kind_word.result.now ++ 44 ∷ (bytes (int (pos c.args.at)) ++ 125 ∷ []))) ++ (codes "}\n")) c.in_ok-put.ensures (before (c.put.new.out.items) (c.put_placed.new.out.items) new (123 ∷ (c.kind_word.result.now ++ 44 ∷ (bytes (int (pos c.args.at)) ++ 125 ∷ []))) (codes "}\n") c.in_ok-put_placed.ensures last)) (ap (λ word. codes "{error," ++ ((123 ∷ (word ++ 44 ∷ (bytes (int (pos c.args.at)) ++ 125 ∷ []))) ++ codes "}\n")) c.kind_word.ensures ∙ term_fault-line c.args.kind c.args.at))
