-- The pieces are the tuple's.
use Rattle.std.proofs.Common.{◌++◌, ◌∷◌, [], codes, pos, ap, ◌∙◌}
use Rattle.std.proofs.lemmas.List.{append-nil}
use Rattle.erl_term.specs.Term.{trees}
use Rattle.erl_term.specs.Tree.{int, atom, list}
use Rattle.shell_answers.proofs.Pieces.{before, on_ok, same, bytes}
use Rattle.shell_answers.proofs.Texts.{loop-pieces}
use Rattle.shell_answers.proofs.processes.put_loop.Goals as goal

pub returns : goal.returns
returns c =
    let old = c.args.out.now.items in
    let new = c.put-5.new.out.items in
    on_ok c.put-5.result _ _ c.put-5.ensures (λ last. same old new ((codes "{loop,") ++ ((bytes (atom c.args.module.now)) ++ ((44 ∷ []) ++ ((bytes (atom c.args.function.now)) ++ ((44 ∷ []) ++ ((bytes (list c.args.args.now)) ++ ((44 ∷ []) ++ ((bytes (int (pos c.args.serial))) ++ (125 ∷ []))))))))) _ (before (old) (c.put.new.out.items) new (codes "{loop,") ((bytes (atom c.args.module.now)) ++ ((44 ∷ []) ++ ((bytes (atom c.args.function.now)) ++ ((44 ∷ []) ++ ((bytes (list c.args.args.now)) ++ ((44 ∷ []) ++ ((bytes (int (pos c.args.serial))) ++ (125 ∷ [])))))))) c.in_ok-put.ensures (before (c.put.new.out.items) (c.print_atom.new.out.items) new (bytes (atom c.args.module.now)) ((44 ∷ []) ++ ((bytes (atom c.args.function.now)) ++ ((44 ∷ []) ++ ((bytes (list c.args.args.now)) ++ ((44 ∷ []) ++ ((bytes (int (pos c.args.serial))) ++ (125 ∷ []))))))) c.in_ok-print_atom.ensures.printed (before (c.print_atom.new.out.items) (c.put-2.new.out.items) new (44 ∷ []) ((bytes (atom c.args.function.now)) ++ ((44 ∷ []) ++ ((bytes (list c.args.args.now)) ++ ((44 ∷ []) ++ ((bytes (int (pos c.args.serial))) ++ (125 ∷ [])))))) c.in_ok-put-2.ensures (before (c.put-2.new.out.items) (c.print_atom-2.new.out.items) new (bytes (atom c.args.function.now)) ((44 ∷ []) ++ ((bytes (list c.args.args.now)) ++ ((44 ∷ []) ++ ((bytes (int (pos c.args.serial))) ++ (125 ∷ []))))) c.in_ok-print_atom-2.ensures.printed (before (c.print_atom-2.new.out.items) (c.put-3.new.out.items) new (44 ∷ []) ((bytes (list c.args.args.now)) ++ ((44 ∷ []) ++ ((bytes (int (pos c.args.serial))) ++ (125 ∷ [])))) c.in_ok-put-3.ensures (before (c.put-3.new.out.items) (c.print_list.new.out.items) new (bytes (list c.args.args.now)) ((44 ∷ []) ++ ((bytes (int (pos c.args.serial))) ++ (125 ∷ []))) (c.in_ok-print_list.ensures.printed ∙ ap (λ ts. c.put-3.new.out.items ++ bytes (list ts)) (ap trees (append-nil c.as_slice.result.now) ∙ c.as_slice.ensures)) (before (c.print_list.new.out.items) (c.put-4.new.out.items) new (44 ∷ []) ((bytes (int (pos c.args.serial))) ++ (125 ∷ [])) c.in_ok-put-4.ensures (before (c.put-4.new.out.items) (c.put_number.new.out.items) new (bytes (int (pos c.args.serial))) (125 ∷ []) c.in_ok-put_number.ensures last)))))))) (loop-pieces c.args.module.now c.args.function.now c.args.args.now c.args.serial))
