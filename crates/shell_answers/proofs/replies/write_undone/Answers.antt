-- The pieces are the line's.
use Rattle.std.proofs.Common.{◌++◌, ◌∷◌, codes, pos}
use Rattle.erl_term.specs.Tree.{int, list}
use Rattle.shell_answers.specs.Answers.{arrivals_of, replies_of}
use Rattle.shell_answers.proofs.Pieces.{before, on_ok, same, bytes}
use Rattle.shell_answers.proofs.Texts.{undone-line}
use Rattle.shell_answers.proofs.replies.write_undone.Goals as goal

pub returns : goal.returns
returns c =
    let old = c.args.out.now.items in
    let new = c.put-2.new.out.items in
    on_ok c.put-2.result _ _ c.put-2.ensures (λ last. same old new ((codes "{undone,") ++ ((bytes (int (pos c.args.report.now.cut)) ++ 44 ∷ (bytes (list (replies_of c.args.report.now.notes)) ++ 44 ∷ bytes (list (arrivals_of c.args.report.now.notes)))) ++ (codes "}\n"))) _ (before (old) (c.put.new.out.items) new (codes "{undone,") ((bytes (int (pos c.args.report.now.cut)) ++ 44 ∷ (bytes (list (replies_of c.args.report.now.notes)) ++ 44 ∷ bytes (list (arrivals_of c.args.report.now.notes)))) ++ (codes "}\n")) c.in_ok-put.ensures (before (c.put.new.out.items) (c.put_report.new.out.items) new (bytes (int (pos c.args.report.now.cut)) ++ 44 ∷ (bytes (list (replies_of c.args.report.now.notes)) ++ 44 ∷ bytes (list (arrivals_of c.args.report.now.notes)))) (codes "}\n") c.in_ok-put_report.ensures last)) (undone-line c.args.report.now))
