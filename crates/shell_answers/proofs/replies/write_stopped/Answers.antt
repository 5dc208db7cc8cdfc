-- The pieces are the line's.
use Rattle.std.proofs.Common.{◌++◌, ◌∷◌, [], codes, pos}
use Rattle.erl_term.specs.Tree.{int, list}
use Rattle.shell_answers.specs.Answers.{arrivals_of, replies_of}
use Rattle.shell_answers.proofs.Pieces.{before, on_ok, same, bytes}
use Rattle.shell_answers.proofs.Texts.{stopped-line}
use Rattle.shell_answers.proofs.replies.write_stopped.Goals as goal

pub returns : goal.returns
returns c =
    let old = c.args.out.now.items in
    let new = c.put-3.new.out.items in
    on_ok c.put-3.result _ _ c.put-3.ensures (λ last. same old new ((codes "{error,{memory,") ++ ((bytes (int (pos c.args.mark))) ++ ((44 ∷ []) ++ ((bytes (int (pos c.args.report.now.cut)) ++ 44 ∷ (bytes (list (replies_of c.args.report.now.notes)) ++ 44 ∷ bytes (list (arrivals_of c.args.report.now.notes)))) ++ (codes "}}\n"))))) _ (before (old) (c.put.new.out.items) new (codes "{error,{memory,") ((bytes (int (pos c.args.mark))) ++ ((44 ∷ []) ++ ((bytes (int (pos c.args.report.now.cut)) ++ 44 ∷ (bytes (list (replies_of c.args.report.now.notes)) ++ 44 ∷ bytes (list (arrivals_of c.args.report.now.notes)))) ++ (codes "}}\n")))) c.in_ok-put.ensures (before (c.put.new.out.items) (c.put_number.new.out.items) new (bytes (int (pos c.args.mark))) ((44 ∷ []) ++ ((bytes (int (pos c.args.report.now.cut)) ++ 44 ∷ (bytes (list (replies_of c.args.report.now.notes)) ++ 44 ∷ bytes (list (arrivals_of c.args.report.now.notes)))) ++ (codes "}}\n"))) c.in_ok-put_number.ensures (before (c.put_number.new.out.items) (c.put-2.new.out.items) new (44 ∷ []) ((bytes (int (pos c.args.report.now.cut)) ++ 44 ∷ (bytes (list (replies_of c.args.report.now.notes)) ++ 44 ∷ bytes (list (arrivals_of c.args.report.now.notes)))) ++ (codes "}}\n")) c.in_ok-put-2.ensures (before (c.put-2.new.out.items) (c.put_report.new.out.items) new (bytes (int (pos c.args.report.now.cut)) ++ 44 ∷ (bytes (list (replies_of c.args.report.now.notes)) ++ 44 ∷ bytes (list (arrivals_of c.args.report.now.notes)))) (codes "}}\n") c.in_ok-put_report.ensures last)))) (stopped-line c.args.mark c.args.report.now))
