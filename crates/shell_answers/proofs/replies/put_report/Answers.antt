-- The pieces are the report's.
use Rattle.std.proofs.Common.{◌++◌, ◌∷◌, codes, pos, ap, ◌∙◌}
use Rattle.erl_term.specs.Tree.{int, list}
use Rattle.erl_term.specs.Text.{utf8, elements_text}
use Rattle.shell_answers.specs.Answers.{arrivals_of, replies_of}
use Rattle.shell_answers.proofs.Pieces.{before, on_ok, same, bytes}
use Rattle.shell_answers.proofs.Texts.{report-pieces}
use Rattle.shell_answers.proofs.replies.put_report.Goals as goal

pub returns : goal.returns
returns c =
    let old = c.args.out.now.items in
    let new = c.put-3.new.out.items in
    on_ok c.put-3.result _ _ c.put-3.ensures (λ last. same old new ((bytes (int (pos c.args.report.now.cut))) ++ ((codes ",[") ++ ((utf8 (elements_text (replies_of c.as_slice-notes.result.now))) ++ ((codes "],[") ++ ((utf8 (elements_text (arrivals_of c.as_slice-notes.result.now))) ++ (codes "]")))))) _ (before (old) (c.put_number.new.out.items) new (bytes (int (pos c.args.report.now.cut))) ((codes ",[") ++ ((utf8 (elements_text (replies_of c.as_slice-notes.result.now))) ++ ((codes "],[") ++ ((utf8 (elements_text (arrivals_of c.as_slice-notes.result.now))) ++ (codes "]"))))) c.in_ok-put_number.ensures (before (c.put_number.new.out.items) (c.put.new.out.items) new (codes ",[") ((utf8 (elements_text (replies_of c.as_slice-notes.result.now))) ++ ((codes "],[") ++ ((utf8 (elements_text (arrivals_of c.as_slice-notes.result.now))) ++ (codes "]")))) c.in_ok-put.ensures (before (c.put.new.out.items) (c.put_replies_of.new.out.items) new (utf8 (elements_text (replies_of c.as_slice-notes.result.now))) ((codes "],[") ++ ((utf8 (elements_text (arrivals_of c.as_slice-notes.result.now))) ++ (codes "]"))) c.in_ok-put_replies_of.ensures (before (c.put_replies_of.new.out.items) (c.put-2.new.out.items) new (codes "],[") ((utf8 (elements_text (arrivals_of c.as_slice-notes.result.now))) ++ (codes "]")) c.in_ok-put-2.ensures (before (c.put-2.new.out.items) (c.put_arrivals_of.new.out.items) new (utf8 (elements_text (arrivals_of c.as_slice-notes.result.now))) (codes "]") c.in_ok-put_arrivals_of.ensures last))))) (report-pieces c.args.report.now.cut c.as_slice-notes.result.now ∙ ap (λ ns. bytes (int (pos c.args.report.now.cut)) ++ 44 ∷ (bytes (list (replies_of ns)) ++ 44 ∷ bytes (list (arrivals_of ns)))) c.as_slice-notes.ensures))
