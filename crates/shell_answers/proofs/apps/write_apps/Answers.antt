-- The pieces are the line's.
use Rattle.std.proofs.Common.{◌++◌, codes}
use Rattle.erl_term.specs.Text.{utf8, elements_text}
use Rattle.shell_answers.specs.Answers.{apps_of}
use Rattle.shell_answers.proofs.Pieces.{before, on_ok, same}
use Rattle.shell_answers.proofs.Texts.{list-line, apps-tuples}
use Rattle.shell_answers.proofs.apps.write_apps.Goals as goal

pub returns : goal.returns
returns c =
    let old = c.args.out.now.items in
    let new = c.put-2.new.out.items in
    on_ok c.put-2.result _ _ c.put-2.ensures (λ last. same old new ((codes "[") ++ ((utf8 (elements_text (apps_of c.args.apps.now))) ++ (codes "]\n"))) _ (before (old) (c.put.new.out.items) new (codes "[") ((utf8 (elements_text (apps_of c.args.apps.now))) ++ (codes "]\n")) c.in_ok-put.ensures (before (c.put.new.out.items) (c.put_apps.new.out.items) new (utf8 (elements_text (apps_of c.args.apps.now))) (codes "]\n") c.in_ok-put_apps.ensures last)) (list-line (apps_of c.args.apps.now) (apps-tuples c.args.apps.now)))
