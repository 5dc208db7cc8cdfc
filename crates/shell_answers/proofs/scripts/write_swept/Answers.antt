-- The pieces are the line's.
use Rattle.std.proofs.Common.{◌++◌, codes}
use Rattle.erl_term.specs.Conversions.{rows}
use Rattle.erl_term.specs.Text.{elements_text, utf8}
use Rattle.erl_term.specs.Tree.{atom}
use Rattle.shell_answers.proofs.Pieces.{before, on_ok, same}
use Rattle.shell_answers.proofs.Texts.{swept-line}
use Rattle.shell_answers.proofs.scripts.write_swept.Goals as goal

pub returns : goal.returns
returns c =
    let old = c.args.out.now.items in
    let new = c.put-2.new.out.items in
    on_ok c.put-2.result _ _ c.put-2.ensures (λ last. same old new ((codes "{swept,[") ++ ((utf8 (elements_text (rows atom c.args.modules.now))) ++ (codes "]}\n"))) _ (before old c.put.new.out.items new (codes "{swept,[") ((utf8 (elements_text (rows atom c.args.modules.now))) ++ (codes "]}\n")) c.in_ok-put.ensures (before c.put.new.out.items c.put_names.new.out.items new (utf8 (elements_text (rows atom c.args.modules.now))) (codes "]}\n") c.in_ok-put_names.ensures last)) (swept-line c.args.modules.now))
