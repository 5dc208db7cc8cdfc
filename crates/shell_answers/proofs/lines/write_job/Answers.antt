-- The pieces are the line's.
use Rattle.std.proofs.Common.{◌++◌, codes, pos}
use Rattle.erl_term.specs.Tree.{int}
use Rattle.shell_answers.proofs.Pieces.{before, on_ok, same, bytes}
use Rattle.shell_answers.proofs.Texts.{job-pieces}
use Rattle.shell_answers.proofs.lines.write_job.Goals as goal

pub returns : goal.returns
returns c =
    let old = c.args.out.now.items in
    let new = c.put-3.new.out.items in
    let number = bytes (int (pos c.args.number)) in
    let pid = bytes (int (pos c.args.pid)) in
    let end = pid ++ codes ".0>}\n" in
    let behind = codes ",<0." ++ end in
    on_ok c.put-3.result _ _ c.put-3.ensures (λ last. same old new (codes "{job," ++ (number ++ behind)) _ (before old c.put.new.out.items new (codes "{job,") (number ++ behind) c.in_ok-put.ensures (before c.put.new.out.items c.put_number.new.out.items new number behind c.in_ok-put_number.ensures (before c.put_number.new.out.items c.put-2.new.out.items new (codes ",<0.") end c.in_ok-put-2.ensures (before c.put-2.new.out.items c.put_number-2.new.out.items new pid (codes ".0>}\n") c.in_ok-put_number-2.ensures last)))) (job-pieces c.args.number c.args.pid))
