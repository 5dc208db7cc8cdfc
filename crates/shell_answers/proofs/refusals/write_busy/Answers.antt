-- The pieces are the line's.
use Rattle.std.proofs.Common.{◌++◌, codes}
use Rattle.erl_term.specs.Tree.{pid}
use Rattle.shell_answers.proofs.Pieces.{before, on_ok, same, bytes}
use Rattle.shell_answers.proofs.Texts.{busy-line}
use Rattle.shell_answers.proofs.refusals.write_busy.Goals as goal

pub returns : goal.returns
returns c =
    let old = c.args.out.now.items in
    let new = c.put-2.new.out.items in
    on_ok c.put-2.result _ _ c.put-2.ensures (λ last. same old new ((codes "{error,{busy,") ++ ((bytes (pid c.args.pid)) ++ (codes "}}\n"))) _ (before old c.put.new.out.items new (codes "{error,{busy,") ((bytes (pid c.args.pid)) ++ (codes "}}\n")) c.in_ok-put.ensures (before c.put.new.out.items c.put_pid.new.out.items new (bytes (pid c.args.pid)) (codes "}}\n") c.in_ok-put_pid.ensures last)) (busy-line c.args.pid))
