-- The pieces are the pid's.
use Rattle.std.proofs.Common.{◌++◌, codes, pos}
use Rattle.erl_term.specs.Tree.{int}
use Rattle.shell_answers.proofs.Pieces.{before, on_ok, same, bytes, pid-pieces}
use Rattle.shell_answers.proofs.bytes.put_pid.Goals as goal

pub returns : goal.returns
returns c =
    let old = c.args.out.now.items in
    let new = c.put-2.new.out.items in
    on_ok c.put-2.result _ _ c.put-2.ensures (λ last. same old new ((codes "<0.") ++ ((bytes (int (pos c.args.n))) ++ (codes ".0>"))) _ (before (old) (c.put.new.out.items) new (codes "<0.") ((bytes (int (pos c.args.n))) ++ (codes ".0>")) c.in_ok-put.ensures (before (c.put.new.out.items) (c.put_number.new.out.items) new (bytes (int (pos c.args.n))) (codes ".0>") c.in_ok-put_number.ensures last)) (pid-pieces c.args.n))
