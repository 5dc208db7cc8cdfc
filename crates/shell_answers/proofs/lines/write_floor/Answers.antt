-- The pieces are the line's.
use Rattle.std.proofs.Common.{◌++◌, codes, pos}
use Rattle.erl_term.specs.Tree.{int}
use Rattle.shell_answers.proofs.Pieces.{before, on_ok, same, bytes}
use Rattle.shell_answers.proofs.Texts.{floor-line}
use Rattle.shell_answers.proofs.lines.write_floor.Goals as goal

pub returns : goal.returns
returns c =
    let old = c.args.out.now.items in
    let new = c.put-2.new.out.items in
    on_ok c.put-2.result _ _ c.put-2.ensures (λ last. same old new ((codes "{floor,") ++ ((bytes (int (pos c.args.mark))) ++ (codes "}\n"))) _ (before (old) (c.put.new.out.items) new (codes "{floor,") ((bytes (int (pos c.args.mark))) ++ (codes "}\n")) c.in_ok-put.ensures (before (c.put.new.out.items) (c.put_number.new.out.items) new (bytes (int (pos c.args.mark))) (codes "}\n") c.in_ok-put_number.ensures last)) (floor-line c.args.mark))
