-- The pieces are the line's.
use Rattle.std.proofs.Common.{◌++◌, codes}
use Rattle.erl_term.specs.Tree.{atom}
use Rattle.shell_answers.proofs.Pieces.{before, on_ok, same, bytes}
use Rattle.shell_answers.proofs.Texts.{loaded-line}
use Rattle.shell_answers.proofs.lines.write_loaded.Goals as goal

pub returns : goal.returns
returns c =
    let old = c.args.out.now.items in
    let new = c.put-2.new.out.items in
    on_ok c.put-2.result _ _ c.put-2.ensures (λ last. same old new ((codes "{module,") ++ ((bytes (atom c.args.name.now)) ++ (codes "}\n"))) _ (before (old) (c.put.new.out.items) new (codes "{module,") ((bytes (atom c.args.name.now)) ++ (codes "}\n")) c.in_ok-put.ensures (before (c.put.new.out.items) (c.print_atom.new.out.items) new (bytes (atom c.args.name.now)) (codes "}\n") c.in_ok-print_atom.ensures.printed last)) (loaded-line c.args.name.now))
