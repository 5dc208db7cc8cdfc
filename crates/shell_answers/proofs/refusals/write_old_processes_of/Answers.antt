-- The pieces are the line's.
use Rattle.std.proofs.Common.{◌++◌, codes}
use Rattle.erl_term.specs.Tree.{atom}
use Rattle.shell_answers.proofs.Pieces.{before, on_ok, same, bytes}
use Rattle.shell_answers.proofs.Texts.{old_processes-line}
use Rattle.shell_answers.proofs.refusals.write_old_processes_of.Goals as goal

pub returns : goal.returns
returns c =
    let old = c.args.out.now.items in
    let new = c.put-2.new.out.items in
    on_ok c.put-2.result _ _ c.put-2.ensures (λ last. same old new ((codes "{error,{old_processes,") ++ ((bytes (atom c.args.name.now)) ++ (codes "}}\n"))) _ (before old c.put.new.out.items new (codes "{error,{old_processes,") ((bytes (atom c.args.name.now)) ++ (codes "}}\n")) c.in_ok-put.ensures (before c.put.new.out.items c.print_atom.new.out.items new (bytes (atom c.args.name.now)) (codes "}}\n") c.in_ok-print_atom.ensures.printed last)) (old_processes-line c.args.name.now))
