-- The pieces are those of the line.
use Rattle.std.proofs.Common.{◌++◌, codes, refl}
use Rattle.erl_term.specs.Tree.{atom}
use Rattle.shell_answers.proofs.Pieces.{before, bytes, on_ok, same}
use Rattle.shell_answers.proofs.relups.write_of_name.Goals as goal

pub returns : goal.returns
returns c =
    let old = c.args.out.now.items in
    let new = c.put-2.new.out.items in
    on_ok c.put-2.result _ _ c.put-2.ensures (λ last. same old new ((c.args.front.now) ++ ((bytes (atom c.args.name.now)) ++ (codes "}}\n"))) _ (before old c.put.new.out.items new (c.args.front.now) ((bytes (atom c.args.name.now)) ++ (codes "}}\n")) c.in_ok-put.ensures (before c.put.new.out.items c.print_atom.new.out.items new (bytes (atom c.args.name.now)) (codes "}}\n") c.in_ok-print_atom.ensures.printed last)) refl)
