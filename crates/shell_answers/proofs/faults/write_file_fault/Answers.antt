-- The pieces are the line's.
use Rattle.std.proofs.Common.{◌++◌, ◌∷◌, [], codes}
use Rattle.erl_term.specs.Tree.{list}
use Rattle.std.specs.Str.{chars}
use Rattle.erl_term.specs.Rows.{integers}
use Rattle.shell_answers.specs.Faults.{fault_of}
use Rattle.shell_answers.proofs.Pieces.{before, on_ok, same, bytes}
use Rattle.shell_answers.proofs.Texts.{file_fault-line}
use Rattle.shell_answers.proofs.faults.write_file_fault.Goals as goal

pub returns : goal.returns
returns c =
    let old = c.args.out.now.items in
    let new = c.put-3.new.out.items in
    on_ok c.put-3.result _ _ c.put-3.ensures (λ last. same old new ((codes "{error,{file,") ++ ((bytes (list (integers (chars c.args.path.now)))) ++ ((44 ∷ []) ++ ((bytes (fault_of c.args.fault)) ++ (codes "}}\n"))))) _ (before (old) (c.put.new.out.items) new (codes "{error,{file,") ((bytes (list (integers (chars c.args.path.now)))) ++ ((44 ∷ []) ++ ((bytes (fault_of c.args.fault)) ++ (codes "}}\n")))) c.in_ok-put.ensures (before (c.put.new.out.items) (c.print_string.new.out.items) new (bytes (list (integers (chars c.args.path.now)))) ((44 ∷ []) ++ ((bytes (fault_of c.args.fault)) ++ (codes "}}\n"))) c.in_ok-print_string.ensures.printed (before (c.print_string.new.out.items) (c.put-2.new.out.items) new (44 ∷ []) ((bytes (fault_of c.args.fault)) ++ (codes "}}\n")) c.in_ok-put-2.ensures (before (c.put-2.new.out.items) (c.put_fault.new.out.items) new (bytes (fault_of c.args.fault)) (codes "}}\n") c.in_ok-put_fault.ensures last)))) (file_fault-line c.args.path.now c.args.fault))
