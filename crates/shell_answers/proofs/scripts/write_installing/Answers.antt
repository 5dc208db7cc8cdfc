-- The pieces are the line's.
use Rattle.std.proofs.Common.{◌++◌, codes, pos}
use Rattle.std.specs.Str.{chars}
use Rattle.erl_term.specs.Tree.{int}
use Rattle.release_words.specs.Words.{string_tree}
use Rattle.shell_answers.proofs.Pieces.{before, on_ok, same, bytes}
use Rattle.shell_answers.proofs.Texts.{begun-line}
use Rattle.shell_answers.proofs.scripts.write_installing.Goals as goal

pub returns : goal.returns
returns c =
    let old = c.args.out.now.items in
    let new = c.put-3.new.out.items in
    on_ok c.put-3.result _ _ c.put-3.ensures (λ last. same old new ((codes "{installing,") ++ ((bytes (string_tree (chars c.args.vsn.now))) ++ ((codes ",") ++ ((bytes (int (pos c.args.instructions))) ++ (codes "}\n"))))) _ (before old c.put.new.out.items new (codes "{installing,") ((bytes (string_tree (chars c.args.vsn.now))) ++ ((codes ",") ++ ((bytes (int (pos c.args.instructions))) ++ (codes "}\n")))) c.in_ok-put.ensures (before c.put.new.out.items c.print_string.new.out.items new (bytes (string_tree (chars c.args.vsn.now))) ((codes ",") ++ ((bytes (int (pos c.args.instructions))) ++ (codes "}\n"))) c.in_ok-print_string.ensures.printed (before c.print_string.new.out.items c.put-2.new.out.items new (codes ",") ((bytes (int (pos c.args.instructions))) ++ (codes "}\n")) c.in_ok-put-2.ensures (before c.put-2.new.out.items c.put_number.new.out.items new (bytes (int (pos c.args.instructions))) (codes "}\n") c.in_ok-put_number.ensures last)))) (begun-line (chars c.args.vsn.now) c.args.instructions))
