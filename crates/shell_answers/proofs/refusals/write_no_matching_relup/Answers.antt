-- The pieces are the line's.
use Rattle.std.proofs.Common.{◌++◌, codes}
use Rattle.std.specs.Str.{chars}
use Rattle.release_words.specs.Words.{string_tree}
use Rattle.shell_answers.proofs.Pieces.{before, on_ok, same, bytes}
use Rattle.shell_answers.proofs.Texts.{no_matching_relup-line}
use Rattle.shell_answers.proofs.refusals.write_no_matching_relup.Goals as goal

pub returns : goal.returns
returns c =
    let old = c.args.out.now.items in
    let new = c.put-3.new.out.items in
    on_ok c.put-3.result _ _ c.put-3.ensures (λ last. same old new ((codes "{error,{no_matching_relup,") ++ ((bytes (string_tree (chars c.args.vsn.now))) ++ ((codes ",") ++ ((bytes (string_tree (chars c.args.running.now))) ++ (codes "}}\n"))))) _ (before old c.put.new.out.items new (codes "{error,{no_matching_relup,") ((bytes (string_tree (chars c.args.vsn.now))) ++ ((codes ",") ++ ((bytes (string_tree (chars c.args.running.now))) ++ (codes "}}\n")))) c.in_ok-put.ensures (before c.put.new.out.items c.print_string.new.out.items new (bytes (string_tree (chars c.args.vsn.now))) ((codes ",") ++ ((bytes (string_tree (chars c.args.running.now))) ++ (codes "}}\n"))) c.in_ok-print_string.ensures.printed (before c.print_string.new.out.items c.put-2.new.out.items new (codes ",") ((bytes (string_tree (chars c.args.running.now))) ++ (codes "}}\n")) c.in_ok-put-2.ensures (before c.put-2.new.out.items c.print_string-2.new.out.items new (bytes (string_tree (chars c.args.running.now))) (codes "}}\n") c.in_ok-print_string-2.ensures.printed last)))) (no_matching_relup-line (chars c.args.vsn.now) (chars c.args.running.now)))
