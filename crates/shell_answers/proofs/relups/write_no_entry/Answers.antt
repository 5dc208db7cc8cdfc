-- The pieces are the line's.
use Rattle.std.proofs.Common.{◌++◌, codes, ap, ◌∙◌}
use Rattle.std.specs.Str.{chars}
use Rattle.erl_term.specs.Tree.{atom}
use Rattle.release_words.specs.Words.{string_tree}
use Rattle.shell_answers.specs.Answers.{line_of}
use Rattle.shell_answers.specs.Relups.{no_entry}
use Rattle.shell_answers.proofs.Pieces.{before, bytes, on_ok, same}
use Rattle.shell_answers.proofs.Texts.{no_entry-line}
use Rattle.shell_answers.proofs.relups.write_no_entry.Goals as goal

pub returns : goal.returns
returns c =
    let old = c.args.out.now.items in
    let new = c.put-3.new.out.items in
    on_ok c.put-3.result _ _ c.put-3.ensures (λ last. same old new ((codes "{error,{no_entry,") ++ ((bytes (atom c.args.app.now)) ++ ((codes ",") ++ ((bytes (string_tree (chars c.as_str.result.now))) ++ (codes "}}\n"))))) _ (before old c.put.new.out.items new (codes "{error,{no_entry,") ((bytes (atom c.args.app.now)) ++ ((codes ",") ++ ((bytes (string_tree (chars c.as_str.result.now))) ++ (codes "}}\n")))) c.in_ok-put.ensures (before c.put.new.out.items c.print_atom.new.out.items new (bytes (atom c.args.app.now)) ((codes ",") ++ ((bytes (string_tree (chars c.as_str.result.now))) ++ (codes "}}\n"))) c.in_ok-print_atom.ensures.printed (before c.print_atom.new.out.items c.put-2.new.out.items new (codes ",") ((bytes (string_tree (chars c.as_str.result.now))) ++ (codes "}}\n")) c.in_ok-put-2.ensures (before c.put-2.new.out.items c.print_string.new.out.items new (bytes (string_tree (chars c.as_str.result.now))) (codes "}}\n") c.in_ok-print_string.ensures.printed last)))) (no_entry-line c.args.app.now (chars c.as_str.result.now) ∙ ap (λ v. line_of (no_entry c.args.app.now v)) c.as_str.ensures.chars))
