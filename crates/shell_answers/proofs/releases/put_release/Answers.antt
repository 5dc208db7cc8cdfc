-- The pieces are the tuple's.
use Rattle.std.proofs.Common.{◌++◌, codes, ap, ◌∙◌}
use Rattle.erl_term.specs.Conversions.{rows}
use Rattle.erl_term.specs.Text.{elements_text, utf8}
use Rattle.release_words.specs.Words.{string_tree}
use Rattle.shell_answers.specs.Answers.{named_versions, status_of}
use Rattle.shell_answers.proofs.Pieces.{before, on_ok, same, bytes}
use Rattle.shell_answers.proofs.Texts.{release-pieces}
use Rattle.shell_answers.proofs.releases.put_release.Goals as goal

pub returns : goal.returns
returns c =
    let old = c.args.out.now.items in
    let new = c.put-5.new.out.items in
    on_ok c.put-5.result _ _ c.put-5.ensures (λ last. same old new ((codes "{") ++ ((bytes (string_tree c.args.it.now.release.rel.name)) ++ ((codes ",") ++ ((bytes (string_tree c.args.it.now.release.rel.vsn)) ++ ((codes ",[") ++ ((utf8 (elements_text (rows string_tree (named_versions c.args.it.now)))) ++ ((codes "],") ++ ((bytes (status_of c.args.it.now.status)) ++ (codes "}"))))))))) _ (before (old) (c.put.new.out.items) new (codes "{") ((bytes (string_tree c.args.it.now.release.rel.name)) ++ ((codes ",") ++ ((bytes (string_tree c.args.it.now.release.rel.vsn)) ++ ((codes ",[") ++ ((utf8 (elements_text (rows string_tree (named_versions c.args.it.now)))) ++ ((codes "],") ++ ((bytes (status_of c.args.it.now.status)) ++ (codes "}")))))))) c.in_ok-put.ensures (before (c.put.new.out.items) (c.print_string.new.out.items) new (bytes (string_tree c.args.it.now.release.rel.name)) ((codes ",") ++ ((bytes (string_tree c.args.it.now.release.rel.vsn)) ++ ((codes ",[") ++ ((utf8 (elements_text (rows string_tree (named_versions c.args.it.now)))) ++ ((codes "],") ++ ((bytes (status_of c.args.it.now.status)) ++ (codes "}"))))))) (c.in_ok-print_string.ensures.printed ∙ ap (λ cs. c.put.new.out.items ++ bytes (string_tree cs)) c.as_str.ensures) (before (c.print_string.new.out.items) (c.put-2.new.out.items) new (codes ",") ((bytes (string_tree c.args.it.now.release.rel.vsn)) ++ ((codes ",[") ++ ((utf8 (elements_text (rows string_tree (named_versions c.args.it.now)))) ++ ((codes "],") ++ ((bytes (status_of c.args.it.now.status)) ++ (codes "}")))))) c.in_ok-put-2.ensures (before (c.put-2.new.out.items) (c.print_string-2.new.out.items) new (bytes (string_tree c.args.it.now.release.rel.vsn)) ((codes ",[") ++ ((utf8 (elements_text (rows string_tree (named_versions c.args.it.now)))) ++ ((codes "],") ++ ((bytes (status_of c.args.it.now.status)) ++ (codes "}"))))) (c.in_ok-print_string-2.ensures.printed ∙ ap (λ cs. c.put-2.new.out.items ++ bytes (string_tree cs)) c.as_str-2.ensures.chars) (before (c.print_string-2.new.out.items) (c.put-3.new.out.items) new (codes ",[") ((utf8 (elements_text (rows string_tree (named_versions c.args.it.now)))) ++ ((codes "],") ++ ((bytes (status_of c.args.it.now.status)) ++ (codes "}")))) c.in_ok-put-3.ensures (before (c.put-3.new.out.items) (c.put_strings.new.out.items) new (utf8 (elements_text (rows string_tree (named_versions c.args.it.now)))) ((codes "],") ++ ((bytes (status_of c.args.it.now.status)) ++ (codes "}"))) (c.in_ok-put_strings.ensures ∙ ap (λ names. c.put-3.new.out.items ++ utf8 (elements_text (rows string_tree names))) c.requires) (before (c.put_strings.new.out.items) (c.put-4.new.out.items) new (codes "],") ((bytes (status_of c.args.it.now.status)) ++ (codes "}")) c.in_ok-put-4.ensures (before (c.put-4.new.out.items) (c.put_status.new.out.items) new (bytes (status_of c.args.it.now.status)) (codes "}") c.in_ok-put_status.ensures last)))))))) (release-pieces c.args.it.now))
