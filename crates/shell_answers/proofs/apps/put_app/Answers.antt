-- The pieces are the tuple's.
use Rattle.std.proofs.Common.{◌++◌, ◌∷◌, [], ap, ◌∙◌}
use Rattle.erl_term.specs.Tree.{atom}
use Rattle.release_words.specs.Words.{string_tree}
use Rattle.shell_answers.proofs.Pieces.{before, on_ok, same, bytes}
use Rattle.shell_answers.specs.Answers.{pair}
use Rattle.shell_answers.proofs.Texts.{pair-pieces}
use Rattle.shell_answers.proofs.apps.put_app.Goals as goal

pub returns : goal.returns
returns c =
    let old = c.args.out.now.items in
    let new = c.put-3.new.out.items in
    on_ok c.put-3.result _ _ c.put-3.ensures (λ last. same old new ((123 ∷ []) ++ ((bytes (atom c.spec-spec.result.now.name)) ++ ((44 ∷ []) ++ ((bytes (string_tree c.spec-spec.result.now.vsn)) ++ (125 ∷ []))))) _ (before (old) (c.put.new.out.items) new (123 ∷ []) ((bytes (atom c.spec-spec.result.now.name)) ++ ((44 ∷ []) ++ ((bytes (string_tree c.spec-spec.result.now.vsn)) ++ (125 ∷ [])))) c.in_ok-put.ensures (before (c.put.new.out.items) (c.print_atom.new.out.items) new (bytes (atom c.spec-spec.result.now.name)) ((44 ∷ []) ++ ((bytes (string_tree c.spec-spec.result.now.vsn)) ++ (125 ∷ []))) c.in_ok-print_atom.ensures.printed (before (c.print_atom.new.out.items) (c.put-2.new.out.items) new (44 ∷ []) ((bytes (string_tree c.spec-spec.result.now.vsn)) ++ (125 ∷ [])) c.in_ok-put-2.ensures (before (c.put-2.new.out.items) (c.print_string.new.out.items) new (bytes (string_tree c.spec-spec.result.now.vsn)) (125 ∷ []) (c.in_ok-print_string.ensures.printed ∙ ap (λ cs. c.put-2.new.out.items ++ bytes (string_tree cs)) c.as_str.ensures.chars) last)))) (pair-pieces (atom c.spec-spec.result.now.name) (string_tree c.spec-spec.result.now.vsn) ∙ ap (λ s. bytes (pair (atom s.name) (string_tree s.vsn))) c.spec-spec.ensures))
