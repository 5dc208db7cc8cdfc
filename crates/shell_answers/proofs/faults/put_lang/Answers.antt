-- Each fault by its word and index.
use Rattle.std.proofs.Common.{◌++◌, ◌∷◌, [], codes, pos, sym, ap, ◌∙◌}
use Rattle.erl_term.specs.Tree.{int}
use Rattle.shell_answers.specs.Faults.{kind_word, lang_fault}
use Rattle.shell_answers.proofs.Pieces.{on_ok, same, bytes}
use Rattle.shell_answers.proofs.Texts.{kind-bytes, placed-pieces, syntax-word, unsupported-word, duplicate_function-word, unbound_variable-word, undefined_local-word}
use Rattle.shell_answers.proofs.faults.put_lang.Goals as goal

pub returns-in-Text : goal.returns-in-Text
returns-in-Text c =
    on_ok c.put_placed.result _ _ c.put_placed.ensures (λ wrote. same c.args.out.now.items c.put_placed.new.out.items (123 ∷ (c.kind_word.result.now ++ 44 ∷ (bytes (int (pos c.in-Text.error.at)) ++ 125 ∷ []))) _ wrote (ap (λ word. 123 ∷ (word ++ 44 ∷ (bytes (int (pos c.in-Text.error.at)) ++ 125 ∷ []))) c.kind_word.ensures ∙ placed-pieces (kind_word c.in-Text.error.kind) c.in-Text.error.at (kind-bytes c.in-Text.error.kind) ∙ ap (λ e. bytes (lang_fault e)) (sym c.in-Text.is)))

pub returns-in-Syntax : goal.returns-in-Syntax
returns-in-Syntax c =
    on_ok c.put_placed-in-Syntax.result _ _ c.put_placed-in-Syntax.ensures (λ wrote. same c.args.out.now.items c.put_placed-in-Syntax.new.out.items (123 ∷ ((codes "syntax") ++ 44 ∷ (bytes (int (pos c.in-Syntax.at)) ++ 125 ∷ []))) _ wrote (placed-pieces (codes "syntax") c.in-Syntax.at syntax-word ∙ ap (λ e. bytes (lang_fault e)) (sym c.in-Syntax.is)))

pub returns-in-Unsupported : goal.returns-in-Unsupported
returns-in-Unsupported c =
    on_ok c.put_placed-in-Unsupported.result _ _ c.put_placed-in-Unsupported.ensures (λ wrote. same c.args.out.now.items c.put_placed-in-Unsupported.new.out.items (123 ∷ ((codes "unsupported") ++ 44 ∷ (bytes (int (pos c.in-Unsupported.at)) ++ 125 ∷ []))) _ wrote (placed-pieces (codes "unsupported") c.in-Unsupported.at unsupported-word ∙ ap (λ e. bytes (lang_fault e)) (sym c.in-Unsupported.is)))

pub returns-in-DuplicateFunction : goal.returns-in-DuplicateFunction
returns-in-DuplicateFunction c =
    on_ok c.put_placed-in-DuplicateFunction.result _ _ c.put_placed-in-DuplicateFunction.ensures (λ wrote. same c.args.out.now.items c.put_placed-in-DuplicateFunction.new.out.items (123 ∷ ((codes "duplicate_function") ++ 44 ∷ (bytes (int (pos c.in-DuplicateFunction.at)) ++ 125 ∷ []))) _ wrote (placed-pieces (codes "duplicate_function") c.in-DuplicateFunction.at duplicate_function-word ∙ ap (λ e. bytes (lang_fault e)) (sym c.in-DuplicateFunction.is)))

pub returns-in-UnboundVariable : goal.returns-in-UnboundVariable
returns-in-UnboundVariable c =
    on_ok c.put_placed-in-UnboundVariable.result _ _ c.put_placed-in-UnboundVariable.ensures (λ wrote. same c.args.out.now.items c.put_placed-in-UnboundVariable.new.out.items (123 ∷ ((codes "unbound_variable") ++ 44 ∷ (bytes (int (pos c.in-UnboundVariable.at)) ++ 125 ∷ []))) _ wrote (placed-pieces (codes "unbound_variable") c.in-UnboundVariable.at unbound_variable-word ∙ ap (λ e. bytes (lang_fault e)) (sym c.in-UnboundVariable.is)))

pub returns-in-UndefinedLocal : goal.returns-in-UndefinedLocal
returns-in-UndefinedLocal c =
    on_ok c.put_placed-in-UndefinedLocal.result _ _ c.put_placed-in-UndefinedLocal.ensures (λ wrote. same c.args.out.now.items c.put_placed-in-UndefinedLocal.new.out.items (123 ∷ ((codes "undefined_local") ++ 44 ∷ (bytes (int (pos c.in-UndefinedLocal.at)) ++ 125 ∷ []))) _ wrote (placed-pieces (codes "undefined_local") c.in-UndefinedLocal.at undefined_local-word ∙ ap (λ e. bytes (lang_fault e)) (sym c.in-UndefinedLocal.is)))
