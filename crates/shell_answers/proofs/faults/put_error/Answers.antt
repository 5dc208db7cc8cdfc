-- Each fault by its word and index.
use Rattle.std.proofs.Common.{◌++◌, ◌∷◌, [], codes, pos, sym, ap, ◌∙◌}
use Rattle.erl_term.specs.Tree.{int}
use Rattle.shell_answers.specs.Faults.{error_of, kind_word, placed}
use Rattle.shell_answers.proofs.Pieces.{on_ok, same, bytes}
use Rattle.shell_answers.proofs.Texts.{kind-bytes, placed-pieces, no_term-word, many_terms-word, shape-word, duplicate_key-word, bad_instruction-word, pattern_version-word, out_of_profile-word, memory-word}
use Rattle.shell_answers.proofs.faults.put_error.Goals as goal

pub returns-in-Text : goal.returns-in-Text
returns-in-Text c =
    on_ok c.put_placed.result _ _ c.put_placed.ensures (λ wrote. same c.args.out.now.items c.put_placed.new.out.items (123 ∷ (c.kind_word.result.now ++ 44 ∷ (bytes (int (pos c.in-Text.error.at)) ++ 125 ∷ []))) _ wrote (ap (λ word. 123 ∷ (word ++ 44 ∷ (bytes (int (pos c.in-Text.error.at)) ++ 125 ∷ []))) c.kind_word.ensures ∙ placed-pieces (kind_word c.in-Text.error.kind) c.in-Text.error.at (kind-bytes c.in-Text.error.kind) ∙ ap (λ e. bytes (error_of e)) (sym c.in-Text.is)))

pub returns-in-NoTerm : goal.returns-in-NoTerm
returns-in-NoTerm c =
    on_ok c.put.result _ _ c.put.ensures (λ wrote. same c.args.out.now.items c.put.new.out.items (codes "no_term") _ wrote (sym no_term-word ∙ ap (λ e. bytes (error_of e)) (sym c.in-NoTerm.is)))

pub returns-in-ManyTerms : goal.returns-in-ManyTerms
returns-in-ManyTerms c =
    on_ok c.put-in-ManyTerms.result _ _ c.put-in-ManyTerms.ensures (λ wrote. same c.args.out.now.items c.put-in-ManyTerms.new.out.items (codes "many_terms") _ wrote (sym many_terms-word ∙ ap (λ e. bytes (error_of e)) (sym c.in-ManyTerms.is)))

pub returns-in-Shape : goal.returns-in-Shape
returns-in-Shape c =
    on_ok c.put_placed-in-Shape.result _ _ c.put_placed-in-Shape.ensures (λ wrote. same c.args.out.now.items c.put_placed-in-Shape.new.out.items (123 ∷ ((codes "shape") ++ 44 ∷ (bytes (int (pos c.from.result)) ++ 125 ∷ []))) _ wrote (placed-pieces (codes "shape") c.from.result shape-word ∙ ap (λ n. bytes (placed (codes "shape") n)) c.from.ensures ∙ ap (λ e. bytes (error_of e)) (sym c.in-Shape.is)))

pub returns-in-DuplicateKey : goal.returns-in-DuplicateKey
returns-in-DuplicateKey c =
    on_ok c.put-in-DuplicateKey.result _ _ c.put-in-DuplicateKey.ensures (λ wrote. same c.args.out.now.items c.put-in-DuplicateKey.new.out.items (codes "duplicate_key") _ wrote (sym duplicate_key-word ∙ ap (λ e. bytes (error_of e)) (sym c.in-DuplicateKey.is)))

pub returns-in-BadInstruction : goal.returns-in-BadInstruction
returns-in-BadInstruction c =
    on_ok c.put_placed-in-BadInstruction.result _ _ c.put_placed-in-BadInstruction.ensures (λ wrote. same c.args.out.now.items c.put_placed-in-BadInstruction.new.out.items (123 ∷ ((codes "bad_instruction") ++ 44 ∷ (bytes (int (pos c.in-BadInstruction.index)) ++ 125 ∷ []))) _ wrote (placed-pieces (codes "bad_instruction") c.in-BadInstruction.index bad_instruction-word ∙ ap (λ e. bytes (error_of e)) (sym c.in-BadInstruction.is)))

pub returns-in-PatternVersion : goal.returns-in-PatternVersion
returns-in-PatternVersion c =
    on_ok c.put-in-PatternVersion.result _ _ c.put-in-PatternVersion.ensures (λ wrote. same c.args.out.now.items c.put-in-PatternVersion.new.out.items (codes "pattern_version") _ wrote (sym pattern_version-word ∙ ap (λ e. bytes (error_of e)) (sym c.in-PatternVersion.is)))

pub returns-in-OutOfProfile : goal.returns-in-OutOfProfile
returns-in-OutOfProfile c =
    on_ok c.put_placed-in-OutOfProfile.result _ _ c.put_placed-in-OutOfProfile.ensures (λ wrote. same c.args.out.now.items c.put_placed-in-OutOfProfile.new.out.items (123 ∷ ((codes "out_of_profile") ++ 44 ∷ (bytes (int (pos c.in-OutOfProfile.index)) ++ 125 ∷ []))) _ wrote (placed-pieces (codes "out_of_profile") c.in-OutOfProfile.index out_of_profile-word ∙ ap (λ e. bytes (error_of e)) (sym c.in-OutOfProfile.is)))

pub returns-in-Memory : goal.returns-in-Memory
returns-in-Memory c =
    on_ok c.put-in-Memory.result _ _ c.put-in-Memory.ensures (λ wrote. same c.args.out.now.items c.put-in-Memory.new.out.items (codes "memory") _ wrote (sym memory-word ∙ ap (λ e. bytes (error_of e)) (sym c.in-Memory.is)))
