-- By what is told.
use Rattle.std.proofs.Common.{◌++◌, ◌∷◌, [], codes, pos, sym, ap, ◌∙◌}
use Rattle.erl_term.specs.Tree.{int}
use Rattle.erl_term.specs.Term.{tree}
use Rattle.shell_answers.specs.Answers.{replied_by}
use Rattle.shell_answers.proofs.Pieces.{on_ok, same, bytes}
use Rattle.shell_answers.proofs.Texts.{reply-pieces, down-pieces}
use Rattle.shell_answers.proofs.replies.put_reply.Goals as goal

pub returns-in-Reply : goal.returns-in-Reply
returns-in-Reply c =
    on_ok c.put_told.result _ _ c.put_told.ensures (λ wrote. same c.args.out.now.items c.put_told.new.out.items (codes "{reply," ++ (bytes (int (pos c.args.reply.now.client)) ++ 44 ∷ (bytes (int (pos c.args.reply.now.number)) ++ 44 ∷ (bytes (tree c.in-Reply.term) ++ 125 ∷ [])))) _ wrote (reply-pieces c.args.reply.now.client c.args.reply.now.number c.in-Reply.term ∙ ap (λ b. bytes (replied_by b c.args.reply.now.client c.args.reply.now.number)) (sym c.in-Reply.is)))

pub returns-in-Down : goal.returns-in-Down
returns-in-Down c =
    on_ok c.put_told-in-Down.result _ _ c.put_told-in-Down.ensures (λ wrote. same c.args.out.now.items c.put_told-in-Down.new.out.items (codes "{down," ++ (bytes (int (pos c.args.reply.now.client)) ++ 44 ∷ (bytes (int (pos c.args.reply.now.number)) ++ 44 ∷ (bytes (tree c.in-Down.reason) ++ 125 ∷ [])))) _ wrote (down-pieces c.args.reply.now.client c.args.reply.now.number c.in-Down.reason ∙ ap (λ b. bytes (replied_by b c.args.reply.now.client c.args.reply.now.number)) (sym c.in-Down.is)))
