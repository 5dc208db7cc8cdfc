-- What was told next is the reply of this answer, or is not.
use Rattle.std.proofs.Common.{◌++◌, List, None, Some, length, map, sym, ap, ◌∙◌}
use Rattle.process_effects.specs.Parted.{answers_told}
use Rattle.process_effects.specs.Told.{down}
use Rattle.process_effects.specs.declared.told.Reply.{Reply}
use Rattle.process_effects.proofs.Replies.{told_next}
use Rattle.process_effects.specs.Telling.{client_at}
use Rattle.process_effects.proofs.telling.tell_answer.Goals as goal

pub returns-in-Some-clause-told : goal.returns-in-Some-clause-told
returns-in-Some-clause-told c = λ others table calls reason is.
    let at = sym c.in-Some.is ∙ c.client_at.ensures ∙ ap (λ (rs : List Reply). client_at c.args.answer.number (length rs) c.args.told.now) c.as_slice-done.ensures.value in
    let (after, told) = told_next c.args.replies.now.items c.args.answer others table calls reason c.args.told.now is (Some c.in-Some.client) at in
    (after, told ∙ ap (λ rs. rs ++ (answers_told others after ++ map (down reason) calls)) (sym c.push_reserved.ensures.items))

pub returns-in-None-clause-told : goal.returns-in-None-clause-told
returns-in-None-clause-told c = λ others table calls reason is.
    let at = sym c.in-None.is ∙ c.client_at.ensures ∙ ap (λ (rs : List Reply). client_at c.args.answer.number (length rs) c.args.told.now) c.as_slice-done.ensures.value in
    told_next c.args.replies.now.items c.args.answer others table calls reason c.args.told.now is None at
