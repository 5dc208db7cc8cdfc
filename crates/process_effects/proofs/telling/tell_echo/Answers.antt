-- The replies are told, and what is left of what was told says that calls are down.
use Rattle.std.proofs.Common.{◌≡◌, ◌++◌, All, List, length, map, sym, ap, subst}
use Rattle.process_effects.specs.Parted.{answers_told}
use Rattle.process_effects.specs.declared.answers.Answer.{Answer}
use Rattle.process_effects.specs.Told.{down}
use Rattle.process_effects.proofs.Replies.{are_down, rest_down}
use Rattle.process_effects.specs.Telling.{IsDown}
use Rattle.process_effects.proofs.telling.tell_echo.Goals as goal

pub tell_downs-requires-clause-downs : goal.tell_downs-requires-clause-downs
tell_downs-requires-clause-downs c =
    let (answers, reasons, echo, by) = c.requires in
    let is = c.tell_answers.ensures.told by.table by.calls by.reason (subst (λ (xs : List Answer). c.args.told.now ≡ answers_told xs by.table ++ map (down by.reason) by.calls) (sym echo.answers) by.tells) in (
      by.reason,
      subst (All (IsDown by.reason)) (sym (rest_down c.tell_answers.new.replies.items c.args.told.now (length c.as_slice-done.result.now) by.reason by.calls (ap length c.as_slice-done.ensures.value) is)) (are_down by.reason by.calls),
      subst (All (λ r. r ≡ by.reason)) (sym echo.reasons) by.same,
    )
