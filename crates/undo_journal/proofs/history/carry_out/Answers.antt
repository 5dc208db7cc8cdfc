-- An event has the outcome by which it was performed or refused, and a forget that finds no station changes nothing.
use Rattle.undo_journal.proofs.Histories.{IsAfter-performed, IsAfter-refused, IsAfter-forgotten}
use Rattle.undo_journal.proofs.history.carry_out.Goals as goal

pub returns-in-Ok-clause-done : goal.returns-in-Ok-clause-done
returns-in-Ok-clause-done g c =
    IsAfter-performed g.S.Reversible.rule c.args.journal.now c.perform.new.self c.args.command.now c.in-Perform.event 0 c.in-Ok.field-0.items c.in-Perform.is c.in-Ok.ensures.performed

pub returns-in-Err-Step-clause-done : goal.returns-in-Err-Step-clause-done
returns-in-Err-Step-clause-done g c =
    IsAfter-refused g.S.Reversible.rule c.args.journal.now c.perform.new.self c.args.command.now c.in-Perform.event c.in-Err-Step.field-0-0 c.in-Perform.is (rw c.in-Err-Step.field-0-is at c.in-Err-Step.ensures.refused) c.in-Err-Step.ensures.err

pub returns-in-Ok-forget-clause-done : goal.returns-in-Ok-forget-clause-done
returns-in-Ok-forget-clause-done g c =
    IsAfter-forgotten g.S.Reversible.rule c.args.journal.now c.forget.new.self c.args.command.now c.in-Forget.mark c.forget.result c.in-Forget.is c.forget.ensures.forgotten c.forget.ensures.refused c.forget.ensures.err
