-- The function that it applies.
use Rattle.upgrade_review.proofs.Unanswered.{applied-is}
use Rattle.upgrade_review.proofs.calls.applied_by.Goals as goal

pub returns-in_ok-function-in-Apply : goal.returns-in_ok-function-in-Apply
returns-in_ok-function-in-Apply c =
    applied-is c.args.low.now c.in-Apply.name c.in-Apply.function c.in_ok-module-in-Apply.«module» c.in_ok-function-in-Apply.function
    c.in-Apply.arguments c.as_slice-arity.result.now c.in-Apply.is c.in_ok-module-in-Apply.ensures c.in_ok-function-in-Apply.ensures c.as_slice-arity.ensures
