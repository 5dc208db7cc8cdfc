-- A read had the reply, which can't be copied; or it had none, and its end can't be counted.
use Rattle.std.proofs.Common.{◌+◌, length, rules, refl}
use Rattle.workers.specs.Calling.{LookFails}
use Rattle.workers.specs.declared.error.WorkError.TheVariants.{Memory}
use Rattle.workers.proofs.Passed.{passed_on}
use Rattle.workers.proofs.Unanswered.{look_uncopied, look_uncounted}
use Rattle.workers.proofs.calling.look.Goals as goal

pub returns-in_err-copy-clause-fails : goal.returns-in_err-copy-clause-fails
returns-in_err-copy-clause-fails g c =
    let from = c.args.from.now in
    let seat = c.args.seat.now in
    let after = c.replies.new.seat in
    let rs = c.in_ok-replies.replies in
    passed_on (LookFails c.args.number from seat after) c.from_residual-in_err-copy.result Memory c.from_residual-in_err-copy.ensures
    (look_uncopied c.args.number from 0 c.in-Some.reply.now Memory seat after refl (rs, search rules, c.in_ok-replies.ensures.1))

pub returns-in_err-from-clause-fails : goal.returns-in_err-from-clause-fails
returns-in_err-from-clause-fails g c =
    let from = c.args.from.now in
    let seat = c.args.seat.now in
    let after = c.replies.new.seat in
    let rs = c.in_ok-replies.replies in
    let why = c.in_err-from.field-0.0 in
    passed_on (LookFails c.args.number from seat after) c.from_residual-in_err-from.result why c.from_residual-in_err-from.ensures
    (look_uncounted c.args.number from (from + length rs) why seat after (search rules) (rs, search rules, refl, c.in_ok-replies.ensures.1))
