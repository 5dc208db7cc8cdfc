-- A pid that has no number is not in the set.
use Rattle.std.proofs.Common.{arith}
use Rattle.process_store.proofs.Marking.{no_number, not_given}
use Rattle.process_store.proofs.marked.mark.Goals as goal
use Rattle.process_store.proofs.marked.mark.Goals.{else-below-pid-via-then-below-pid+else-pid-last, else-below-pid-via-else-below-pid}

pub returns-else-below-pid : goal.returns-else-below-pid
returns-else-below-pid c =
    let no = no_number c.args.ready.now c.args.below c.args.slots.now c.args.pid c.requires in
    let past = not_given c.args.ready.now c.args.below c.args.slots.now c.args.pid c.requires in
    elim c.else-below-pid.branch [
      | else-below-pid-via-then-below-pid+else-pid-last w ↦ past (omega (arith, w.last.ensures, w.if-pid-last.false))
      | else-below-pid-via-else-below-pid w ↦ no (omega (arith, w.if-below-pid.false))
    ]
