-- What was there before stands before what is cut off.
use Rattle.std.proofs.Common.{length, ap}
use Rattle.erl_term.proofs.Appending.{settled_back}
use Rattle.erl_term.proofs.printing.print_atom.Goals as goal

pub returns-clause-err : goal.returns-clause-err
returns-clause-err c =
    settled_back c.append_atom-appended.result c.settled.result c.args.out.now.items c.append_atom-appended.new.out.items c.settled.new.out.items _ (length c.as_slice-start.result.now) c.append_atom-appended.ensures (ap length c.as_slice-start.ensures.value) c.settled.ensures.err
