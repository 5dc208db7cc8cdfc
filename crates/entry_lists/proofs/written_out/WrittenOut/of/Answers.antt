use Rattle.entry_lists.proofs.Left.{begun}
use Rattle.entry_lists.proofs.written_out.WrittenOut.of.Goals as goal

pub invariant_of-result : goal.invariant_of-result
invariant_of-result g c = begun c.args.runs.now c.requires
