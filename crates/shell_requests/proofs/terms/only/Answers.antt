-- There are as many as are counted.
use Rattle.std.proofs.Common.{ap, arith, length}
use Rattle.shell_requests.proofs.Counts.{not_one_of}
use Rattle.shell_requests.proofs.terms.only.Goals as goal

pub returns : goal.returns
returns c = not_one_of c.args.terms.items (λ one. omega (arith, one, c.if-as_slice-eq1.false, ap length c.as_slice.ensures.value))
