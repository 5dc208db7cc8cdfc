-- What is found among the acts that are left is found among all.
use Rattle.std.proofs.Common.{◌≡◌, drop}
use Rattle.sys_protocol.specs.StartResults.{starts}
use Rattle.sys_protocol.proofs.results.starts.Given as goal

abbrev pub invariant-loop-act : goal.invariant-loop-act
invariant-loop-act l = starts (drop l.act-index l.acts) ≡ starts l.acts
