-- What is found among the acts that are left is found among all.
use Rattle.std.proofs.Common.{◌≡◌, drop}
use Rattle.sys_protocol.specs.StartResults.{name_in}
use Rattle.sys_protocol.proofs.results.name_in.Given as goal

abbrev pub invariant-loop-act : goal.invariant-loop-act
invariant-loop-act l = name_in (drop l.act-index l.acts) ≡ name_in l.acts
