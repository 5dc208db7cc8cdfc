-- Those that are not looked at yet stand behind those that are there.
use Rattle.std.proofs.Common.{◌≡◌, ◌++◌}
use Rattle.sys_protocol.specs.RunningChildren.{all_running}
use Rattle.sys_protocol.proofs.children.all_running.Given as goal

abbrev pub invariant-loop-spec : goal.invariant-loop-spec
invariant-loop-spec l = l.children.items ++ all_running l.spec-iterator.a.rest.items l.spec-iterator.b.rest.now ≡ all_running l.fn.specs l.fn.pids
