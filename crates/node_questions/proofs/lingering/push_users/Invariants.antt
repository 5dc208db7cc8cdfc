-- Those so far.
use Rattle.std.proofs.Common.{◌≡◌, ◌++◌, map, take}
use Rattle.node_questions.proofs.lingering.push_users.Given as goal

abbrev pub invariant-loop-pid : goal.invariant-loop-pid
invariant-loop-pid l = l.found.items ≡ l.fn.found.items ++ map (λ pid. (l.name, pid)) (take l.pid-index l.pid-items)
