-- The object code of the jobs so far.
use Rattle.std.proofs.Common.{◌≡◌, ◌++◌, take}
use Rattle.std.specs.List.{flat_map}
use Rattle.relup_make.specs.Scripts.{own_object_code}
use Rattle.relup_make.proofs.scripting.append_own_object_code.Given as goal

abbrev pub invariant-loop-job : goal.invariant-loop-job
invariant-loop-job l =
    l.script.items ≡ l.fn.script.items ++ flat_map (λ job. flat_map own_object_code job.instructions) (take l.job-index l.jobs)
