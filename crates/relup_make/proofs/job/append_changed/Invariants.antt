-- The jobs of the applications so far.
use Rattle.std.proofs.Common.{◌≡◌, ◌++◌, take}
use Rattle.std.specs.List.{flat_map}
use Rattle.std.specs.Option.{option_to_list}
use Rattle.relup_make.specs.Ways.{way_of}
use Rattle.relup_make.specs.Work.{changed_job, is_changed}
use Rattle.relup_make.proofs.Firsts.{tested}
use Rattle.relup_make.proofs.job.append_changed.Given as goal

abbrev pub invariant-loop-app : goal.invariant-loop-app
invariant-loop-app l =
    let way = way_of l.way in
    l.jobs.items ≡ l.fn.jobs.items ++ flat_map (tested (is_changed way) (λ name. option_to_list (changed_job way name))) (take l.app-index l.apps)
