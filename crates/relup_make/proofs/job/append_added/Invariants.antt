-- The jobs of the applications so far.
use Rattle.std.proofs.Common.{◌≡◌, ◌++◌, ◌∷◌, [], take}
use Rattle.std.specs.List.{flat_map}
use Rattle.high_instructions.specs.declared.high.ApplicationWork.TheVariants.{Add}
use Rattle.relup_make.specs.Releases.{start_type_in}
use Rattle.relup_make.specs.Ways.{way_of}
use Rattle.relup_make.specs.Work.{is_only_in, lone, source, target}
use Rattle.relup_make.proofs.Firsts.{tested}
use Rattle.relup_make.proofs.job.append_added.Given as goal

abbrev pub invariant-loop-app : goal.invariant-loop-app
invariant-loop-app l =
    let way = way_of l.way in
    l.jobs.items ≡ l.fn.jobs.items ++ flat_map (tested (is_only_in (target way) (source way)) (λ name. lone name (Add (start_type_in name (target way))) ∷ [])) (take l.app-index l.apps)
