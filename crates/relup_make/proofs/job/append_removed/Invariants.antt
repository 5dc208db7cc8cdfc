-- The jobs of the applications from here on, the last first.
use Rattle.std.proofs.Common.{◌≡◌, ◌++◌, ◌∷◌, [], drop, reverse}
use Rattle.std.specs.List.{flat_map}
use Rattle.high_instructions.specs.declared.high.ApplicationWork.TheVariants.{Remove}
use Rattle.relup_make.specs.Ways.{way_of}
use Rattle.relup_make.specs.Work.{is_only_in, lone, source, target}
use Rattle.relup_make.proofs.Firsts.{tested}
use Rattle.relup_make.proofs.job.append_removed.Given as goal

abbrev pub invariant-loop-index : goal.invariant-loop-index
invariant-loop-index l =
    let way = way_of l.way in
    l.jobs.items ≡ l.fn.jobs.items ++ flat_map (tested (is_only_in (source way) (target way)) (λ name. lone name Remove ∷ [])) (reverse (drop l.index l.apps))
