-- Nothing stands against the applications so far.
use Rattle.std.proofs.Common.{◌≡◌, drop}
use Rattle.std.specs.List.{flat_map}
use Rattle.relup_make.specs.Refusals.{appup_refusals, first_of, way_refusals}
use Rattle.relup_make.specs.Ways.{way_of}
use Rattle.relup_make.specs.Work.{appup_of, is_changed}
use Rattle.relup_make.proofs.Firsts.{tested}
use Rattle.relup_make.proofs.refusing.way_refusal.Given as goal

abbrev pub invariant-loop-app : goal.invariant-loop-app
invariant-loop-app l =
    let way = way_of l.way in
    first_of (way_refusals way) ≡ first_of (flat_map (tested (is_changed way) (λ app. appup_refusals way app (appup_of way app))) (drop l.app-index l.apps))
