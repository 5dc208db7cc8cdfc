-- One more is noted.
use Rattle.std.proofs.Common.{◌∷◌, ◌+◌, ◌∙◌, List, [], ap, sym, subst, arith, drop, map}
use Rattle.std.proofs.lemmas.List.{drop_more, map_push}
use Rattle.std.proofs.lemmas.List.Elements.{All-push}
use Rattle.app_table.proofs.Walks.{one_step}
use Rattle.app_table.specs.Changes.{AreNoted, IsNoted}
use Rattle.app_table.specs.declared.spot.Spot.{Spot}
use Rattle.app_table.specs.declared.undo.Rerun.{Rerun}
use Rattle.app_table.proofs.table.AppTable.reruns.Goals as goal

abbrev spot_in : Rerun → Spot
spot_in r = r.spot

pub loop-spot-preserved : goal.loop-spot-preserved
loop-spot-preserved c =
    let k = c.loop-spot.spot-index in
    let all = c.args.spots.now in
    let items = c.loop-spot.reruns.items in
    let r = c.rerun.result in
    let at : Spot = record { app = 0; child = 0 } in
    let put = ap (map spot_in) c.push_reserved.ensures.items ∙ map_push spot_in items r in
    let parts = drop_more all k at c.loop-spot-test.true ∙ ap (λ (s : Spot). s ∷ drop (k + 1) all) (sym c.rerun.ensures.spot) in
    record {
      spots = one_step (map spot_in items) (map spot_in c.push_reserved.new.self.items) (r.spot ∷ []) (drop k all) (drop (k + 1) all) all put parts c.loop-spot.invariant.spots;
      noted = subst (λ (l : List Rerun). AreNoted l c.args.self.now) (sym c.push_reserved.ensures.items) (All-push (λ (it : Rerun). IsNoted it c.args.self.now) items r c.loop-spot.invariant.noted c.rerun.ensures.noted);
      len = omega (arith, c.push_reserved.ensures.len, c.loop-spot.invariant.len);
      room = omega (arith, c.push_reserved.ensures.capacity, c.loop-spot.invariant.room);
    }

pub returns-clause-noted : goal.returns-clause-noted
returns-clause-noted c =
    subst (λ (l : List Rerun). AreNoted l c.args.self.now) (sym c.new.ensures) c.loop-spot.invariant.noted
