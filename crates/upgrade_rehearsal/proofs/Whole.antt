-- A whole rehearsal, by its parts.
use Rattle.std.proofs.Common.{◌≡◌, ◌∙◌, ℕ, Bool, true, false, List, [], ◌++◌, Option, None, Some, Result, Ok, Err, IfOk, refl, sym, ap, subst}
use Rattle.node_core.specs.Node.{NodeState}
use Rattle.node_types.specs.declared.event.Event.TheVariants.{SetUnpacked}
use Rattle.node_views.specs.declared.node_view.NodeView.{NodeView}
use Rattle.rehearsals.specs.Ways.{is_down, is_finished}
use Rattle.rehearsals.specs.declared.happening.Happening.{Happening}
use Rattle.rehearsals.specs.declared.way.Boot.{Boot}
use Rattle.rehearsals.specs.declared.way.Boot.TheVariants as boot
use Rattle.rehearsals.specs.declared.way.Rehearsal.{Rehearsal}
use Rattle.rehearsals.specs.declared.way.Returned.{Returned}
use Rattle.rehearsals.specs.declared.way.Returned.TheVariants as quiet
use Rattle.rehearsals.specs.declared.way.Way.{Way}
use Rattle.release_table.specs.declared.table.Release.{Release}
use Rattle.upgrade_rehearsal.specs.declared.arrival.Arrival.{Arrival}
use Rattle.upgrade_rehearsal.proofs.Leading.{one_stage}
use Rattle.upgrade_rehearsal.specs.Parts.{IsCompared, IsFresh, IsPlayed}
use Rattle.upgrade_rehearsal.specs.Players.{Leads, stage_of}
use Rattle.upgrade_rehearsal.specs.Seen.{AreWays, HaltsOn, HasBooted, IsBoot, IsRehearsal, IsReturn, IsReturned, IsShown, IsWay, IsWayDown, node_view, returned_by}
use Rattle.upgrade_rehearsal.specs.Stages.{Plays, Stage, Undergoes}
use Rattle.upgrade_rehearsal.specs.declared.halting.Halt.{Halt}
use Rattle.upgrade_rehearsal.specs.declared.halting.Halt.TheVariants as halt
use Rattle.upgrade_rehearsal.specs.declared.player.Player.{Player}
use Rattle.upgrade_rehearsal.specs.declared.rehearsing.Fresh.{Fresh}
use Rattle.upgrade_rehearsal.specs.declared.rehearsing.Fresh.TheVariants.{Booted}

-- both ways
pub both_ways : (traffic : List Arrival) (begin top end : Stage) (up_to down_to : List ℕ) (up : Way) (down : Option Way) (is_up : Bool) →
    is_up ≡ is_finished up → IsWay traffic begin up_to up top → IsWayDown is_up traffic top down_to down end →
    AreWays traffic begin up_to down_to up down end
both_ways traffic begin top end up_to down_to up down is_up is goes_up goes_down = record {
  top = top;
  goes_up = goes_up;
  goes_down = subst (λ b. IsWayDown b traffic top down_to down end) is goes_down;
}

-- The record of the return: if the way down was finished, the view of the node, and else that it failed.

pub returns_seen : (begin end : Stage) (up_to down_to : List ℕ) (up : Way) (down : Option Way) (view : NodeView) (was_down : Bool) →
    AreWays [] begin up_to down_to up down end → was_down ≡ is_down down → was_down ≡ true → view ≡ node_view end.node →
    IsReturn begin up_to down_to (quiet.Behind view)
returns_seen begin end up_to down_to up down view was_down ways is down_then seen = record {
  up = up;
  down = down;
  end = end;
  ways = ways;
  view = ap quiet.Behind seen ∙ ap (λ b. returned_by b end.node) (sym down_then ∙ is);
}

pub returns_failed : (begin end : Stage) (up_to down_to : List ℕ) (up : Way) (down : Option Way) (was_down : Bool) →
    AreWays [] begin up_to down_to up down end → was_down ≡ is_down down → was_down ≡ false →
    IsReturn begin up_to down_to quiet.Failed
returns_failed begin end up_to down_to up down was_down ways is not_down = record {
  up = up;
  down = down;
  end = end;
  ways = ways;
  view = ap (λ b. returned_by b end.node) (sym not_down ∙ is);
}

-- The way down, if the way up was finished.

pub goes_down : (is_up : Bool) (traffic : List Arrival) (top : Stage) (vsn : List ℕ) (w : Way) (end : Stage) → is_up ≡ true →
    IsWay traffic top vsn w end → IsWayDown is_up traffic top vsn (Some w) end
goes_down is_up traffic top vsn w end is way = subst (λ b. IsWayDown b traffic top vsn (Some w) end) (sym is) way

pub stays_up : (is_up : Bool) (traffic : List Arrival) (top : Stage) (vsn : List ℕ) → is_up ≡ false →
    IsWayDown is_up traffic top vsn None top
stays_up is_up traffic top vsn is = subst (λ b. IsWayDown b traffic top vsn None top) (sym is) refl

-- The record of the return, if it was tried.

pub is_tried : {E : Type 0} (r : Result Returned E) (was_down : Bool) (begin : Stage) (up_to down_to : List ℕ) → was_down ≡ true →
    IfOk r (IsReturn begin up_to down_to) → IfOk r (IsReturned was_down begin up_to down_to)
is_tried r was_down begin up_to down_to is seen =
    subst (λ b. IfOk r (IsReturned b begin up_to down_to)) (sym is) seen

pub is_untried : (was_down : Bool) (begin : Stage) (up_to down_to : List ℕ) → was_down ≡ false →
    IsReturned was_down begin up_to down_to quiet.Untried
is_untried was_down begin up_to down_to is = subst (λ b. IsReturned b begin up_to down_to quiet.Untried) (sym is) refl

-- The traffic was played, by what was done: what had been kept of events was cleared away, and then it was played.
pub played_by : (traffic : List Arrival) (old cleared played new : Player) (happened : List Happening) (view : NodeView) →
    cleared.journal ≡ old.journal → cleared.arrivals ≡ old.arrivals → cleared.sent.items ≡ [] → Leads (Plays traffic) cleared played →
    happened ≡ played.sent.items → new.journal ≡ played.journal → new.arrivals ≡ played.arrivals →
    view ≡ node_view (stage_of new).node → IsPlayed traffic (stage_of old) happened view (stage_of new)
played_by traffic old cleared played new happened view same_journal same_count empty plays sent journal arrivals seen =
    let same : stage_of new ≡ stage_of played = one_stage played new journal arrivals in
    let before : stage_of cleared ≡ stage_of old = one_stage old cleared same_journal same_count in
    let all : happened ≡ plays.sent = sent ∙ plays.kept ∙ ap (λ ms. ms ++ plays.sent) empty in
    let scene : Plays traffic (stage_of old) plays.sent (stage_of new) =
    subst (λ st. Plays traffic (stage_of old) plays.sent st) (sym same)
    (subst (λ st. Plays traffic st plays.sent (stage_of played)) before plays.scene) in
    (subst (λ hs. Plays traffic (stage_of old) hs (stage_of new)) (sym all) scene, seen)

-- The record of an upgrade, by what was done. The player was given the release, the traffic was played, the way up was run, the
-- node was compared with the one that had booted, and the way down was run. Then the player went back, and up and down once
-- more.
pub shown_by : (down_to up_to up_again : List ℕ) (to : Release) (traffic : List Arrival) (r : Rehearsal)
    (first known begin top : Player) (end back : Stage) (is_up was_down : Bool) → up_to ≡ to.rel.vsn → up_again ≡ to.rel.vsn →
    Leads (Undergoes (SetUnpacked to)) first known → IsPlayed traffic (stage_of known) r.happened r.before (stage_of begin) →
    IsWay traffic (stage_of begin) up_to r.up (stage_of top) → IsBoot to (is_finished r.up) (stage_of top).node r.boot →
    is_up ≡ is_finished r.up → IsWayDown is_up traffic (stage_of top) down_to r.down end →
    r.is_as_before ≡ true → back ≡ stage_of begin → was_down ≡ is_down r.down → IsReturned was_down back up_again down_to r.returned →
    IsShown (stage_of first) down_to to traffic r
shown_by down_to up_to up_again to traffic r first known begin top end back is_up was_down same same_again knows played up beside_it
    finished down undone stands is returned = record {
      known = stage_of known;
      with_release = knows.sent;
      knows = knows.scene;
      begin = stage_of begin;
      with_traffic = r.happened;
      played = played.0;
      happened = refl;
      before = played.1;
      top = stage_of top;
      goes_up = subst (λ v. IsWay traffic (stage_of begin) v r.up (stage_of top)) same up;
      boot = beside_it;
      end = end;
      goes_down = subst (λ b. IsWayDown b traffic (stage_of top) down_to r.down end) finished down;
      undone = undone;
      returned =
          subst (λ s. IsReturned (is_down r.down) s to.rel.vsn down_to r.returned) stands
          (subst (λ b. IsReturned b back to.rel.vsn down_to r.returned) is
          (subst (λ v. IsReturned was_down back v down_to r.returned) same_again returned));
    }

-- The result of booting the release that is installed, compared with the node after the way up.

beside : (to : Release) (is_up : Bool) (top fresh : NodeState) (b : Boot) → HasBooted to fresh → IsCompared is_up top fresh b →
    IsBoot to is_up top b
beside to is_up top fresh (boot.Fails app reason) booted compared = absurd compared
beside to is_up top fresh boot.Boots booted compared = (compared, fresh, booted)
beside to is_up top fresh (boot.Compared found) booted compared = (compared.0, fresh, booted, compared.1)

pub boots_beside : {E : Type 0} (r : Result Boot E) (is_up : Bool) (top node : NodeState) (fresh : Fresh) → fresh ≡ Booted node →
    IfOk r (IsCompared is_up top node) → IfOk r (λ b. (to : Release) → IsFresh to fresh → IsBoot to is_up top b)
boots_beside (Ok b) is_up top node fresh is compared =
    λ to booted. beside to is_up top node b (subst (λ f. IsFresh to f) is booted) compared
boots_beside (Err e) is_up top node fresh is compared = tt

-- The record from where the release has booted is the record of the upgrade.
pub rehearsed_by : (from to : Release) (traffic : List Arrival) (r : Rehearsal) (player : Player) (vsn : List ℕ) →
    HasBooted from (stage_of player).node → player.arrivals ≡ 0 → vsn ≡ from.rel.vsn →
    IsShown (stage_of player) vsn to traffic r → IsRehearsal from to traffic r
rehearsed_by from to traffic r player vsn booted none is shown =
    let node = (stage_of player).node in
    let At : ℕ → List ℕ → Type 0 = λ arrivals v. IsShown (record { node = node; arrivals = arrivals }) v to traffic r in
    record { node = node; booted = booted; shown = subst (λ v. At 0 v) is (subst (λ k. At k vsn) none shown) }

-- the release has booted, whatever halted the rehearsal then
pub halts_on : (from : Release) (n : NodeState) (why : Halt) → HasBooted from n → HaltsOn from why
halts_on from n halt.Full booted = (n, booted)
halts_on from n (halt.Memory error) booted = tt
