-- What a rehearsal shows that is likely wrong with an upgrade (appup(4); release_handler(3)).
use Rattle.std.specs.Prelude.{◌≡◌, ◌⊎◌, ℕ, zero, suc, Bool, true, false, IsSome, List, [], Contains, Option, None, Some, length, slice_get}
use Rattle.erl_semantics.specs.declared.acts.Place.{Place}
use Rattle.erl_semantics.specs.declared.acts.Place.TheVariants.{Server, Loop}
use Rattle.low_instructions.specs.declared.low.Low.{Low}
use Rattle.low_instructions.specs.declared.low.Low.TheVariants.{LoadObjectCode, PointOfNoReturn, Load, Remove, Purge, Suspend}
use Rattle.low_instructions.specs.declared.low.Low.TheVariants.{Resume, CodeChange, Stop, Start, Apply}
use Rattle.low_instructions.specs.declared.modules.Direction.{Direction}
use Rattle.low_instructions.specs.declared.modules.Direction.TheVariants.{Up, Down}
use Rattle.node_questions.specs.declared.comparing.Difference.{Difference}
use Rattle.node_views.specs.Changes.{process_of}
use Rattle.node_views.specs.declared.node_view.NodeView.{NodeView}
use Rattle.node_views.specs.declared.process_view.ProcessView.{ProcessView}
use Rattle.process_effects.specs.declared.told.Reply.{Reply as ToClient}
use Rattle.process_effects.specs.declared.told.ReplyBody.{ReplyBody}
use Rattle.process_effects.specs.declared.told.ReplyBody.TheVariants.{Reply, Down as DownReply}
use Rattle.rehearsals.specs.OnOtp.{IsOrder, IsPassedOver, IsTemporary}
use Rattle.rehearsals.specs.declared.happening.Exit.{Exit}
use Rattle.rehearsals.specs.declared.happening.Happening.{Happening}
use Rattle.rehearsals.specs.declared.observing.Moment.{Moment}
use Rattle.rehearsals.specs.declared.observing.Moment.TheVariants.{At, Before}
use Rattle.rehearsals.specs.declared.observing.Observation.{Observation}
use Rattle.rehearsals.specs.declared.observing.Observation.TheVariants.{SuspendsNobody, Kills, Ends, CallsDown, Unheard, Lingers}
use Rattle.rehearsals.specs.declared.observing.Observation.TheVariants.{NotRestored, Restless, Vanishes, FailsWithoutTraffic, BootFails, Differs}
use Rattle.rehearsals.specs.declared.station.Station.{Station}
use Rattle.rehearsals.specs.declared.way.Boot.{Boot}
use Rattle.rehearsals.specs.declared.way.Boot.TheVariants.{Fails, Boots, Compared}
use Rattle.rehearsals.specs.declared.way.Rehearsal.{Rehearsal}
use Rattle.rehearsals.specs.declared.way.Returned.{Returned}
use Rattle.rehearsals.specs.declared.way.Returned.TheVariants.{Untried, Failed, Behind}
use Rattle.rehearsals.specs.declared.way.Way.{Way}

-- The node before the instruction at an index: the one after the traffic of the instruction before it, or the one at which the
-- script begins.

abbrev pub view_of : Option Station → NodeView → NodeView
view_of None begun = begun
view_of (Some s) begun = s.view

abbrev pub before_of : Way → ℕ → NodeView
before_of w zero = w.begun
before_of w (suc i) = view_of (slice_get w.stations.items i) w.begun

-- What happened last before the instruction at an index, and what happened last on a way: with the instruction before, or
-- `first` if there is none.

abbrev pub happened_at : Option Station → List Happening → List Happening
happened_at None first = first
happened_at (Some s) first = s.happened

abbrev pub happened_before : List Happening → Way → ℕ → List Happening
happened_before first w zero = first
happened_before first w (suc i) = happened_at (slice_get w.stations.items i) first

abbrev pub happened_last : List Happening → Way → List Happening
happened_last first w = happened_before first w (length w.stations.items)

-- whether an instruction purges code: a `load` does if there is old code
abbrev pub purges : Low → Bool
purges (LoadObjectCode application version modules) = false
purges PointOfNoReturn = false
purges (Load name pre post) = true
purges (Remove name pre post) = true
purges (Purge modules) = true
purges (Suspend modules) = false
purges (Resume modules) = false
purges (CodeChange direction changes) = false
purges (Stop modules) = false
purges (Start modules) = false
purges (Apply name function arguments) = false

abbrev pub Purges : Option Low → Type 0
Purges None = ⊥
Purges (Some low) = purges low ≡ true

-- Two states are the same: those of a callback module, or the function and the arguments of a loop, in any version of the code.
abbrev pub IsOneState : Place → Place → Type 0
IsOneState (Server m s) (Server n t) = (m ≡ n) × (s ≡ t)
IsOneState (Server m s) (Loop n j g us) = ⊥
IsOneState (Loop m i f ts) (Server n t) = ⊥
IsOneState (Loop m i f ts) (Loop n j g us) = (m ≡ n) × (f ≡ g) × (ts ≡ us)

-- a process still lives, and has another state
abbrev pub HasOtherState : Option ProcessView → Option ProcessView → Type 0
HasOtherState None after = ⊥
HasOtherState (Some before) None = ⊥
HasOtherState (Some before) (Some after) = IsOneState before.place after.place → ⊥

-- What the served messages caused: a process ended because of its job; a call got the exit reason of a process, and no reply; or
-- no process had the name that a message was sent to, and that was not so with what happened before (gen_server(3), call/2).

abbrev pub IsExitOf : Moment → Happening → Observation → Type 0
IsExitOf when h o = (e : Exit) × (h.exit ≡ Some e) × (o ≡ Ends when e)

abbrev pub IsExit : Moment → List Happening → Observation → Type 0
IsExit when happened o = (h : Happening) × Contains happened h × IsExitOf when h o

abbrev pub IsDown : ReplyBody → Type 0
IsDown (Reply term) = ⊥
IsDown (DownReply reason) = Unit {0}

abbrev pub HasDown : Happening → Type 0
HasDown h = (r : ToClient) × Contains h.replies r × IsDown r.body

abbrev pub HasCallDown : List Happening → Type 0
HasCallDown happened = (h : Happening) × Contains happened h × HasDown h

abbrev pub IsCallDown : Moment → List Happening → Observation → Type 0
IsCallDown when happened o = HasCallDown happened × (o ≡ CallsDown when)

abbrev pub IsUnheardIn : List Happening → List ℕ → Type 0
IsUnheardIn happened name = (h : Happening) × Contains happened h × (h.unheard ≡ Some name)

abbrev pub IsNewName : Moment → List Happening → List ℕ → Observation → Type 0
IsNewName when first name o = (IsUnheardIn first name → ⊥) × (o ≡ Unheard when name)

abbrev pub IsUnheardOf : Moment → List Happening → Happening → Observation → Type 0
IsUnheardOf when first h o = (name : List ℕ) × (h.unheard ≡ Some name) × IsNewName when first name o

abbrev pub IsNewlyUnheard : Moment → List Happening → List Happening → Observation → Type 0
IsNewlyUnheard when first happened o = (h : Happening) × Contains happened h × IsUnheardOf when first h o

abbrev pub IsServedBadly : Moment → List Happening → List Happening → Observation → Type 0
IsServedBadly when first happened o =
    IsExit when happened o ⊎ (IsCallDown when happened o ⊎ IsNewlyUnheard when first happened o)

-- What is seen of an instruction: a module by which no process is suspended, a process that is killed by a purge, or what OTP
-- does otherwise with it.

abbrev pub IsNobody : Direction → ℕ → Station → Observation → Type 0
IsNobody way i s o = (m : List ℕ) × Contains s.outlook.nobody m × (o ≡ SuspendsNobody way i m)

abbrev pub IsKill : Direction → ℕ → NodeView → Station → Observation → Type 0
IsKill way i before s o = (pid : ℕ) × Purges s.instruction × IsSome (process_of pid before)
    × (process_of pid s.behind ≡ None) × (o ≡ Kills way i pid)

abbrev pub IsOtherwiseOnOtp : Direction → ℕ → NodeView → Station → Observation → Type 0
IsOtherwiseOnOtp way i before s o = IsTemporary way i s o ⊎ (IsPassedOver way i s o ⊎ IsOrder way i before s o)

abbrev pub IsOfInstruction : Direction → ℕ → NodeView → Station → Observation → Type 0
IsOfInstruction way i before s o = IsNobody way i s o ⊎ (IsKill way i before s o ⊎ IsOtherwiseOnOtp way i before s o)

-- A process still had a message to take when the script went on, though many had been served (`most_served` of
-- `upgrade_rehearsal`).
abbrev pub IsStillAtIt : Station → Observation → Type 0
IsStillAtIt s o = (pid : ℕ) × (s.restless ≡ Some pid) × (o ≡ Restless pid)

-- The same, or what the messages caused that were served after it, given what happened before the way.
abbrev pub IsAtStation : Direction → List Happening → Way → ℕ → Station → Observation → Type 0
IsAtStation way first w i s o =
    IsOfInstruction way i (before_of w i) s o ⊎ (IsServedBadly (At way i) (happened_before first w i) s.happened o ⊎ IsStillAtIt s o)

-- What is seen on a way: something of one of its instructions, or a process that still uses old code at its end.

abbrev pub IsLingering : Direction → Way → Observation → Type 0
IsLingering way w o = (m : List ℕ) × (pid : ℕ) × Contains w.lingering (m, pid) × (o ≡ Lingers way m pid)

abbrev pub IsOnWay : Direction → List Happening → Way → Observation → Type 0
IsOnWay way first w o = ((i : ℕ) × (s : Station) × (slice_get w.stations.items i ≡ Some s) × IsAtStation way first w i s o)
    ⊎ IsLingering way w o

-- After both ways a process still lives and has another state, or no longer lives.

abbrev pub IsNotRestored : NodeView → NodeView → Observation → Type 0
IsNotRestored before after o = (pid : ℕ) × HasOtherState (process_of pid before) (process_of pid after) × (o ≡ NotRestored pid)

abbrev pub HasVanished : NodeView → NodeView → Observation → Type 0
HasVanished before after o =
    (pid : ℕ) × IsSome (process_of pid before) × (process_of pid after ≡ None) × (o ≡ Vanishes pid)

abbrev pub IsOtherwise : NodeView → NodeView → Observation → Type 0
IsOtherwise before after o = IsNotRestored before after o ⊎ HasVanished before after o

-- What is seen on the way down, if there was one; and what is seen on both ways.

abbrev pub IsOnWayDown : List Happening → Option Way → Observation → Type 0
IsOnWayDown first down o = (w : Way) × (down ≡ Some w) × IsOnWay Down first w o

abbrev pub IsOnWays : List Happening → Rehearsal → Observation → Type 0
IsOnWays first r o = IsOnWay Up first r.up o ⊎ IsOnWayDown (happened_last first r.up) r.down o

-- What is seen of both ways without traffic: that one of them fails, or which process has another state than before.

abbrev pub IsOnReturn : NodeView → Returned → Observation → Type 0
IsOnReturn before Untried o = ⊥
IsOnReturn before Failed o = o ≡ FailsWithoutTraffic
IsOnReturn before (Behind after) o = IsOtherwise before after o

-- What is seen of the boot of the release that is installed: that it fails, or how the node after the way up differs from it.

abbrev pub IsDifference : List Difference → Observation → Type 0
IsDifference differences o = (d : Difference) × Contains differences d × (o ≡ Differs d)

abbrev pub IsOnBoot : Boot → Observation → Type 0
IsOnBoot (Fails app reason) o = o ≡ BootFails
IsOnBoot Boots o = ⊥
IsOnBoot (Compared differences) o = IsDifference differences.items o

-- What a rehearsal shows of the traffic before the way up, of one of its ways, of both without traffic, or of the boot of the
-- release that is installed.
abbrev pub IsObserved : Rehearsal → Observation → Type 0
IsObserved r o = IsServedBadly Before [] r.happened o
    ⊎ (IsOnWays r.happened r o ⊎ (IsOnReturn r.before r.returned o ⊎ IsOnBoot r.boot o))
