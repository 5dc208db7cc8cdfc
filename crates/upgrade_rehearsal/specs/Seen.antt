-- What is seen while an upgrade is rehearsed (release_handler(3)).
use Rattle.std.specs.Prelude.{◌≡◌, ◌↔◌, ◌<◌, ℕ, Bool, true, false, List, [], ◌∷◌, ◌++◌, All, Contains}
use Rattle.std.specs.Prelude.{Option, None, Some, option_and_then, Result, Ok, Err}
use Rattle.low_instructions.specs.declared.low.Low.{Low}
use Rattle.node_core.specs.Node.{NodeState}
use Rattle.node_core.specs.Scripts.{next_in}
use Rattle.node_questions.specs.Differences.{Differs}
use Rattle.node_questions.specs.Lingering.{lingerers}
use Rattle.node_questions.specs.Outlooks.{outlook_of}
use Rattle.node_questions.specs.Running.{Running}
use Rattle.node_questions.specs.declared.comparing.Difference.{Difference}
use Rattle.node_types.specs.declared.event.Answer.{Answer}
use Rattle.node_types.specs.declared.event.Answer.TheVariants as answer
use Rattle.node_types.specs.declared.event.Event.{Event}
use Rattle.node_types.specs.declared.event.Event.TheVariants.{Advance, Install, SetUnpacked}
use Rattle.node_types.specs.declared.event.Refusal.{Refusal}
use Rattle.node_types.specs.declared.event.Refusal.TheVariants as refusal
use Rattle.node_views.specs.Views as views
use Rattle.node_views.specs.declared.node_view.NodeView.{NodeView}
use Rattle.rehearsals.specs.declared.happening.Happening.{Happening}
use Rattle.rehearsals.specs.Ways.{is_carried_out, is_down, is_finished}
use Rattle.rehearsals.specs.declared.station.JobsRun.{JobsRun}
use Rattle.rehearsals.specs.declared.station.Outcome.{Outcome}
use Rattle.rehearsals.specs.declared.station.Outcome.TheVariants as outcome
use Rattle.rehearsals.specs.declared.station.Station.{Station as Seen}
use Rattle.rehearsals.specs.declared.way.Boot.{Boot}
use Rattle.rehearsals.specs.declared.way.Boot.TheVariants as boot
use Rattle.rehearsals.specs.declared.way.Rehearsal.{Rehearsal}
use Rattle.rehearsals.specs.declared.way.Returned.{Returned}
use Rattle.rehearsals.specs.declared.way.Returned.TheVariants as quiet
use Rattle.rehearsals.specs.declared.way.Way.{Way}
use Rattle.release_boot.specs.Boot.{BootFails, Boots}
use Rattle.release_boot.specs.declared.error.BootError.TheVariants.{NotStarted}
use Rattle.release_statuses.specs.Statuses.{booted}
use Rattle.release_table.specs.declared.table.Release.{Release}
use Rattle.upgrade_rehearsal.specs.Stages.{AllCome, AllTake, IsRestless, Occurs, Undergoes, Plays, Stage}
use Rattle.upgrade_rehearsal.specs.Sequences.{Then}
use Rattle.upgrade_rehearsal.specs.declared.halting.Fault.{Fault}
use Rattle.upgrade_rehearsal.specs.declared.halting.Fault.TheVariants as fault
use Rattle.upgrade_rehearsal.specs.declared.halting.Halt.{Halt}
use Rattle.upgrade_rehearsal.specs.declared.halting.Halt.TheVariants as halt
use Rattle.upgrade_rehearsal.specs.declared.arrival.Arrival.{Arrival}

-- the view of a node
abbrev pub node_view : NodeState → NodeView
node_view n = views.node_view n.modules n.processes n.apps n.releases

-- The outcome of an advance, given its answer or its refusal. No advance has one of the other answers.

abbrev pub outcome_by : Answer → Outcome
outcome_by (answer.Job job) = outcome.Ran
outcome_by (answer.Revived pid) = outcome.Ran
outcome_by (answer.Killed killed) = outcome.Ran
outcome_by (answer.Installing vsn instructions) = outcome.Ran
outcome_by (answer.Ran instruction) = outcome.Ran
outcome_by (answer.Finished vsn description) = outcome.Finished
outcome_by (answer.Recovered reason) = outcome.Recovered reason
outcome_by (answer.Restarted reason) = outcome.Restarted reason
outcome_by (answer.Swept modules) = outcome.Ran
outcome_by answer.Unit = outcome.Ran

abbrev pub advance_outcome : Result Answer Refusal → Outcome
advance_outcome (Ok told) = outcome_by told
advance_outcome (Err why) = outcome.Refused why

-- an event is performed, with this outcome
pub record ComesTo (e : Event) (told : Outcome) (old : Stage) (sent : List Happening) (new : Stage) : Type 0 where
  pub answer : Result Answer Refusal
  pub occurs : Occurs e answer old sent new
  pub tells : told ≡ advance_outcome answer

-- the next instruction of the script that runs, if one runs and one is left
abbrev pub next_of : NodeState → Option Low
next_of n = option_and_then next_in n.runner

-- The process that a script waits for, if it waits.

abbrev pub busy_in : Refusal → Option ℕ
busy_in (refusal.OfProcesses e) = None
busy_in (refusal.OfModules e) = None
busy_in (refusal.OfApps e) = None
busy_in (refusal.OfReleases e) = None
busy_in (refusal.OfInstall e) = None
busy_in refusal.Installing = None
busy_in refusal.NotInstalling = None
busy_in (refusal.Busy pid) = Some pid
busy_in refusal.CounterEnd = None

abbrev pub waiting_for : Outcome → Option ℕ
waiting_for outcome.Ran = None
waiting_for outcome.Finished = None
waiting_for (outcome.Recovered reason) = None
waiting_for (outcome.Restarted reason) = None
waiting_for (outcome.Refused why) = busy_in why

-- an event has this outcome, whatever stage it leads to
abbrev pub EndsAs : Event → Outcome → Stage → Type 0
EndsAs e told s = (sent : List Happening) × (new : Stage) × ComesTo e told s sent new

-- An instruction while jobs run: it waits for no process, and has this outcome; or it waits for a process that runs, and has
-- this outcome if it doesn't wait.
abbrev pub GoesWithJobs : Option ℕ → Outcome → Stage → Type 0
GoesWithJobs None told s = (waiting_for told ≡ None) × EndsAs (Advance false) told s
GoesWithJobs (Some pid) told s = EndsAs (Advance false) (outcome.Refused (refusal.Busy pid)) s × EndsAs (Advance true) told s

-- The trial of an instruction while jobs run: all of the traffic was sent, and each process that could take a message that waits
-- has taken one; or none, if no process could.
abbrev pub IsTried : List Arrival → Stage → Option JobsRun → Type 0
IsTried traffic s None = (sent : List Happening) × (new : Stage) × Then (AllCome traffic) (AllTake 0) s sent new
IsTried traffic s (Some run) = (sent : List Happening) × (new : Stage) × Then (AllCome traffic) (AllTake run.jobs) s sent new
    × (0 < run.jobs) × GoesWithJobs run.waits_for run.outcome new

-- The record of an instruction. It is the next one of the node before, with what the children show of it, and its trial while
-- jobs run. The written rule gives its outcome, and the traffic is played after it. The record has the views of the node
-- directly after it and after the traffic, with the process that still has a message to take, and what both cause. It also says
-- that the node was as before it after it was undone.
pub record IsSeen (traffic : List Arrival) (before : Stage) (s : Seen) (after : Stage) : Type 0 where
  pub instruction : s.instruction ≡ next_of before.node
  pub outlook : s.outlook ≡ outlook_of before.node.apps (next_of before.node)
  pub jobs : IsTried traffic before s.jobs
  pub behind : Stage
  pub with_it : List Happening
  pub step : ComesTo (Advance false) s.outcome before with_it behind
  pub seen_behind : s.behind ≡ node_view behind.node
  pub with_traffic : List Happening
  pub plays : Plays traffic behind with_traffic after
  pub seen_after : s.view ≡ node_view after.node
  pub restless : IsRestless after s.restless
  pub happened : s.happened ≡ with_it ++ with_traffic
  pub undone : s.is_as_before ≡ true

-- the records of instructions, one after the other
abbrev pub AreSeen : List Arrival → Stage → List Seen → Stage → Type 0
AreSeen traffic old [] new = new ≡ old
AreSeen traffic old (s ∷ ss) new = (between : Stage) × IsSeen traffic old s between × AreSeen traffic between ss new

-- A script is run to its end: each instruction but the last was executed. With the last, the script is finished or given up, or
-- the node restarts, or the node refuses it.
pub record IsGoneThrough (seen : List Seen) : Type 0 where
  pub before : List Seen
  pub last : Seen
  pub parts : seen ≡ before ++ last ∷ []
  pub carried_out : All (λ s. is_carried_out s.outcome ≡ true) before
  pub ended : is_carried_out last.outcome ≡ false

-- The record of a way whose install has this result. If the node refuses it, there is nothing more. Else the script was run to
-- its end, and the processes were noted that linger in old code after the last instruction and its traffic.

abbrev pub IsWayBy : Result Answer Refusal → List Arrival → Stage → Way → Stage → Type 0
IsWayBy (Err why) traffic begun w after = (w.refusal ≡ Some why) × (w.stations.items ≡ []) × (w.lingering ≡ []) × (after ≡ begun)
IsWayBy (Ok told) traffic begun w after = (w.refusal ≡ None) × AreSeen traffic begun w.stations.items after
    × IsGoneThrough w.stations.items × (w.lingering ≡ lingerers after.node.processes after.node.modules.entries)

pub record IsWay (traffic : List Arrival) (before : Stage) (vsn : List ℕ) (w : Way) (after : Stage) : Type 0 where
  pub told : Result Answer Refusal
  pub sent : List Happening
  pub begun : Stage
  pub install : Occurs (Install vsn) told before sent begun
  pub seen : w.begun ≡ node_view begun.node
  pub goes : IsWayBy told traffic begun w after

-- The way down, if the way up was finished, and else none.
abbrev pub IsWayDown : Bool → List Arrival → Stage → List ℕ → Option Way → Stage → Type 0
IsWayDown true traffic top vsn None after = ⊥
IsWayDown true traffic top vsn (Some w) after = IsWay traffic top vsn w after
IsWayDown false traffic top vsn None after = after ≡ top
IsWayDown false traffic top vsn (Some w) after = ⊥

-- The record of both ways: up to the release of one version, and down to that of the other.
pub record AreWays (traffic : List Arrival) (begin : Stage) (up_to down_to : List ℕ) (up : Way) (down : Option Way) (end : Stage)
    : Type 0 where
  pub top : Stage
  pub goes_up : IsWay traffic begin up_to up top
  pub goes_down : IsWayDown (is_finished up) traffic top down_to down end

-- If the way down was finished, both ways are run once more, without traffic: the result is the view of the node after them, if
-- they are finished then too.

abbrev pub returned_by : Bool → NodeState → Returned
returned_by true n = quiet.Behind (node_view n)
returned_by false n = quiet.Failed

pub record IsReturn (begin : Stage) (up_to down_to : List ℕ) (seen : Returned) : Type 0 where
  pub up : Way
  pub down : Option Way
  pub end : Stage
  pub ways : AreWays [] begin up_to down_to up down end
  pub view : seen ≡ returned_by (is_down down) end.node

abbrev pub IsReturned : Bool → Stage → List ℕ → List ℕ → Returned → Type 0
IsReturned true begin up_to down_to seen = IsReturn begin up_to down_to seen
IsReturned false begin up_to down_to seen = seen ≡ quiet.Untried

-- A node on which a release has booted.
pub record HasBooted (r : Release) (n : NodeState) : Type 0 where
  pub boots : Boots r n.modules n.processes n.apps
  pub releases : n.releases ≡ booted r
  pub runner : n.runner ≡ None

-- The result of booting the release that is installed, compared with the node after the way up: an application of it doesn't
-- start; or it boots, and if the way up was finished, the differences of the two nodes are noted.

abbrev pub running : NodeState → Running
running n = record { modules = n.modules; processes = n.processes; apps = n.apps }

abbrev pub AreDifferences : NodeState → NodeState → List Difference → Type 0
AreDifferences upgraded fresh found = (d : Difference) → Contains found d ↔ Differs (running upgraded) (running fresh) d

abbrev pub IsBoot : Release → Bool → NodeState → Boot → Type 0
IsBoot to is_up top (boot.Fails app reason) = BootFails (NotStarted app reason) to
IsBoot to is_up top boot.Boots = (is_up ≡ false) × (n : NodeState) × HasBooted to n
IsBoot to is_up top (boot.Compared found) = (is_up ≡ true) × (n : NodeState) × HasBooted to n × AreDifferences top n found.items

-- The record of an upgrade, from where the release that is left has booted, which has the version `down_to`. The node gets the
-- other release, and the traffic is played. Then come both ways, and after they are undone the view of the node is the same as
-- before.
-- The node after the way up is compared with one on which the other release has booted.
pub record IsShown (start : Stage) (down_to : List ℕ) (to : Release) (traffic : List Arrival) (r : Rehearsal) : Type 0 where
  pub known : Stage
  pub with_release : List Happening
  pub knows : Undergoes (SetUnpacked to) start with_release known
  pub begin : Stage
  pub with_traffic : List Happening
  pub played : Plays traffic known with_traffic begin
  pub happened : r.happened ≡ with_traffic
  pub before : r.before ≡ node_view begin.node
  pub top : Stage
  pub goes_up : IsWay traffic begin to.rel.vsn r.up top
  pub boot : IsBoot to (is_finished r.up) top.node r.boot
  pub end : Stage
  pub goes_down : IsWayDown (is_finished r.up) traffic top down_to r.down end
  pub undone : r.is_as_before ≡ true
  pub returned : IsReturned (is_down r.down) begin to.rel.vsn down_to r.returned

-- The record of an upgrade: a node boots the release that is left, and no client has sent anything yet.
pub record IsRehearsal (from to : Release) (traffic : List Arrival) (r : Rehearsal) : Type 0 where
  pub node : NodeState
  pub booted : HasBooted from node
  pub shown : IsShown (record { node = node; arrivals = 0 }) from.rel.vsn to traffic r

-- Why there is no rehearsal: if a release doesn't boot, the reason is given. Another release has booted, unless an allocation
-- fails.

abbrev pub HaltsOn : Release → Halt → Type 0
HaltsOn from halt.Full = (n : NodeState) × HasBooted from n
HaltsOn from (halt.Memory error) = Unit {0}

abbrev pub IsHalted : Release → Fault → Type 0
IsHalted from (fault.Boot e) = BootFails e from
IsHalted from (fault.Halted why) = HaltsOn from why
