-- The parts of what is seen of an instruction, and of a way, as `Seen` defines the whole.
use Rattle.std.specs.Prelude.{◌≡◌, ℕ, Bool, true, false, List, [], ◌++◌, Option, None, Some, Ok, Err}
use Rattle.low_instructions.specs.declared.low.Low.{Low}
use Rattle.node_core.specs.Node.{NodeState}
use Rattle.node_questions.specs.Lingering.{lingerers}
use Rattle.node_questions.specs.Outlooks.{outlook_of}
use Rattle.node_questions.specs.declared.outlook.Outlook.{Outlook}
use Rattle.node_types.specs.declared.event.Answer.{Answer}
use Rattle.node_types.specs.declared.event.Event.TheVariants.{Advance, Install}
use Rattle.node_types.specs.declared.event.Refusal.{Refusal}
use Rattle.node_views.specs.declared.node_view.NodeView.{NodeView}
use Rattle.rehearsals.specs.declared.happening.Happening.{Happening}
use Rattle.rehearsals.specs.declared.station.JobsRun.{JobsRun}
use Rattle.rehearsals.specs.declared.station.Outcome.{Outcome}
use Rattle.rehearsals.specs.declared.way.Boot.{Boot}
use Rattle.rehearsals.specs.declared.way.Boot.TheVariants as boot
use Rattle.rehearsals.specs.declared.way.Way.{Way}
use Rattle.release_boot.specs.Boot.{BootFails}
use Rattle.release_boot.specs.declared.error.BootError.TheVariants.{NotStarted}
use Rattle.release_table.specs.declared.table.Release.{Release}
use Rattle.upgrade_rehearsal.specs.declared.arrival.Arrival.{Arrival}
use Rattle.upgrade_rehearsal.specs.declared.rehearsing.Fresh.{Fresh}
use Rattle.upgrade_rehearsal.specs.declared.rehearsing.Fresh.TheVariants.{Booted, Failed}
use Rattle.upgrade_rehearsal.specs.Seen.{AreDifferences, AreSeen, ComesTo, HasBooted, IsGoneThrough, IsTried, next_of, node_view}
use Rattle.upgrade_rehearsal.specs.Stages.{IsRestless, Occurs, Plays, Scene, Stage}

-- what is known of an instruction before it is executed
pub record IsAhead (traffic : List Arrival) (s : Stage) (instruction : Option Low) (outlook : Outlook)
    (jobs : Option JobsRun) (is_as_before : Bool) : Type 0 where
  pub next : instruction ≡ next_of s.node
  pub known : outlook ≡ outlook_of s.node.apps (next_of s.node)
  pub tried : IsTried traffic s jobs
  pub undone : is_as_before ≡ true

-- what it causes
pub record HasCome (traffic : List Arrival) (old : Stage) (told : Outcome) (seen_behind seen_after : NodeView)
    (restless : Option ℕ) (happened : List Happening) (new : Stage) : Type 0 where
  pub behind : Stage
  pub with_it : List Happening
  pub step : ComesTo (Advance false) told old with_it behind
  pub behind_is : seen_behind ≡ node_view behind.node
  pub with_traffic : List Happening
  pub plays : Plays traffic behind with_traffic new
  pub after_is : seen_after ≡ node_view new.node
  pub restless_is : IsRestless new restless
  pub happened_are : happened ≡ with_it ++ with_traffic

-- the traffic was played, with what it causes and the view of the node then
abbrev pub IsPlayed : List Arrival → Stage → List Happening → NodeView → Stage → Type 0
IsPlayed traffic old happened view new = Plays traffic old happened new × (view ≡ node_view new.node)

-- an install begins, or is refused
abbrev pub Begins : List ℕ → Option Refusal → Scene
Begins vsn None old sent new = (told : Answer) × Occurs (Install vsn) (Ok told) old sent new
Begins vsn (Some why) old sent new = Occurs (Install vsn) (Err why) old sent new

-- A way whose install was refused, and one whose script was run to its end.

pub record IsRefusedWay (why : Refusal) (s : Stage) (w : Way) : Type 0 where
  pub refusal : w.refusal ≡ Some why
  pub begun : w.begun ≡ node_view s.node
  pub stations : w.stations.items ≡ []
  pub lingering : w.lingering ≡ []

pub record IsWholeWay (traffic : List Arrival) (begun : Stage) (w : Way) (after : Stage) : Type 0 where
  pub refusal : w.refusal ≡ None
  pub seen : w.begun ≡ node_view begun.node
  pub stations : AreSeen traffic begun w.stations.items after
  pub through : IsGoneThrough w.stations.items
  pub lingering : w.lingering ≡ lingerers after.node.processes after.node.modules.entries

-- The result of booting the release that is installed: a node on which it has booted, or an application that doesn't start. The
-- node after the way up is compared with such a node, if the way up was finished.

abbrev pub IsFresh : Release → Fresh → Type 0
IsFresh to (Booted n) = HasBooted to n
IsFresh to (Failed app reason) = BootFails (NotStarted app reason) to

abbrev pub IsCompared : Bool → NodeState → NodeState → Boot → Type 0
IsCompared is_up top fresh (boot.Fails app reason) = ⊥
IsCompared is_up top fresh boot.Boots = is_up ≡ false
IsCompared is_up top fresh (boot.Compared found) = (is_up ≡ true) × AreDifferences top fresh found.items

-- the view of the node, with the process that still has a message to take
abbrev pub IsSettled : NodeView → Option ℕ → Stage → Type 0
IsSettled view restless s = (view ≡ node_view s.node) × IsRestless s restless
