-- What holds of histories.
use Rattle.std.specs.Prelude.{◌≡◌, ◌<◌, ◌≤◌, ℕ, List, [], map, IfSome, Option, None, Some, Result, Ok}
use Rattle.undo_journal.specs.History.{AreAfter, FoldsTo, Live, MakesKept, RunsCommands}
use Rattle.undo_journal.specs.Timeline.{IsOrdered, here, node_at, opened}
use Rattle.undo_journal.specs.declared.history.Command as journal
use Rattle.node_rules.specs.Node.{NodeState}
use Rattle.node_rules.specs.Step.{Step}
use Rattle.node_types.specs.declared.event.Event.{Event}
use Rattle.node_types.specs.Note.{Note}
use Rattle.node_history.specs.History.{AllAsk, Gives, Legal, NodeTimeline, asked_by}
use Rattle.node_history.specs.declared.command.Command.{Command}
use Rattle.node_history.specs.declared.command.Command.TheVariants as command
use Rattle.node_history.specs.declared.command.Fault.{Fault}
use Rattle.node_history.specs.declared.command.Said.{Said}
use Rattle.node_history.specs.declared.command.Said.TheVariants as said
use Rattle.node_history.specs.declared.entry.Entry.{Entry}

-- At one point a command of a seat gives one answer, one note and one timeline; and what seats ask, in one order,
-- gives one history with one end.
pub record HistoriesHaveOneEnd : Type 0 where
  pub one : (t : NodeTimeline) (before : List Entry) (seat : ℕ) (c : Command) (answer other : Result Said Fault)
      (note more : Option Note) (after last : NodeTimeline) → Gives t before seat c answer note after →
      Gives t before seat c other more last →
      (answer ≡ other) × (note ≡ more) × (after ≡ last)
  pub history : (t : NodeTimeline) (before entries others : List Entry) (end last : NodeTimeline) →
      map asked_by entries ≡ map asked_by others →
      Legal t before entries end → Legal t before others last → (entries ≡ others) × (end ≡ last)

-- A legal history leads where the commands lead that its entries have asked, entry by entry. From the node that it
-- begins with these make the stations of its end, whose serials rise, and the node at its end is the fold of the rule
-- over their live steps.

pub record IsCommanded (entries : List Entry) (n : NodeState) (end : NodeTimeline) : Type 0 where
  pub commands : List (journal.Command Event)
  pub asked : AllAsk (opened n) [] entries commands end
  pub lead : AreAfter Step commands (opened n) end
  pub ordered : IsOrdered end
  pub live : List (Live Event)
  pub runs : RunsCommands Step commands (opened n) [] end live
  pub stations : MakesKept Step n live end
  pub fold : FoldsTo Step n live (here end).node

pub record HistoriesAreCommands : Type 0 where
  pub lead : (t : NodeTimeline) (before entries : List Entry) (end : NodeTimeline) → Legal t before entries end →
      (cs : List (journal.Command Event)) × AllAsk t before entries cs end × AreAfter Step cs t end
  pub fold : (n : NodeState) (entries : List Entry) (end : NodeTimeline) → Legal (opened n) [] entries end →
      IsCommanded entries n end

-- What one timeline has named it names in a later one, where it names anything there: a mark's node never changes,
-- and a dead mark stays dead.
abbrev pub NameAsBefore : NodeTimeline → NodeTimeline → Type 0
NameAsBefore there end = (mark : ℕ) → mark ≤ there.last → IfSome (node_at mark end) (λ node. node_at mark there ≡ Some node)

-- neither an undo nor a forget
abbrev pub KeepsStations : Command → Type 0
KeepsStations c = ((mark : ℕ) → c ≡ command.Undo mark → ⊥) × ((mark : ℕ) → c ≡ command.Forget mark → ⊥)

-- A mark names the node at which a seat is given it, until its station is cut or forgotten. An undo to a mark gives
-- just the node that the mark names: marks up to it name what they named, and those behind it name nothing. A forget
-- up to a mark leaves the node: marks from it on name what they named, and those before it nothing. No other command
-- takes a mark its node.
pub record HistoriesNameMarks : Type 0 where
  pub name : (n : NodeState) (before behind : List Entry) (there end : NodeTimeline) → Legal (opened n) [] before there →
      Legal there before behind end → NameAsBefore there end
  pub given : (n : NodeState) (before : List Entry) (seat mark : ℕ) (note : Option Note) (there after : NodeTimeline) →
      Legal (opened n) [] before there → Gives there before seat command.Mark (Ok (said.Marked mark)) note after →
      (node_at mark there ≡ Some (here there).node) × (mark ≤ there.last)
  pub undone : (n : NodeState) (before : List Entry) (seat mark : ℕ) (it : Said) (note : Option Note)
      (there after : NodeTimeline) →
      Legal (opened n) [] before there → Gives there before seat (command.Undo mark) (Ok it) note after →
      (node_at mark there ≡ Some (here after).node) ×
      ((other : ℕ) → (other ≤ mark → node_at other after ≡ node_at other there) × (mark < other → node_at other after ≡ None))
  pub forgotten : (n : NodeState) (before : List Entry) (seat mark : ℕ) (it : Said) (note : Option Note)
      (there after : NodeTimeline) →
      Legal (opened n) [] before there → Gives there before seat (command.Forget mark) (Ok it) note after →
      (after.first.serial ≡ mark) × (here after ≡ here there) ×
      ((other : ℕ) → (mark ≤ other → node_at other after ≡ node_at other there) × (other < mark → node_at other after ≡ None))
  pub kept : (before : List Entry) (seat : ℕ) (c : Command) (answer : Result Said Fault) (note : Option Note)
      (there after : NodeTimeline) →
      KeepsStations c → Gives there before seat c answer note after → (mark : ℕ) → mark ≤ there.last →
      node_at mark after ≡ node_at mark there
