-- A legal history leads where the commands lead that its entries made.
use Rattle.release_statuses.specs.Statuses.{which_releases}
use Rattle.std.proofs.Common.{◌≡◌, ℕ, inl, inr, List, [], ◌∷◌, ◌++◌, drop, length, Option, None, Some, unwrap_or, Result, Ok, Err, refl, sym, ap, subst}
use Rattle.undo_journal.proofs.Histories.{AreAfter-append, FoldsTo-live, IsOrdered-after, IsOrdered-opened, Makes-live, RunsCommands-of}
use Rattle.undo_journal.specs.History.{AreAfter}
use Rattle.undo_journal.specs.Reversible.{Accepted}
use Rattle.undo_journal.specs.Timeline.{appended, here, opened}
use Rattle.undo_journal.specs.declared.history.Command as journal
use Rattle.undo_journal.specs.declared.history.Command.TheVariants.{Perform as perform, Undo as undo, Forget as forget}
use Rattle.node_rules.specs.Node.{NodeState}
use Rattle.node_rules.specs.Step.{Step}
use Rattle.node_types.specs.Note.{Note}
use Rattle.node_types.specs.declared.event.Answer.{Answer}
use Rattle.node_types.specs.declared.event.Event.{Event}
use Rattle.node_types.specs.declared.event.Event.TheVariants as event
use Rattle.process_table.specs.declared.body.ClientMessage.TheVariants as body
use Rattle.node_history.specs.History.{AllAsk, Asks, ByEvent, Cuts, Drops, Gives, IsCalled, IsPerformed, IsNext, Legal, NodeTimeline, TakesOf, replies_to}
use Rattle.node_history.specs.Laws.{IsCommanded}
use Rattle.node_history.specs.declared.command.Command.{Command}
use Rattle.node_history.specs.declared.command.Command.TheVariants as command
use Rattle.node_history.specs.declared.command.Fault.{Fault}
use Rattle.node_history.specs.declared.command.Said.{Said}
use Rattle.node_history.specs.declared.command.Said.TheVariants as said
use Rattle.node_history.specs.declared.entry.Entry.{Entry}

-- what an entry made, and where that leads
abbrev IsLed : ℕ → ℕ → Command → Result Said Fault → NodeTimeline → NodeTimeline → Type 0
IsLed seat number c answer t after = (cs : List (journal.Command Event)) × Asks t seat number c answer cs × AreAfter Step cs t after

by_event : (t : NodeTimeline) (e : Event) (a : Accepted NodeState Answer Note) (after : NodeTimeline) → Step (here t).node e (Ok a) → after ≡ appended t a.node a.note → AreAfter Step (perform e ∷ []) t after
by_event t e a after accepts now = (appended t a.node a.note, (Ok a, accepts, refl), now)

-- a question leads nowhere, whatever it is answered
nothing : (seat number : ℕ) (c : Command) (it : Said) (answer : Result Said Fault) (t after : NodeTimeline) → Asks t seat number c (Ok it) [] → answer ≡ Ok it → after ≡ t → IsLed seat number c answer t after
nothing seat number c it answer t after asked is now = ([], subst (λ (r : Result Said Fault). Asks t seat number c r []) (sym is) asked, now)

led-perform : (seat number : ℕ) (e : Event) (t : NodeTimeline) (answer : Result Said Fault) (noting : Option Note) (after : NodeTimeline) → ByEvent t e IsPerformed answer noting after → IsLed seat number (command.Perform e) answer t after
led-perform seat number e t (Ok it) noting after (a, room, accepts, is, noted, now) = (perform e ∷ [], refl, by_event t e a after accepts now)
led-perform seat number e t (Err why) noting after gives = ([], refl, gives.2)

led-call : (seat number : ℕ) (name : _) (term : _) (t : NodeTimeline) (answer : Result Said Fault) (noting : Option Note) (after : NodeTimeline) → ByEvent t (event.Arrive seat name (body.Call number term)) (IsCalled number) answer noting after → IsLed seat number (command.Call name term) answer t after
led-call seat number name term t (Ok it) noting after (a, room, accepts, is, noted, now) =
    let e = event.Arrive seat name (body.Call number term) in (perform e ∷ [], refl, by_event t e a after accepts now)
led-call seat number name term t (Err why) noting after gives = ([], refl, gives.2)

led-taken : (seat number above : ℕ) (who : Option ℕ) (t : NodeTimeline) (answer : Result Said Fault) (noting : Option Note) (after : NodeTimeline) → IsNext above who (here t).node.processes → TakesOf who t answer noting after → IsLed seat number (command.TakeAny above) answer t after
led-taken seat number above None t answer noting after turn gives = nothing seat number (command.TakeAny above) (said.Taken None) answer t after (inl (refl, refl)) gives.0 gives.2
led-taken seat number above (Some pid) t (Ok it) noting after turn (a, room, accepts, is, noted, now) =
    (perform (event.Take pid) ∷ [], inr (pid, is.0, turn, is.2, refl), by_event t (event.Take pid) a after accepts now)
led-taken seat number above (Some pid) t (Err why) noting after turn gives = ([], refl, gives.2)

led-undo : (seat number mark : ℕ) (t : NodeTimeline) (answer : Result Said Fault) (noting : Option Note) (after : NodeTimeline) → Cuts mark t answer noting after → IsLed seat number (command.Undo mark) answer t after
led-undo seat number mark t (Ok it) noting after gives = (undo mark ∷ [], refl, (after, ap (λ o. unwrap_or o t) (sym gives.0), refl))
led-undo seat number mark t (Err why) noting after gives = ([], refl, gives.2)

led-forget : (seat number mark : ℕ) (t : NodeTimeline) (answer : Result Said Fault) (noting : Option Note) (after : NodeTimeline) → Drops mark t answer noting after → IsLed seat number (command.Forget mark) answer t after
led-forget seat number mark t (Ok it) noting after gives = (forget mark ∷ [], refl, (after, ap (λ o. unwrap_or o t) (sym gives.0), refl))
led-forget seat number mark t (Err why) noting after gives = ([], refl, gives.2)

-- a job that is given once more
led-retake : (seat number pid : ℕ) (t : NodeTimeline) (answer : Result Said Fault) (after : NodeTimeline) → after ≡ t → IsLed seat number (command.Retake pid) answer t after
led-retake seat number pid t (Ok it) after now = ([], refl, now)
led-retake seat number pid t (Err why) after now = ([], refl, now)

led-one : (t : NodeTimeline) (before : List Entry) (seat : ℕ) (c : Command) (answer : Result Said Fault) (noting : Option Note) (after : NodeTimeline) → Gives t before seat c answer noting after → IsLed seat (length before) c answer t after
led-one t before seat (command.Perform e) answer noting after gives = led-perform seat (length before) e t answer noting after gives
led-one t before seat (command.Call name term) answer noting after gives = led-call seat (length before) name term t answer noting after gives
led-one t before seat (command.TakeAny above) answer noting after gives = led-taken seat (length before) above gives.0 t answer noting after gives.1 gives.2
led-one t before seat command.Mark answer noting after gives = nothing seat (length before) command.Mark (said.Marked (here t).serial) answer t after refl gives.0 gives.2
led-one t before seat (command.Undo mark) answer noting after gives = led-undo seat (length before) mark t answer noting after gives
led-one t before seat (command.Forget mark) answer noting after gives = led-forget seat (length before) mark t answer noting after gives
led-one t before seat (command.Retake pid) answer noting after gives = led-retake seat (length before) pid t answer after gives.2
led-one t before seat (command.Replies from) answer noting after gives = nothing seat (length before) (command.Replies from) (said.Replied (drop from (replies_to seat before))) answer t after refl gives.0 gives.2
led-one t before seat command.Which answer noting after gives = nothing seat (length before) command.Which (said.Releases (which_releases (here t).node.releases)) answer t after refl gives.0 gives.2

pub led : (t : NodeTimeline) (before entries : List Entry) (end : NodeTimeline) → Legal t before entries end → (cs : List (journal.Command Event)) × AllAsk t before entries cs end × AreAfter Step cs t end
led t before [] end is = ([], (refl, is), is)
led t before (e ∷ entries) end (mid, gives, legal) =
    let one = led-one t before e.seat e.command e.answer e.note mid gives in
    let rest = led mid (before ++ e ∷ []) entries end legal in
    (one.0 ++ rest.0, (mid, one.0, rest.0, gives, one.1, one.2, rest.1, refl), AreAfter-append Step one.0 rest.0 t mid end one.2 rest.2)

pub commanded : (n : NodeState) (entries : List Entry) (end : NodeTimeline) → Legal (opened n) [] entries end → IsCommanded entries n end
commanded n entries end legal =
    let all = led (opened n) [] entries end legal in
    let runs = RunsCommands-of Step all.0 (opened n) end [] all.2 in
    record {
      commands = all.0;
      asked = all.1;
      lead = all.2;
      ordered = IsOrdered-after Step all.0 (opened n) end all.2 (IsOrdered-opened n);
      live = runs.0;
      runs = runs.1;
      stations = Makes-live Step n all.0 end runs.0 runs.1;
      fold = FoldsTo-live Step n all.0 end runs.0 runs.1;
    }
