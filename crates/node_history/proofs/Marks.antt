-- What marks name in a history.
use Rattle.std.proofs.Common.{◌≡◌, ◌<◌, ◌≤◌, ℕ, List, [], Option, None, Some, IfSome, length, Result, Ok, Err, refl, sym, ap, subst, ◌∙◌}
use Rattle.std.specs.Prelude.{option_map}
use Rattle.undo_journal.proofs.Forgets.{forgotten_to-mark, here-forgotten}
use Rattle.undo_journal.proofs.Histories.{IsOrdered-after, IsOrdered-opened, node_at-after, node_at-cut, node_at-event, node_at-forgotten}
use Rattle.undo_journal.proofs.Timelines.{cut_to-here}
use Rattle.undo_journal.specs.Timeline.{IsOrdered, here, node_at, opened}
use Rattle.node_rules.specs.Node.{NodeState}
use Rattle.node_rules.specs.Step.{Step}
use Rattle.node_types.specs.Note.{Note}
use Rattle.node_types.specs.declared.event.Answer.{Answer}
use Rattle.node_types.specs.declared.event.Event.{Event}
use Rattle.node_types.specs.declared.event.Event.TheVariants as event
use Rattle.process_table.specs.declared.body.ClientMessage.TheVariants as body
use Rattle.node_history.specs.History.{ByEvent, Gives, IsCalled, IsPerformed, IsTaken, Legal, NodeTimeline, TakesOf}
use Rattle.node_history.specs.Laws.{KeepsStations, NameAsBefore}
use Rattle.node_history.specs.declared.command.Command.{Command}
use Rattle.node_history.specs.declared.command.Command.TheVariants as command
use Rattle.node_history.specs.declared.command.Fault.{Fault}
use Rattle.node_history.specs.declared.command.Said.{Said}
use Rattle.node_history.specs.declared.command.Said.TheVariants as said
use Rattle.node_history.specs.declared.entry.Entry.{Entry}
use Rattle.node_history.proofs.Commanded.{led}

ordered : (n : NodeState) (before : List Entry) (there : NodeTimeline) → Legal (opened n) [] before there → IsOrdered there
ordered n before there legal =
    let all = led (opened n) [] before there legal in
    IsOrdered-after Step all.0 (opened n) there all.2 (IsOrdered-opened n)

if_named : (o p : Option NodeState) → ((n : NodeState) → o ≡ Some n → p ≡ Some n) → IfSome o (λ n. p ≡ Some n)
if_named None p names = tt
if_named (Some n) p names = names n refl

pub name : (n : NodeState) (before behind : List Entry) (there end : NodeTimeline) → Legal (opened n) [] before there → Legal there before behind end → NameAsBefore there end
name n before behind there end legal goes mark given =
    let all = led there before behind end goes in
    if_named (node_at mark end) (node_at mark there) (λ node alive. node_at-after Step mark all.0 there end node all.2 (ordered n before there legal) given alive)

pub given : (n : NodeState) (before : List Entry) (seat mark : ℕ) (noting : Option Note) (there after : NodeTimeline) → Legal (opened n) [] before there → Gives there before seat command.Mark (Ok (said.Marked mark)) noting after → (node_at mark there ≡ Some (here there).node) × (mark ≤ there.last)
given n before seat mark noting there after legal gives =
    let are = ordered n before there legal in
    let is : mark ≡ (here there).serial = (let told = gives.0 in cc told) in
    let named = ap (λ o. option_map (λ (u : NodeTimeline). (here u).node) o) (cut_to-here there are) in
    (subst (λ m. node_at m there ≡ Some (here there).node) (sym is) named, subst (λ m. m ≤ there.last) (sym is) are.given)

pub undone : (n : NodeState) (before : List Entry) (seat mark : ℕ) (it : Said) (noting : Option Note) (there after : NodeTimeline) → Legal (opened n) [] before there → Gives there before seat (command.Undo mark) (Ok it) noting after → (node_at mark there ≡ Some (here after).node) × ((other : ℕ) → (other ≤ mark → node_at other after ≡ node_at other there) × (mark < other → node_at other after ≡ None))
undone n before seat mark it noting there after legal gives =
    (ap (λ o. option_map (λ (u : NodeTimeline). (here u).node) o) gives.0, λ other. node_at-cut mark other there after (ordered n before there legal) gives.0)

pub forgotten : (n : NodeState) (before : List Entry) (seat mark : ℕ) (it : Said) (noting : Option Note) (there after : NodeTimeline) → Legal (opened n) [] before there → Gives there before seat (command.Forget mark) (Ok it) noting after → (after.first.serial ≡ mark) × (here after ≡ here there) × ((other : ℕ) → (mark ≤ other → node_at other after ≡ node_at other there) × (other < mark → node_at other after ≡ None))
forgotten n before seat mark it noting there after legal gives =
    (forgotten_to-mark mark there after gives.0, here-forgotten mark there after gives.0, λ other. node_at-forgotten mark other there after (ordered n before there legal) gives.0)

-- what keeps the timeline, or appends a station to it, keeps what marks name

kept-same : (mark : ℕ) (there after : NodeTimeline) → after ≡ there → node_at mark after ≡ node_at mark there
kept-same mark there after same = ap (λ (t : NodeTimeline). node_at mark t) same

kept-event : (mark : ℕ) (there : NodeTimeline) (e : Event) (IsTold : Answer → Said → Type 0) (answer : Result Said Fault) (noting : Option Note) (after : NodeTimeline) → ByEvent there e IsTold answer noting after → mark ≤ there.last → node_at mark after ≡ node_at mark there
kept-event mark there e IsTold (Ok it) noting after (a, room, accepts, is, noted, now) given =
    kept-same mark _ after now ∙ node_at-event Step mark there (Ok a) given
kept-event mark there e IsTold (Err why) noting after gives given = kept-same mark there after gives.2

kept-taken : (mark : ℕ) (who : Option ℕ) (there : NodeTimeline) (answer : Result Said Fault) (noting : Option Note) (after : NodeTimeline) → TakesOf who there answer noting after → mark ≤ there.last → node_at mark after ≡ node_at mark there
kept-taken mark None there answer noting after gives given = kept-same mark there after gives.2
kept-taken mark (Some pid) there answer noting after gives given =
    kept-event mark there (event.Take pid) IsTaken answer noting after gives given

pub kept : (before : List Entry) (seat : ℕ) (c : Command) (answer : Result Said Fault) (noting : Option Note) (there after : NodeTimeline) → KeepsStations c → Gives there before seat c answer noting after → (mark : ℕ) → mark ≤ there.last → node_at mark after ≡ node_at mark there
kept before seat (command.Perform e) answer noting there after keeps gives mark given =
    kept-event mark there e IsPerformed answer noting after gives given
kept before seat (command.Call name term) answer noting there after keeps gives mark given =
    kept-event mark there (event.Arrive seat name (body.Call (length before) term)) (IsCalled (length before)) answer noting after gives given
kept before seat (command.TakeAny above) answer noting there after keeps gives mark given =
    kept-taken mark gives.0 there answer noting after gives.2 given
kept before seat command.Mark answer noting there after keeps gives mark given = kept-same mark there after gives.2
kept before seat (command.Undo to) answer noting there after keeps gives mark given = absurd (keeps.0 to refl)
kept before seat (command.Forget to) answer noting there after keeps gives mark given = absurd (keeps.1 to refl)
kept before seat (command.Retake pid) answer noting there after keeps gives mark given = kept-same mark there after gives.2
kept before seat (command.Replies from) answer noting there after keeps gives mark given = kept-same mark there after gives.2
kept before seat command.Which answer noting there after keeps gives mark given = kept-same mark there after gives.2
