-- At one point a command gives one thing, and a history leads to one end.
use Rattle.std.proofs.Common.{◌≡◌, ◌<◌, ◌-◌, ◌^◌, ◌⊎◌, ℕ, inl, inr, if◌then◌else◌, true, false, List, [], ◌∷◌, ◌++◌, drop, Option, None, Some, is_some, length, map, Result, Ok, Err, refl, sym, ap, subst, ◌∙◌, arith}
use Rattle.std.proofs.lemmas.Bool.{cases_order, true≢false}
use Rattle.std.proofs.lemmas.Option.{none-some, same_Some}
use Rattle.erl_semantics.specs.declared.jobs.Job.{Job}
use Rattle.process_effects.specs.Commits.{job_at}
use Rattle.process_store.specs.Table.{Table, living}
use Rattle.process_store.specs.declared.living.ProcessEntry.{ProcessEntry}
use Rattle.process_table.specs.Steps.{IsNextRunnable, is_runnable, retake_refusal_of}
use Rattle.release_statuses.specs.Statuses.{which_releases}
use Rattle.process_table.specs.declared.body.ClientMessage.TheVariants as body
use Rattle.process_table.specs.declared.error.ProcError.{ProcError}
use Rattle.process_table.specs.declared.error.ProcError.TheVariants.{NotRunning}
use Rattle.undo_journal.proofs.Forgets.{forgotten_to-uncut}
use Rattle.undo_journal.specs.Reversible.{Accepted}
use Rattle.undo_journal.specs.Timeline.{appended, cut_stations, cut_to, here, report_of}
use Rattle.node_rules.proofs.OneOutcome.{one_outcome_of}
use Rattle.node_rules.specs.Node.{NodeState}
use Rattle.node_rules.specs.Step.{Step}
use Rattle.node_types.specs.Note.{Note}
use Rattle.node_types.specs.declared.event.Answer.{Answer}
use Rattle.node_types.specs.declared.event.Event.{Event}
use Rattle.node_types.specs.declared.event.Event.TheVariants as event
use Rattle.node_types.specs.declared.event.Refusal.{Refusal}
use Rattle.node_types.specs.declared.event.Refusal.TheVariants.{OfProcesses}
use Rattle.node_history.specs.History.{ByEvent, Cuts, Drops, Gives, IsCalled, IsPerformed, IsRetaken, IsTaken, IsNext, LacksStation, Legal, NodeTimeline, Reads, RefusesBy, TakesAny, TakesOf, asked_by, replies_to}
use Rattle.node_history.specs.declared.command.Command.{Command}
use Rattle.node_history.specs.declared.command.Command.TheVariants as command
use Rattle.node_history.specs.declared.command.Fault.{Fault}
use Rattle.node_history.specs.declared.command.Fault.TheVariants as fault
use Rattle.node_history.specs.declared.command.Said.{Said}
use Rattle.node_history.specs.declared.command.Said.TheVariants as said
use Rattle.node_history.specs.declared.entry.Entry.{Entry}

abbrev AreOne : (answer other : Result Said Fault) (noting more : Option Note) (after last : NodeTimeline) → Type 0
AreOne answer other noting more after last = (answer ≡ other) × (noting ≡ more) × (after ≡ last)

reads-once : (t : NodeTimeline) (it : Said) (answer other : Result Said Fault) (noting more : Option Note) (after last : NodeTimeline) → Reads t it answer noting after → Reads t it other more last → AreOne answer other noting more after last
reads-once t it answer other noting more after last first second = (first.0 ∙ sym second.0, first.1 ∙ sym second.1, first.2 ∙ sym second.2)

-- of an event

same_accepted : (t : NodeTimeline) (e : Event) (a b : Accepted NodeState Answer Note) → Step (here t).node e (Ok a) → Step (here t).node e (Ok b) → a ≡ b
same_accepted t e a b first second = let same = one_outcome_of (here t).node e (Ok a) (Ok b) first second in cc

same_refusal : (t : NodeTimeline) (e : Event) (x y : Refusal) → Step (here t).node e (Err x) → Step (here t).node e (Err y) → x ≡ y
same_refusal t e x y first second = let same = one_outcome_of (here t).node e (Err x) (Err y) first second in cc

never_both : (t : NodeTimeline) (e : Event) (a : Accepted NodeState Answer Note) (why : Fault) → Step (here t).node e (Ok a) → (t.last ≡ 2 ^ 64 - 1 → ⊥) → RefusesBy t e why → ⊥
never_both t e a (fault.Refused why) accepts room refuses = let same = one_outcome_of (here t).node e (Ok a) (Err why) accepts refuses.1 in let no : ⊥ = cc in no
never_both t e a fault.Forgotten accepts room refuses = refuses
never_both t e a fault.DeadMark accepts room refuses = refuses
never_both t e a fault.SerialEnd accepts room refuses = room refuses

same_fault : (t : NodeTimeline) (e : Event) (x y : Fault) → RefusesBy t e x → RefusesBy t e y → x ≡ y
same_fault t e (fault.Refused x) (fault.Refused y) first second = ap (λ (w : Refusal). fault.Refused w) (same_refusal t e x y first.1 second.1)
same_fault t e (fault.Refused x) fault.SerialEnd first second = absurd (first.0 second)
same_fault t e fault.SerialEnd (fault.Refused y) first second = absurd (second.0 first)
same_fault t e fault.SerialEnd fault.SerialEnd first second = refl
same_fault t e fault.Forgotten y first second = absurd first
same_fault t e fault.DeadMark y first second = absurd first
same_fault t e (fault.Refused x) fault.Forgotten first second = absurd second
same_fault t e (fault.Refused x) fault.DeadMark first second = absurd second
same_fault t e fault.SerialEnd fault.Forgotten first second = absurd second
same_fault t e fault.SerialEnd fault.DeadMark first second = absurd second

event-once : (t : NodeTimeline) (e : Event) (IsTold : Answer → Said → Type 0) → ((a : Answer) (x y : Said) → IsTold a x → IsTold a y → x ≡ y) → (answer other : Result Said Fault) (noting more : Option Note) (after last : NodeTimeline) → ByEvent t e IsTold answer noting after → ByEvent t e IsTold other more last → AreOne answer other noting more after last
event-once t e IsTold unique (Ok x) (Ok y) noting more after last (a, room, first, is, noted, now) (b, left, second, was, marked, later) =
    let same = same_accepted t e a b first second in (
      ap (λ (w : Said). Ok w) (unique a.answer x y is (subst (λ (o : Accepted NodeState Answer Note). IsTold o.answer y) (sym same) was)),
      noted ∙ ap (λ (o : Accepted NodeState Answer Note). Some o.note) same ∙ sym marked,
      now ∙ ap (λ (o : Accepted NodeState Answer Note). appended t o.node o.note) same ∙ sym later,
    )
event-once t e IsTold unique (Ok x) (Err why) noting more after last (a, room, first, is, noted, now) second = absurd (never_both t e a why first room second.0)
event-once t e IsTold unique (Err why) (Ok y) noting more after last first (b, left, second, was, marked, later) = absurd (never_both t e b why second left first.0)
event-once t e IsTold unique (Err x) (Err y) noting more after last first second =
    (ap (λ (w : Fault). Err w) (same_fault t e x y first.0 second.0), first.1 ∙ sym second.1, first.2 ∙ sym second.2)

performed-once : (a : Answer) (x y : Said) → IsPerformed a x → IsPerformed a y → x ≡ y
performed-once a x y first second = first ∙ sym second

called-once : (number : ℕ) (a : Answer) (x y : Said) → IsCalled number a x → IsCalled number a y → x ≡ y
called-once number a x y first second = first ∙ sym second

job-once : (a : Answer) (x y : Said) → IsTaken a x → IsTaken a y → x ≡ y
job-once a x y (job, told, is) (more, tells, was) =
    let same : job ≡ more = (let both = sym told ∙ tells in cc) in is ∙ ap (λ (j : Job). said.Taken (Some j)) same ∙ sym was

-- of whose turn it is

not_both : (pid : ℕ) (t : Table) → is_runnable (living pid t) ≡ true → is_runnable (living pid t) ≡ false → ⊥
not_both pid t can not = true≢false (sym can ∙ not)

one_least : (above : ℕ) (t : Table) (p q : ℕ) → (p ≡ q) ⊎ ((p < q) ⊎ (q < p)) → IsNextRunnable above (Some p) t → IsNextRunnable above (Some q) t → Some p ≡ Some q
one_least above t p q (inl same) first second = ap (λ (n : ℕ). Some n) same
one_least above t p q (inr (inl less)) first second = absurd (not_both p t first.1 (second.2 p first.0 less))
one_least above t p q (inr (inr more)) first second = absurd (not_both q t second.1 (first.2 q second.0 more))

next-once : (above : ℕ) (t : Table) (r s : Option ℕ) → IsNextRunnable above r t → IsNextRunnable above s t → r ≡ s
next-once above t None None first second = refl
next-once above t None (Some q) first second = absurd (not_both q t second.1 (first q second.0 tt))
next-once above t (Some p) None first second = absurd (not_both p t first.1 (second p first.0 tt))
next-once above t (Some p) (Some q) first second = one_least above t p q (cases_order p q) first second

some_or_none : (above : ℕ) (t : Table) (p : ℕ) → IsNextRunnable above (Some p) t → IsNextRunnable above None t → ⊥
some_or_none above t p first second = none-some p (next-once above t None (Some p) second first)

some_or_nobody : (above : ℕ) (t : Table) (p : ℕ) → IsNextRunnable above (Some p) t → IsNextRunnable 0 None t → ⊥
some_or_nobody above t p first second = not_both p t first.1 (second p (omega (arith, first.0)) tt)

turn-once : (above : ℕ) (t : Table) (r s : Option ℕ) → IsNext above r t → IsNext above s t → r ≡ s
turn-once above t None None first second = refl
turn-once above t None (Some q) first (inl second) = absurd (some_or_nobody above t q second first)
turn-once above t None (Some q) first (inr second) = absurd (some_or_none 0 t q second.1 first)
turn-once above t (Some p) None (inl first) second = absurd (some_or_nobody above t p first second)
turn-once above t (Some p) None (inr first) second = absurd (some_or_none 0 t p first.1 second)
turn-once above t (Some p) (Some q) (inl first) (inl second) = next-once above t (Some p) (Some q) first second
turn-once above t (Some p) (Some q) (inl first) (inr second) = absurd (some_or_none above t p first second.0)
turn-once above t (Some p) (Some q) (inr first) (inl second) = absurd (some_or_none above t q second first.0)
turn-once above t (Some p) (Some q) (inr first) (inr second) = next-once 0 t (Some p) (Some q) first.1 second.1

taken-once : (who : Option ℕ) (t : NodeTimeline) (answer other : Result Said Fault) (noting more : Option Note) (after last : NodeTimeline) → TakesOf who t answer noting after → TakesOf who t other more last → AreOne answer other noting more after last
taken-once None t answer other noting more after last first second = reads-once t (said.Taken None) answer other noting more after last first second
taken-once (Some pid) t answer other noting more after last first second = event-once t (event.Take pid) IsTaken job-once answer other noting more after last first second

takes-once : (above : ℕ) (t : NodeTimeline) (answer other : Result Said Fault) (noting more : Option Note) (after last : NodeTimeline) → TakesAny above t answer noting after → TakesAny above t other more last → AreOne answer other noting more after last
takes-once above t answer other noting more after last (who, turn, first) (whom, turns, second) =
    let same = turn-once above (here t).node.processes whom who turns turn in
    taken-once who t answer other noting more after last first (subst (λ w. TakesOf w t other more last) same second)

-- of marks

station-once : (mark : ℕ) (t : NodeTimeline) (x y : Fault) → LacksStation mark t x → LacksStation mark t y → x ≡ y
station-once mark t (fault.Refused why) y first second = absurd first
station-once mark t fault.SerialEnd y first second = absurd first
station-once mark t fault.Forgotten (fault.Refused why) first second = absurd second
station-once mark t fault.Forgotten fault.SerialEnd first second = absurd second
station-once mark t fault.Forgotten fault.Forgotten first second = refl
station-once mark t fault.Forgotten fault.DeadMark first second = absurd (omega (arith, first.0, second.0))
station-once mark t fault.DeadMark (fault.Refused why) first second = absurd second
station-once mark t fault.DeadMark fault.SerialEnd first second = absurd second
station-once mark t fault.DeadMark fault.Forgotten first second = absurd (omega (arith, first.0, second.0))
station-once mark t fault.DeadMark fault.DeadMark first second = refl

uncut : (mark : ℕ) (t : NodeTimeline) (why : Fault) → LacksStation mark t why → cut_to mark t ≡ None
uncut mark t (fault.Refused why) none = absurd none
uncut mark t fault.Forgotten none = none.1
uncut mark t fault.DeadMark none = none.1
uncut mark t fault.SerialEnd none = absurd none

cuts-once : (mark : ℕ) (t : NodeTimeline) (answer other : Result Said Fault) (noting more : Option Note) (after last : NodeTimeline) → Cuts mark t answer noting after → Cuts mark t other more last → AreOne answer other noting more after last
cuts-once mark t (Ok x) (Ok y) noting more after last first second =
    let same = same_Some after last (sym first.0 ∙ second.0) in (
      ap (λ (w : Said). Ok w) (first.1 ∙ ap (λ (u : NodeTimeline). said.Undone (report_of (cut_stations t u))) same ∙ sym second.1),
      first.2 ∙ sym second.2,
      same,
    )
cuts-once mark t (Ok x) (Err why) noting more after last first second = absurd (none-some after (sym (uncut mark t why second.0) ∙ first.0))
cuts-once mark t (Err why) (Ok y) noting more after last first second = absurd (none-some last (sym (uncut mark t why first.0) ∙ second.0))
cuts-once mark t (Err x) (Err y) noting more after last first second =
    (ap (λ (w : Fault). Err w) (station-once mark t x y first.0 second.0), first.1 ∙ sym second.1, first.2 ∙ sym second.2)

drops-once : (mark : ℕ) (t : NodeTimeline) (answer other : Result Said Fault) (noting more : Option Note) (after last : NodeTimeline) → Drops mark t answer noting after → Drops mark t other more last → AreOne answer other noting more after last
drops-once mark t (Ok x) (Ok y) noting more after last first second =
    (ap (λ (w : Said). Ok w) (first.1 ∙ sym second.1), first.2 ∙ sym second.2, same_Some after last (sym first.0 ∙ second.0))
drops-once mark t (Ok x) (Err why) noting more after last first second = absurd (none-some after (sym (forgotten_to-uncut mark t (uncut mark t why second.0)) ∙ first.0))
drops-once mark t (Err why) (Ok y) noting more after last first second = absurd (none-some last (sym (forgotten_to-uncut mark t (uncut mark t why first.0)) ∙ second.0))
drops-once mark t (Err x) (Err y) noting more after last first second =
    (ap (λ (w : Fault). Err w) (station-once mark t x y first.0 second.0), first.1 ∙ sym second.1, first.2 ∙ sym second.2)

-- of a job that is given once more

unrefused : (l : Option ProcessEntry) (job : Job) → job_at l ≡ Some job → retake_refusal_of l ≡ None
unrefused None job runs = absurd (none-some job runs)
unrefused (Some l) job runs = ap (λ (o : Option Job). if is_some o then None else Some NotRunning) runs

retaken-once : (pid : ℕ) (n : NodeState) (answer other : Result Said Fault) → IsRetaken pid n answer → IsRetaken pid n other → answer ≡ other
retaken-once pid n (Ok x) (Ok y) (job, runs, is) (more, run, was) =
    ap (λ (w : Said). Ok w) (is ∙ ap (λ (j : Job). said.Retaken j) (same_Some job more (sym runs ∙ run)) ∙ sym was)
retaken-once pid n (Ok x) (Err why) (job, runs, is) (e, refused, was) = absurd (none-some e (sym (unrefused (living pid n.processes) job runs) ∙ refused))
retaken-once pid n (Err why) (Ok y) (e, refused, was) (job, runs, is) = absurd (none-some e (sym (unrefused (living pid n.processes) job runs) ∙ refused))
retaken-once pid n (Err x) (Err y) (e, refused, is) (f, refuses, was) =
    ap (λ (w : Fault). Err w) (is ∙ ap (λ (p : ProcError). fault.Refused (OfProcesses p)) (same_Some e f (sym refused ∙ refuses)) ∙ sym was)

-- of each command
pub gives-once : (t : NodeTimeline) (before : List Entry) (seat : ℕ) (c : Command) (answer other : Result Said Fault) (noting more : Option Note) (after last : NodeTimeline) → Gives t before seat c answer noting after → Gives t before seat c other more last → AreOne answer other noting more after last
gives-once t before seat (command.Perform e) answer other noting more after last first second = event-once t e IsPerformed performed-once answer other noting more after last first second
gives-once t before seat (command.Call name term) answer other noting more after last first second = event-once t (event.Arrive seat name (body.Call (length before) term)) (IsCalled (length before)) (called-once (length before)) answer other noting more after last first second
gives-once t before seat (command.TakeAny above) answer other noting more after last first second = takes-once above t answer other noting more after last first second
gives-once t before seat command.Mark answer other noting more after last first second = reads-once t (said.Marked (here t).serial) answer other noting more after last first second
gives-once t before seat (command.Undo mark) answer other noting more after last first second = cuts-once mark t answer other noting more after last first second
gives-once t before seat (command.Forget mark) answer other noting more after last first second = drops-once mark t answer other noting more after last first second
gives-once t before seat (command.Retake pid) answer other noting more after last first second =
    (retaken-once pid (here t).node answer other first.0 second.0, first.1 ∙ sym second.1, first.2 ∙ sym second.2)
gives-once t before seat (command.Replies from) answer other noting more after last first second = reads-once t (said.Replied (drop from (replies_to seat before))) answer other noting more after last first second
gives-once t before seat command.Which answer other noting more after last first second = reads-once t (said.Releases (which_releases (here t).node.releases)) answer other noting more after last first second

-- Of what is asked in one order there is one history.

same_head : (x y : ℕ × Command) (xs ys : List (ℕ × Command)) → x ∷ xs ≡ y ∷ ys → x ≡ y
same_head x y xs ys same = cc

same_tail : (x y : ℕ × Command) (xs ys : List (ℕ × Command)) → x ∷ xs ≡ y ∷ ys → xs ≡ ys
same_tail x y xs ys same = cc

nobody_asked : (x : ℕ × Command) (xs : List (ℕ × Command)) → [] ≡ x ∷ xs → ⊥
nobody_asked x xs same = let no : ⊥ = cc in no

pub history-once : (t : NodeTimeline) (before entries others : List Entry) (end last : NodeTimeline) → map asked_by entries ≡ map asked_by others → Legal t before entries end → Legal t before others last → (entries ≡ others) × (end ≡ last)
history-once t before [] [] end last same first second = (refl, first ∙ sym second)
history-once t before [] (o ∷ others) end last same first second = absurd (nobody_asked (asked_by o) (map asked_by others) same)
history-once t before (e ∷ entries) [] end last same first second = absurd (nobody_asked (asked_by e) (map asked_by entries) (sym same))
history-once t before (e ∷ entries) (o ∷ others) end last same (mid, gives, rest) (other, gave, more) =
    let head = same_head (asked_by e) (asked_by o) (map asked_by entries) (map asked_by others) same in
    let tail = same_tail (asked_by e) (asked_by o) (map asked_by entries) (map asked_by others) same in
    let one = gives-once t before e.seat e.command e.answer o.answer e.note o.note mid other gives (subst (λ (p : ℕ × Command). Gives t before p.0 p.1 o.answer o.note other) (sym head) gave) in
    let entry : e ≡ o = (λ i. record { seat = (head i).0; command = (head i).1; answer = one.0 i; note = one.1 i }) in
    let there = subst (λ (u : NodeTimeline). Legal u (before ++ o ∷ []) others last) (sym one.2) more in
    let behind = subst (λ (x : Entry). Legal mid (before ++ x ∷ []) others last) (sym entry) there in
    let all = history-once mid (before ++ e ∷ []) entries others end last tail rest behind in
    (λ i. entry i ∷ all.0 i, all.1)
