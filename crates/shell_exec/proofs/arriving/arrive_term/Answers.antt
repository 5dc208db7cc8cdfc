-- The term has arrived, or it is told why it has not.
use Rattle.std.proofs.Common.{[], ◌≡◌, Some, ap, refl, subst, sym}
use Rattle.std.specs.Str.{chars}
use Rattle.node_types.specs.declared.event.Event.{Event}
use Rattle.shell_answers.specs.Refusals.{naming_nothing}
use Rattle.shell_upgrades.proofs.Done.{IfOk-then}
use Rattle.shell_upgrades.proofs.Performing.{done-as}
use Rattle.shell_upgrades.specs.Performing.{Performs, done_by}
use Rattle.shell_exec.specs.Execution.{Arrives, arrival_event, event_of_arrival, read, tried, unread}
use Rattle.shell_upgrades.specs.Done.{IsDone}
use Rattle.shell_upgrades.specs.State.{next_number}
use Rattle.shell_exec.proofs.arriving.arrive_term.Goals as goal

pub returns-in_default : goal.returns-in_default
returns-in_default c =
    let s = c.args.held.now in
    let name = chars c.args.name.text.now in
    IfOk-then c.refuse.result _ _ c.refuse.ensures (λ fate told. λ text is. subst (λ f. IsDone (Arrives s c.args.kind name text f) s c.args.out.now.items c.refuse.new.out.items) (sym told.0) (_, unread, refl, told.1))

pub returns : goal.returns
returns c =
    let s = c.args.held.now in
    let kind = c.args.kind in
    let name = chars c.args.name.text.now in
    let t = c.args.term in
    let new = c.arrive_named.new.held in
    let out = c.arrive_named.new.out.items in
    let here = c.args.out.now.items in
    let same : event_of_arrival kind (next_number s) c.in-Ok.atom t ≡ arrival_event s kind name t = ap (λ n. event_of_arrival kind (next_number s) n t) c.in-Ok.ensures in
    IfOk-then c.arrive_named.result _ _ c.arrive_named.ensures (λ fate done. λ text is. done-as new here out (λ d does. read t fate d is does) (subst (λ (e : Event). IsDone (Performs s (tried kind s) e naming_nothing (done_by (tried kind s) e) fate) new here out) same done))
