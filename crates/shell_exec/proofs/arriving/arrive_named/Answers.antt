-- It has arrived under the next number, or it is told why it has not.
use Rattle.std.proofs.Common.{[], ◌≡◌, IfOk, ap, subst, ◌∙◌}
use Rattle.shell_upgrades.specs.Node.{NodeState}
use Rattle.node_types.specs.Note.{Note}
use Rattle.node_types.specs.declared.event.Answer.{Answer}
use Rattle.node_types.specs.declared.event.Event.{Event}
use Rattle.shell_exec.proofs.Answering.{arrival_done}
use Rattle.shell_answers.specs.Refusals.{naming_nothing}
use Rattle.shell_upgrades.proofs.Done.{IfOk-then}
use Rattle.shell_exec.proofs.Arrived.{kept_out}
use Rattle.shell_exec.proofs.Arrived.{arrived-done}
use Rattle.shell_upgrades.specs.Performing.{Performs}
use Rattle.shell_exec.specs.Execution.{arrival_answer, event_of_arrival, tried}
use Rattle.shell_upgrades.specs.Done.{IsDone}
use Rattle.shell_exec.specs.Done.{after_missed}
use Rattle.shell_upgrades.specs.State.{Effect, ShellState, carried, next_number, stepped}
use Rattle.undo_journal.specs.Reversible.{Accepted}
use Rattle.shell_exec.proofs.arriving.arrive_named.Goals as goal

pub returns-in-Ok : goal.returns-in-Ok
returns-in-Ok c =
    let s = c.args.held.now in
    let kind = c.args.kind in
    let here = c.args.out.now.items in
    let out = c.tell_arrived.new.out.items in
    let new = c.tell_arrived.new.held in
    let e = c.arrival_event.result in
    let number = c.next_number-number.ensures in
    let same : e ≡ event_of_arrival kind (next_number s) c.args.name c.args.term = c.arrival_event.ensures ∙ ap (λ n. event_of_arrival kind n c.args.name c.args.term) number in
    subst (λ (done : Accepted NodeState Answer Note → Effect). IfOk c.tell_arrived.result (λ fate. IsDone (Performs s (tried kind s) (event_of_arrival kind (next_number s) c.args.name c.args.term) naming_nothing done fate) new here out)) (arrival_done (tried kind s) kind (next_number s) c.args.name c.args.term) (IfOk-then c.tell_arrived.result _ _ c.tell_arrived.ensures (λ fate told. subst (λ (x : Event). IsDone (Performs s (tried kind s) x naming_nothing (λ a. carried (stepped a (tried kind s)) x (arrival_answer kind (next_number s))) fate) new here out) same (arrived-done s c.perform.new.self new kind e c.next_number-number.result c.in-Ok.field-0 fate here out c.in-Ok.ensures.stepped number told)))

pub returns : goal.returns
returns c =
    let s = c.args.held.now in
    let kind = c.args.kind in
    let here = c.args.out.now.items in
    let out = c.tell_kept_out.new.out.items in
    let new = c.tell_kept_out.new.held in
    let e = c.arrival_event.result in
    let same : e ≡ event_of_arrival kind (next_number s) c.args.name c.args.term = c.arrival_event.ensures ∙ ap (λ n. event_of_arrival kind n c.args.name c.args.term) c.next_number-number.ensures in
    subst (λ (done : Accepted NodeState Answer Note → Effect). IfOk c.tell_kept_out.result (λ fate. IsDone (Performs s (tried kind s) (event_of_arrival kind (next_number s) c.args.name c.args.term) naming_nothing done fate) new here out)) (arrival_done (tried kind s) kind (next_number s) c.args.name c.args.term) (IfOk-then c.tell_kept_out.result _ _ c.tell_kept_out.ensures (λ fate told. subst (λ (x : Event). IsDone (Performs s (tried kind s) x naming_nothing (λ a. carried (stepped a (tried kind s)) x (arrival_answer kind (next_number s))) fate) new here out) same (kept_out s new kind e (λ a. carried (stepped a (tried kind s)) e (arrival_answer kind (next_number s))) c.in-Err.halt fate here out c.in-Err.ensures.halted (told.0, subst (λ (u : ShellState). new ≡ after_missed c.in-Err.halt kind u) c.in-Err.ensures.err told.1, told.2))))
