-- The message arrives.
use Rattle.std.proofs.Common.{◌∙◌, ℕ, List, [], Option, refl, sym, ap}
use Rattle.undo_journal.specs.Reversible.{Accepted}
use Rattle.script_events.specs.Changes.{state_of}
use Rattle.script_events.specs.Node.{NodeState, with_processes}
use Rattle.node_types.specs.declared.event.Answer.{Answer}
use Rattle.node_types.specs.declared.event.Answer.TheVariants as answer
use Rattle.node_types.specs.Note.{Note}
use Rattle.erl_term.specs.declared.term.Term.{Term}
use Rattle.process_table.specs.Messages.{arrival_of, message_of}
use Rattle.process_table.specs.Steps.{after_arrival, arrive_refusal, kind_of}
use Rattle.undo_journal.specs.declared.reversible.Told.{Told}
use Rattle.script_events.proofs.Accepting.{all_told, ends_back, unless_none}
use Rattle.node_types.specs.declared.event.Refusal.TheVariants.{OfProcesses}
use Rattle.node_core.proofs.processes.arrive.Goals as goal

pub returns : goal.returns
returns c =
    let n = state_of c.args.parts.now in
    let name = c.args.name.now in
    let body = c.args.body.now in
    let came = arrival_of name (message_of body) in
    let a : Accepted NodeState Answer Note = record {
      node = with_processes (after_arrival c.args.client name body n.processes) n;
      answer = answer.Unit;
      note = record { replies = []; arrival = came };
    } in
    let said : Option (List ℕ × Term) → Told Answer Note = λ o. record { answer = answer.Unit; note = record { replies = []; arrival = o } } in
    let told = c.tell_arrivals.ensures ∙ all_told said c.in-Ok-deliver.arrivals.items came c.args.n c.in-Ok-deliver.ensures.told in (
      (
        a,
        unless_none (arrive_refusal name (kind_of body) n.processes) OfProcesses a c.requires,
        ap (λ t. with_processes t n) (sym c.in-Ok-deliver.ensures.arrived),
        told,
      ),
      (ends_back c.in-Ok-deliver.undo n.processes c.deliver.new.self c.in-Ok-deliver.ensures.inverse, refl, c.in-Ok-deliver.ensures.pieces),
    )
