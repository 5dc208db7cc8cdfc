-- What the job has done is done.
use Rattle.std.proofs.Common.{◌≡◌, ◌∙◌, List, map, None, refl, sym, ap}
use Rattle.undo_journal.specs.Reversible.{Accepted}
use Rattle.script_events.specs.Changes.{state_of}
use Rattle.script_events.specs.Node.{NodeState}
use Rattle.script_events.specs.Scripts.{reporting}
use Rattle.node_types.specs.declared.event.Answer.{Answer}
use Rattle.node_types.specs.declared.event.Answer.TheVariants as answer
use Rattle.node_types.specs.Note.{Note}
use Rattle.process_effects.specs.declared.told.Reply.{Reply}
use Rattle.process_table.specs.Commit.{commit_told, committed}
use Rattle.undo_journal.specs.declared.reversible.Told.{Told}
use Rattle.script_events.proofs.Accepting.{each_of}
use Rattle.script_events.specs.Step.{ended_by}
use Rattle.node_core.proofs.processes.commit.Goals as goal

pub returns-in-Ok-conclude : goal.returns-in-Ok-conclude
returns-in-Ok-conclude c =
    let n = state_of c.args.parts.now in
    let done = c.args.done.now in
    let a : Accepted NodeState Answer Note = record {
      node = record n { processes = committed done n.processes; apps = ended_by done.job.pid done.outcome.end n.apps };
      answer = answer.Unit;
      note = reporting (commit_told done n.processes);
    } in
    let after : NodeState = record n { processes = c.conclude.new.self; apps = c.end_child.new.apps } in
    let said : List Reply → Told Answer Note = λ rs. record { answer = answer.Unit; note = record { replies = rs; arrival = None } } in
    let is : a.node ≡ after = (λ i. record n { processes = sym c.in-Ok-conclude.ensures.committed i; apps = sym c.in-Ok-end_child.ensures.ended i }) in
    let told = c.tell_done.ensures ∙ ap (map said) c.in-Ok-conclude.ensures.told ∙ each_of said (commit_told done n.processes) c.args.n in
    ((a, (c.requires, refl), is, told), c.way_back_of.ensures n after c.in-Ok-conclude.ensures.inverse c.in-Ok-end_child.ensures.inverse refl c.in-Ok-conclude.ensures.pieces c.in-Ok-end_child.ensures.pieces)
