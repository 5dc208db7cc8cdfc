-- The process runs its next message.
use Rattle.std.proofs.Common.{◌∙◌, [], map, None, refl, sym, ap}
use Rattle.undo_journal.specs.Reversible.{Accepted}
use Rattle.script_events.specs.Changes.{state_of}
use Rattle.script_events.specs.Node.{NodeState, with_processes}
use Rattle.script_events.specs.Scripts.{reporting}
use Rattle.node_types.specs.declared.event.Answer.{Answer}
use Rattle.node_types.specs.declared.event.Answer.TheVariants as answer
use Rattle.node_types.specs.Note.{Note}
use Rattle.erl_semantics.specs.declared.jobs.Job.{Job}
use Rattle.process_effects.specs.Commits.{job_at}
use Rattle.process_store.specs.Table.{Table, living}
use Rattle.undo_journal.specs.declared.reversible.Told.{Told}
use Rattle.script_events.proofs.Accepting.{each_of, ends_back}
use Rattle.script_events.specs.Step.{run_taken}
use Rattle.node_core.proofs.processes.take.Goals as goal

pub returns : goal.returns
returns c =
    let n = state_of c.args.parts.now in
    let pid = c.args.pid in
    let takes = c.in-Ok-take_up.ensures.taken in
    let job = takes.job in
    let a : Accepted NodeState Answer Note = record { node = run_taken pid job n; answer = answer.Job job; note = reporting [] } in
    let said : Job → Told Answer Note = λ j. record { answer = answer.Job j; note = record { replies = []; arrival = None } } in
    let runs = ap (λ (u : Table). job_at (living pid u)) (sym takes.table) ∙ takes.runs in
    let told = c.tell_jobs.ensures ∙ ap (map said) takes.told ∙ each_of said job c.args.n in (
      (a, (job, c.requires, takes.code, runs, refl), ap (λ t. with_processes t n) (sym takes.table), told),
      (ends_back c.in-Ok-take_up.undo n.processes c.take_up.new.self c.in-Ok-take_up.ensures.inverse, refl, c.in-Ok-take_up.ensures.pieces),
    )
