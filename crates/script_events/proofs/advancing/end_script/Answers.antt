-- The script is finished.
use Rattle.std.proofs.Common.{◌≡◌, ◌∙◌, [], List, None, Some, Ok, option_map, replicate, refl, sym, ap, subst}
use Rattle.std.proofs.lemmas.Option.{same_Some}
use Rattle.script_ends.specs.Ends.{FinishBack, processes_finished, releases_finished}
use Rattle.script_ends.specs.declared.ending.Finish.{Finish}
use Rattle.script_state.specs.Runner.{RunnerState, runner_of}
use Rattle.undo_journal.specs.Reversible.{Accepted}
use Rattle.node_parts.specs.Changes.{state_of}
use Rattle.node_parts.specs.Node.{NodeState}
use Rattle.node_parts.specs.Scripts.{finished_as, reporting}
use Rattle.node_types.specs.declared.event.Answer.{Answer}
use Rattle.node_types.specs.declared.event.Answer.TheVariants as answer
use Rattle.node_types.specs.Note.{Note}
use Rattle.script_events.proofs.advancing.end_script.Goals as goal

pub returns-in-Ok-finish : goal.returns-in-Ok-finish
returns-in-Ok-finish c = λ s there.
    let n = state_of c.args.parts.now in
    let run = runner_of c.in-Some.runner in
    let t = c.finish.new.processes in
    let rs = c.finish.new.releases in
    let one : run ≡ s = same_Some run s (sym (ap (option_map runner_of) (sym c.take.ensures.value ∙ c.in-Some.is)) ∙ there) in
    let a : Accepted NodeState Answer Note = finished_as s n in
    let processes = c.in-Ok-finish.ensures.processes ∙ ap (λ (r : RunnerState). processes_finished r n.processes) one in
    let releases = c.in-Ok-finish.ensures.releases ∙ ap (λ (r : RunnerState). releases_finished r n.releases) one in
    let none = ap (option_map runner_of) c.take.ensures.after in
    let after : NodeState = record n { processes = t; releases = rs; runner = option_map runner_of c.take.new.self } in
    let is : a.node ≡ after = (λ i. record n { processes = sym processes i; releases = sym releases i; runner = sym none i }) in
    let told = c.in-Ok.ensures ∙ ap (λ (r : RunnerState). replicate c.args.n (record { answer = answer.Finished r.other r.description; note = reporting [] })) one in
    let back = subst (λ (r : RunnerState). FinishBack c.in-Ok-finish.undo r n.processes t n.releases rs) one c.in-Ok-finish.ensures.back in
    let back_too = subst (λ (u : Finish). FinishBack u s n.processes t n.releases rs) (sym c.fill.ensures) back in
    let ends : after ≡ record n { processes = t; releases = rs; runner = None } = (λ i. record n { processes = t; releases = rs; runner = none i }) in
    ((a, refl, is, told), (s, there, back_too, ends))
