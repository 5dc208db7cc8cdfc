-- The script is given up, and the specifications are as before it.
use Rattle.std.proofs.Common.{◌≡◌, ◌∙◌, None, Some, option_map, replicate, refl, sym, ap, subst}
use Rattle.std.proofs.lemmas.Option.{same_Some}
use Rattle.app_table.specs.Undo.{Fits}
use Rattle.script_ends.specs.Ends.{RecoveryBack, apps_recovered}
use Rattle.script_ends.specs.declared.ending.Recovery.{Recovery}
use Rattle.script_state.specs.Runner.{RunnerState, runner_of}
use Rattle.undo_journal.specs.Reversible.{Accepted}
use Rattle.node_parts.specs.Changes.{state_of}
use Rattle.node_parts.specs.Node.{NodeState}
use Rattle.node_parts.specs.Scripts.{recovered_as}
use Rattle.node_types.specs.declared.event.Answer.{Answer}
use Rattle.node_types.specs.declared.event.Answer.TheVariants as answer
use Rattle.node_types.specs.Note.{Note}
use Rattle.script_events.proofs.advancing.give_up_script.Goals as goal

pub recover-requires : goal.recover-requires
recover-requires c =
    let (s, there, fits) = c.requires in
    let run = runner_of c.in-Some.runner in
    let one : s ≡ run = same_Some s run (sym there ∙ ap (option_map runner_of) (sym c.take.ensures.value ∙ c.in-Some.is)) in
    subst (λ (r : RunnerState). Fits r.former c.args.parts.now.apps) one fits

pub returns-in-Ok-recover : goal.returns-in-Ok-recover
returns-in-Ok-recover c = λ s there.
    let n = state_of c.args.parts.now in
    let run = runner_of c.in-Some.runner in
    let apps = c.recover.new.apps in
    let one : run ≡ s = same_Some run s (sym (ap (option_map runner_of) (sym c.take.ensures.value ∙ c.in-Some.is)) ∙ there) in
    let a : Accepted NodeState Answer Note = recovered_as c.args.reason s n in
    let recovered = c.in-Ok-recover.ensures.apps ∙ ap (λ (r : RunnerState). apps_recovered r n.apps) one in
    let none = ap (option_map runner_of) c.take.ensures.after in
    let after : NodeState = record n { apps = apps; runner = option_map runner_of c.take.new.self } in
    let is : a.node ≡ after = (λ i. record n { apps = sym recovered i; runner = sym none i }) in
    let told = c.in-Ok.ensures ∙ ap (λ (note : Note). replicate c.args.n (record { answer = answer.Recovered c.args.reason; note = note })) c.reporting_nothing.ensures in
    let back = subst (λ (r : RunnerState). RecoveryBack c.in-Ok-recover.undo r n.apps apps) one c.in-Ok-recover.ensures.back in
    let back_too = subst (λ (u : Recovery). RecoveryBack u s n.apps apps) (sym c.fill.ensures) back in
    let ends : after ≡ record n { apps = apps; runner = None } = (λ i. record n { apps = apps; runner = none i }) in
    ((a, refl, is, told), (s, there, back_too, ends))
