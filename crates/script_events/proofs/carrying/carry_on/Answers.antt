-- The instruction is carried out, and told as often as it is asked for.
use Rattle.std.proofs.Common.{◌∙◌, List, None, length, map, replicate, sym, ap}
use Rattle.std.proofs.lemmas.List.{length-replicate}
use Rattle.process_effects.specs.declared.told.Reply.{Reply}
use Rattle.script_runner.specs.Parts.{parts_of}
use Rattle.undo_journal.specs.declared.reversible.Told.{Told}
use Rattle.node_parts.proofs.Accepting.{each_of}
use Rattle.script_events.proofs.Scripts.{carried}
use Rattle.node_types.specs.declared.event.Answer.{Answer}
use Rattle.node_types.specs.declared.event.Answer.TheVariants as answer
use Rattle.node_types.specs.Note.{Note}
use Rattle.script_events.proofs.carrying.carry_on.Goals as goal

pub returns-in-Ok-step-clause-goes_on : goal.returns-in-Ok-step-clause-goes_on
returns-in-Ok-step-clause-goes_on c =
    let n = c.args.n in
    let i = c.in-Some.next.now in
    let runner = c.args.runner.now in
    let said : List Reply → Told Answer Note = λ rs. record { answer = answer.Ran i; note = record { replies = rs; arrival = None } } in
    let before = parts_of c.args.modules.now c.args.processes.now c.args.apps.now runner.progress in
    let after = parts_of c.step.new.modules c.step.new.processes c.step.new.apps c.step.new.progress in
    carried c.args.release.now c.args.give_up n before after runner.script c.as_slice-script.result.now runner.progress.next c.step.new.progress.next c.in-Ok-step.field-0
    (record { told = c.tell_ran.result; undo = c.fill.result }) i c.as_slice-script.ensures c.in-Ok-step.ensures (sym c.in-Some.ensures) c.fill.ensures
    (λ told are.
    let copies = c.in-Ok-copies_of.ensures ∙ ap (λ k. replicate k i) (sym (ap length are ∙ length-replicate n told)) in
    c.tell_ran.ensures i copies ∙ ap (map said) are ∙ each_of said told n)
