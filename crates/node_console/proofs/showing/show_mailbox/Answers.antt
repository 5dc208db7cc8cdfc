-- Nobody lives under the pid, or one does.
use Rattle.std.proofs.Common.{IfOk, Option, ap, subst, ◌∙◌}
use Rattle.node_console.proofs.Answering.{IfOk-then, word_said}
use Rattle.node_console.specs.Console.{ShowsQueue}
use Rattle.node_console.specs.Held.{IsShown}
use Rattle.process_store.specs.Table.{Table, living}
use Rattle.process_store.specs.declared.living.ProcessEntry.{ProcessEntry}
use Rattle.shell_answers.specs.declared.fixed.Fixed.TheVariants as words
use Rattle.node_console.proofs.showing.show_mailbox.Goals as goal

pub returns-in-Some : goal.returns-in-Some
returns-in-Some c =
    subst (λ (o : Option ProcessEntry). IfOk c.say_mailbox.result (λ fate. IsShown (ShowsQueue o fate) c.args.out.now.items c.say_mailbox.new.out.items)) (c.in-Some.ensures ∙ ap (λ (t : Table). living c.args.pid t) c.processes.ensures) c.say_mailbox.ensures

pub returns-in-None : goal.returns-in-None
returns-in-None c =
    subst (λ (o : Option ProcessEntry). IfOk c.say.result (λ fate. IsShown (ShowsQueue o fate) c.args.out.now.items c.say.new.out.items)) (c.in-None.ensures ∙ ap (λ (t : Table). living c.args.pid t) c.processes.ensures)
    (IfOk-then c.say.result _ _ c.say.ensures (λ fate told. word_said words.NoProc fate _ _ told))
