-- Nobody is meant, or the one of a pid.
use Rattle.std.proofs.Common.{ℕ, IfOk, Option, subst}
use Rattle.node_console.proofs.Answering.{IfOk-then, word_said}
use Rattle.node_console.specs.Console.{ShowsQueue, queue_of}
use Rattle.node_console.specs.Held.{IsShown}
use Rattle.shell_answers.specs.declared.fixed.Fixed.TheVariants as words
use Rattle.shell_exec.specs.State.{node_of}
use Rattle.node_console.proofs.showing.show_queue.Goals as goal

pub returns-in-Some : goal.returns-in-Some
returns-in-Some c =
    subst (λ (o : Option ℕ). IfOk c.show_mailbox.result (λ fate. IsShown (ShowsQueue (queue_of o (node_of c.args.held.now)) fate) c.args.out.now.items c.show_mailbox.new.out.items)) c.in-Some.ensures c.show_mailbox.ensures

pub returns-in-None : goal.returns-in-None
returns-in-None c =
    subst (λ (o : Option ℕ). IfOk c.say.result (λ fate. IsShown (ShowsQueue (queue_of o (node_of c.args.held.now)) fate) c.args.out.now.items c.say.new.out.items)) c.in-None.ensures
    (IfOk-then c.say.result _ _ c.say.ensures (λ fate told. word_said words.NoProc fate _ _ told))
