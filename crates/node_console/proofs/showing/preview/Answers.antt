-- A mark is meant, or none.
use Rattle.std.proofs.Common.{ℕ, IfOk, Option, subst}
use Rattle.node_console.proofs.Answering.{IfOk-then, word_said}
use Rattle.node_console.specs.Console.{Previews}
use Rattle.node_console.specs.Held.{IsShown, console_of}
use Rattle.shell_answers.specs.declared.fixed.Fixed.TheVariants as words
use Rattle.node_console.proofs.showing.preview.Goals as goal

pub returns-in-Some : goal.returns-in-Some
returns-in-Some c =
    subst (λ (o : Option ℕ). IfOk c.preview_mark.result (λ fate. IsShown (Previews (console_of c.args.held.now c.args.books.now) o fate) c.args.out.now.items c.preview_mark.new.out.items)) c.in-Some.ensures c.preview_mark.ensures

pub returns-in-None : goal.returns-in-None
returns-in-None c =
    subst (λ (o : Option ℕ). IfOk c.say.result (λ fate. IsShown (Previews (console_of c.args.held.now c.args.books.now) o fate) c.args.out.now.items c.say.new.out.items)) c.in-None.ensures
    (IfOk-then c.say.result _ _ c.say.ensures (λ fate told. word_said words.DeadMark fate _ _ told))
