-- A word that is no command, or the comment on one.
use Rattle.std.proofs.Common.{Bool, IfOk, None, refl, subst, sym, ◌∙◌}
use Rattle.node_console.proofs.Answering.{IfOk-then, comments_said, word_said}
use Rattle.node_console.specs.Console.{SaysHelp}
use Rattle.node_console.specs.Held.{IsShown}
use Rattle.shell_answers.specs.declared.fixed.Fixed.TheVariants as words
use Rattle.node_console.proofs.showing.show_help.Goals as goal

pub returns-then-not-is_command : goal.returns-then-not-is_command
returns-then-not-is_command c =
    subst (λ (b : Bool). IfOk c.say.result (λ fate. IsShown (SaysHelp b fate) c.args.out.now.items c.say.new.out.items)) (sym c.if-not-is_command.true ∙ c.is_command.ensures)
    (IfOk-then c.say.result _ _ c.say.ensures (λ fate told. word_said words.BadCommand fate _ _ told))

pub returns : goal.returns
returns c =
    subst (λ (b : Bool). IsShown (SaysHelp b None) c.args.out.now.items c.put_comment.new.out.items) (sym c.if-not-is_command.false ∙ c.is_command.ensures)
    (comments_said None c.args.out.now.items c.put_comment.new.out.items refl c.in_ok-put_comment.ensures)
