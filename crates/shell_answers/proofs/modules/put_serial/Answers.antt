-- By the instance.
use Rattle.std.proofs.Common.{codes, pos, sym, ap, ◌∙◌}
use Rattle.erl_term.specs.Tree.{int}
use Rattle.shell_answers.specs.Answers.{serial_of}
use Rattle.shell_answers.proofs.Pieces.{on_ok, same, bytes}
use Rattle.shell_answers.proofs.Texts.{none-word}
use Rattle.shell_answers.proofs.modules.put_serial.Goals as goal

pub returns-in-None : goal.returns-in-None
returns-in-None c =
    on_ok c.put.result _ _ c.put.ensures (λ wrote. same c.args.out.now.items c.put.new.out.items (codes "none") _ wrote (sym none-word ∙ ap (λ o. bytes (serial_of o)) (sym c.in-None.is)))

pub returns-in-Some : goal.returns-in-Some
returns-in-Some c =
    on_ok c.put_number.result _ _ c.put_number.ensures (λ wrote. same c.args.out.now.items c.put_number.new.out.items (bytes (int (pos c.in-Some.instance.serial))) _ wrote (ap (λ o. bytes (serial_of o)) (sym c.in-Some.is)))
