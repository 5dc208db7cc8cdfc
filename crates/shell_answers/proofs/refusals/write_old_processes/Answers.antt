-- The module is told, or that it isn't known.
use Rattle.std.proofs.Common.{codes, ap, sym, ◌∙◌}
use Rattle.std.specs.Option.{option_copied}
use Rattle.shell_answers.specs.Answers.{line_of}
use Rattle.shell_answers.specs.Refusals.{old_processes}
use Rattle.shell_answers.proofs.Pieces.{on_ok, same}
use Rattle.shell_answers.proofs.Texts.{no_old_processes-line}
use Rattle.shell_answers.proofs.refusals.write_old_processes.Goals as goal

pub returns-in-None : goal.returns-in-None
returns-in-None c =
    on_ok c.put.result _ _ c.put.ensures (λ wrote. same c.args.out.now.items c.put.new.out.items (codes "{error,old_processes}\n") _ wrote (no_old_processes-line ∙ ap (λ o. line_of (old_processes (option_copied o))) (sym c.in-None.is)))
