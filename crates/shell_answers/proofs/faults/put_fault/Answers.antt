-- Each fault by its word.
use Rattle.std.proofs.Common.{codes, sym, ap, ◌∙◌}
use Rattle.shell_answers.specs.Faults.{fault_of}
use Rattle.shell_answers.proofs.Pieces.{on_ok, same, bytes}
use Rattle.shell_answers.proofs.Texts.{missing-word, wrong_module-word, duplicate_module-word, memory-word}
use Rattle.shell_answers.proofs.faults.put_fault.Goals as goal

pub returns-in-Missing : goal.returns-in-Missing
returns-in-Missing c =
    on_ok c.put.result _ _ c.put.ensures (λ wrote. same c.args.out.now.items c.put.new.out.items (codes "missing") _ wrote (sym missing-word ∙ ap (λ e. bytes (fault_of e)) (sym c.in-Missing.is)))

pub returns-in-WrongModule : goal.returns-in-WrongModule
returns-in-WrongModule c =
    on_ok c.put-in-WrongModule.result _ _ c.put-in-WrongModule.ensures (λ wrote. same c.args.out.now.items c.put-in-WrongModule.new.out.items (codes "wrong_module") _ wrote (sym wrong_module-word ∙ ap (λ e. bytes (fault_of e)) (sym c.in-WrongModule.is)))

pub returns-in-DuplicateModule : goal.returns-in-DuplicateModule
returns-in-DuplicateModule c =
    on_ok c.put-in-DuplicateModule.result _ _ c.put-in-DuplicateModule.ensures (λ wrote. same c.args.out.now.items c.put-in-DuplicateModule.new.out.items (codes "duplicate_module") _ wrote (sym duplicate_module-word ∙ ap (λ e. bytes (fault_of e)) (sym c.in-DuplicateModule.is)))

pub returns-in-Memory : goal.returns-in-Memory
returns-in-Memory c =
    on_ok c.put-in-Memory.result _ _ c.put-in-Memory.ensures (λ wrote. same c.args.out.now.items c.put-in-Memory.new.out.items (codes "memory") _ wrote (sym memory-word ∙ ap (λ e. bytes (fault_of e)) (sym c.in-Memory.is)))
