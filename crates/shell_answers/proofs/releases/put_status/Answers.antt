-- Each status by its word.
use Rattle.std.proofs.Common.{codes, sym, ap, ◌∙◌}
use Rattle.shell_answers.specs.Answers.{status_of}
use Rattle.shell_answers.proofs.Pieces.{on_ok, same, bytes}
use Rattle.shell_answers.proofs.Texts.{unpacked-word, current-word, permanent-word, old-word}
use Rattle.shell_answers.proofs.releases.put_status.Goals as goal

pub returns-in-Unpacked : goal.returns-in-Unpacked
returns-in-Unpacked c =
    on_ok c.put.result _ _ c.put.ensures (λ wrote. same c.args.out.now.items c.put.new.out.items (codes "unpacked") _ wrote (sym unpacked-word ∙ ap (λ e. bytes (status_of e)) (sym c.in-Unpacked.is)))

pub returns-in-Current : goal.returns-in-Current
returns-in-Current c =
    on_ok c.put-in-Current.result _ _ c.put-in-Current.ensures (λ wrote. same c.args.out.now.items c.put-in-Current.new.out.items (codes "current") _ wrote (sym current-word ∙ ap (λ e. bytes (status_of e)) (sym c.in-Current.is)))

pub returns-in-Permanent : goal.returns-in-Permanent
returns-in-Permanent c =
    on_ok c.put-in-Permanent.result _ _ c.put-in-Permanent.ensures (λ wrote. same c.args.out.now.items c.put-in-Permanent.new.out.items (codes "permanent") _ wrote (sym permanent-word ∙ ap (λ e. bytes (status_of e)) (sym c.in-Permanent.is)))

pub returns-in-Old : goal.returns-in-Old
returns-in-Old c =
    on_ok c.put-in-Old.result _ _ c.put-in-Old.ensures (λ wrote. same c.args.out.now.items c.put-in-Old.new.out.items (codes "old") _ wrote (sym old-word ∙ ap (λ e. bytes (status_of e)) (sym c.in-Old.is)))
