-- It is the one finding of its kind.
use Rattle.std.proofs.Common.{◌≡◌, OnOk, subst}
use Rattle.upgrade_review.specs.Gathering.{Adds}
use Rattle.upgrade_review.specs.declared.finding.Finding.TheVariants.{CallsInCallback}
use Rattle.upgrade_review.specs.declared.interface.Call.{Call}
use Rattle.upgrade_review.proofs.calls.note_asking.Goals as goal

pub returns : goal.returns
returns c =
    subst (λ (k : Call). OnOk c.note.result (Adds (λ f. f ≡ CallsInCallback k) c.args.found.now.items c.note.new.found.items))
    c.in_ok-callback.ensures c.note.ensures
