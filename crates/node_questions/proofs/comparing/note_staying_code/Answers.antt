-- The copy is noted.
use Rattle.std.proofs.Common.{◌≡◌, ℕ, List, OnOk, subst}
use Rattle.upgrade_review.specs.Gathering.{Adds}
use Rattle.node_questions.specs.declared.comparing.Difference.TheVariants.{CodeStays}
use Rattle.node_questions.proofs.comparing.note_staying_code.Goals as goal

pub returns : goal.returns
returns c =
    subst (λ (m : List ℕ). OnOk c.note.result (Adds (λ d. d ≡ CodeStays m) c.args.found.now.items c.note.new.found.items))
    c.in_ok-module.ensures c.note.ensures
