-- One script: an entry has one arrangement, and so have jobs.
use Rattle.std.proofs.Common.{◌≡◌, List, [], ◌∷◌, length, map, sym, ap, ◌∙◌, refl}
use Rattle.instructions.specs.declared.instruction.Instruction.{Instruction}
use Rattle.low_instructions.specs.declared.low.Low.{Low}
use Rattle.relup_make.specs.Dependencies.{depends}
use Rattle.relup_make.specs.Parts.{Ordered}
use Rattle.relup_make.specs.Scripts.{AreArranged, Arranged, IsArranged, IsScript, placed, script_of}
use Rattle.relup_make.specs.declared.job.Job.{Job}
use Rattle.relup_make.specs.Work.{Way}
use Rattle.dependency_order.proofs.OneDivision.{division_one}

arranged_one : (is : List Instruction) (gs hs : List (Ordered Instruction)) → IsArranged is gs → IsArranged is hs → gs ≡ hs
arranged_one is gs hs one other =
    one.is_placed ∙ ap (map (placed is)) (division_one (depends is) (length is) one.ordered other.ordered one.are_ordered other.are_ordered) ∙ sym other.is_placed

job_same : (a b : Arranged) → a.app ≡ b.app → a.groups ≡ b.groups → a ≡ b
job_same a b one other =
    ap (λ app. record { app = app; groups = a.groups }) one ∙ ap (λ groups. record { app = b.app; groups = groups }) other

jobs_one : (jobs : List Job) (one another : List Arranged) → AreArranged jobs one → AreArranged jobs another → one ≡ another
jobs_one [] [] [] are too = refl
jobs_one [] [] (b ∷ bs) are too = absurd too
jobs_one [] (a ∷ others) bs are too = absurd are
jobs_one (j ∷ js) [] bs are too = absurd are
jobs_one (j ∷ js) (a ∷ others) [] are too = absurd too
jobs_one (j ∷ js) (a ∷ others) (b ∷ bs) are too =
    ap (λ x. x ∷ others) (job_same a b (are.0.app ∙ sym too.0.app) (arranged_one j.instructions a.groups b.groups are.0.groups too.0.groups)) ∙ ap (λ xs. b ∷ xs) (jobs_one js others bs are.1 too.1)

pub script_one : (way : Way) (jobs : List Job) (one another : List Low) → IsScript way jobs one → IsScript way jobs another → one ≡ another
script_one way jobs one another fits too =
    fits.is ∙ ap (script_of way jobs) (jobs_one jobs fits.arranged too.arranged fits.are too.are) ∙ sym too.is
