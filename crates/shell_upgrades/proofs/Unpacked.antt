-- Lemmas on releases that are unpacked.
use Rattle.std.proofs.Common.{◌≡◌, ◌≢◌, ◌⊎◌, inl, inr, ℕ, List, ◌++◌, Option, None, Some, Err, string_bytes, refl, ap, subst, sym}
use Rattle.release_statuses.specs.declared.error.RelError.{RelError}
use Rattle.release_files.specs.Faults.{IsFirstFault}
use Rattle.release_files.specs.declared.fault.FileFault.{FileFault}
use Rattle.release_files.specs.declared.fault.FileFault.TheVariants as file
use Rattle.release_files.specs.declared.fault.ReleaseFault.{ReleaseFault}
use Rattle.undo_journal.specs.Reversible.{Accepted}
use Rattle.shell_state.specs.Node.{NodeState}
use Rattle.shell_state.specs.Step.{unless}
use Rattle.node_types.specs.declared.event.Answer.{Answer}
use Rattle.node_types.specs.declared.event.Refusal.TheVariants.{OfReleases}
use Rattle.node_types.specs.Note.{Note}
use Rattle.shell_answers.specs.Answers.{line_of}
use Rattle.shell_answers.specs.Faults.{file_fault}
use Rattle.shell_upgrades.specs.Upgrades.{Unpacks, no_release}
use Rattle.shell_state.specs.Done.{IsDone}
use Rattle.shell_upgrades.specs.Upgrades.{IsUnreadRelease}
use Rattle.shell_state.specs.State.{ShellState}
use Rattle.shell_state.specs.Fate.{Fate}

-- a refusal of the releases is one of the event
pub refuses-release : (o : Option RelError) (why : RelError) (a : Accepted NodeState Answer Note) → Some why ≡ o → Err (OfReleases why) ≡ unless o OfReleases a
refuses-release o why a is = ap (λ x. unless x OfReleases a) is

-- The first fault of the files, where memory was not refused.
pub fault-told : (s : ShellState) (vsn : List ℕ) (it : ReleaseFault) (path : List ℕ) (why : FileFault) (fate : Option Fate) (text appended : List ℕ) →
    path ≡ string_bytes it.path → why ≡ it.fault → it.fault ≢ file.Memory → (fate ≡ None) × (appended ≡ text ++ line_of (file_fault path why)) →
    IsUnreadRelease s vsn it → IsDone (Unpacks s vsn fate) s text appended
fault-told s vsn it path why fate text appended at is not said (inl none) = absurd (not none)
fault-told s vsn it path why fate text appended at is not said (inr first) =
    let here = subst (λ f. IsFirstFault s.files vsn path f) (sym is) (subst (λ p. IsFirstFault s.files vsn p it.fault) (sym at) first) in
    subst (λ f. IsDone (Unpacks s vsn f) s text appended) (sym said.0) (_, no_release path why here, refl, said.1)
