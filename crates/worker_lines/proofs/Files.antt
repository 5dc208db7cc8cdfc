-- What the files say of a load or of a release is told.
use Rattle.std.proofs.Common.{◌≡◌, ◌⊎◌, inl, inr, ℕ, List, [], ◌++◌, Option, None, Some, ap, sym, subst, ◌∙◌}
use Rattle.std.specs.Str.{chars}
use Rattle.release_files.specs.Faults.{IsFirstFault}
use Rattle.release_files.specs.Files.{Contents}
use Rattle.release_files.specs.declared.fault.FileFault.{FileFault}
use Rattle.release_files.specs.declared.fault.FileFault.TheVariants as file
use Rattle.workers.specs.Core.{SeatState}
use Rattle.shell_answers.specs.Answers.{fixed, line_of}
use Rattle.shell_answers.specs.Faults.{file_fault}
use Rattle.shell_answers.specs.declared.fixed.Fixed.TheVariants as words
use Rattle.shell_exec.specs.Done.{Unsourced}
use Rattle.shell_exec.specs.declared.loading.Unloaded.TheVariants.{Faulted}
use Rattle.shell_exec.specs.Relups.{unread_answer, unread_fate}
use Rattle.shell_exec.specs.Fate.{Fate}
use Rattle.shell_exec.specs.Fate.TheVariants.{Refused}
use Rattle.worker_lines.specs.Asking.{IsAnswered}
use Rattle.worker_lines.specs.Execution.{Loads, Unpacks, another, missing, no_memory_to_load, no_memory_to_unpack, no_release, no_source}
use Rattle.worker_lines.proofs.Heard.{told-alone}

module _ (files : Contents) (name path : List ℕ) (seat : SeatState) (text appended : List ℕ) (fate : Option Fate) where
  pub source-faulted : (fault : FileFault) → Unsourced files name path (Faulted fault) → (fate ≡ None) × (appended ≡ text ++ line_of (file_fault path fault)) → IsAnswered (Loads files name path fate) seat seat text appended
  source-faulted file.Missing is said =
      subst (λ f. IsAnswered (Loads files name path f) seat seat text appended) (sym said.0) (told-alone (Loads files name path None) seat text appended _ (missing is) said.1)
  source-faulted file.WrongModule is said =
      subst (λ f. IsAnswered (Loads files name path f) seat seat text appended) (sym said.0) (told-alone (Loads files name path None) seat text appended _ (another is.0 is.1 is.2 is.3 is.4) said.1)
  source-faulted (file.Lang why) is said =
      subst (λ f. IsAnswered (Loads files name path f) seat seat text appended) (sym said.0) (told-alone (Loads files name path None) seat text appended _ (no_source is.0 why is.1 is.2 is.3) said.1)
  source-faulted (file.File e) is said = absurd is
  source-faulted file.DuplicateModule is said = absurd is
  source-faulted file.Memory is said = absurd is

  pub source-unread : (fate ≡ Some Refused) × (appended ≡ text ++ line_of (fixed words.Memory)) → IsAnswered (Loads files name path fate) seat seat text appended
  source-unread said =
      subst (λ f. IsAnswered (Loads files name path f) seat seat text appended) (sym said.0) (told-alone (Loads files name path (Some Refused)) seat text appended _ no_memory_to_load said.1)

module _ (files : Contents) (vsn : List ℕ) (seat : SeatState) (text appended : List ℕ) (fate : Option Fate) where
  memory-wanting : (fate ≡ Some Refused) × (appended ≡ text ++ line_of (fixed words.Memory)) → IsAnswered (Unpacks files vsn fate) seat seat text appended
  memory-wanting said =
      subst (λ f. IsAnswered (Unpacks files vsn f) seat seat text appended) (sym said.0) (told-alone (Unpacks files vsn (Some Refused)) seat text appended _ no_memory_to_unpack said.1)

  fault-told : (path : List ℕ) (why : FileFault) → IsFirstFault files vsn path why → (fate ≡ None) × (appended ≡ text ++ line_of (file_fault path why)) → IsAnswered (Unpacks files vsn fate) seat seat text appended
  fault-told path why first said =
      subst (λ f. IsAnswered (Unpacks files vsn f) seat seat text appended) (sym said.0) (told-alone (Unpacks files vsn None) seat text appended _ (no_release path why first) said.1)

  first-told : (path : List ℕ) (why : FileFault) → IsFirstFault files vsn path why → (fate ≡ unread_fate why) × (appended ≡ text ++ line_of (unread_answer path why)) → IsAnswered (Unpacks files vsn fate) seat seat text appended
  first-told path file.Missing first said = fault-told path file.Missing first said
  first-told path (file.File e) first said = fault-told path (file.File e) first said
  first-told path (file.Lang e) first said = fault-told path (file.Lang e) first said
  first-told path file.WrongModule first said = fault-told path file.WrongModule first said
  first-told path file.DuplicateModule first said = fault-told path file.DuplicateModule first said
  first-told path file.Memory first said = memory-wanting said

  pub release-unread : (path : List ℕ) (why : FileFault) → (why ≡ file.Memory) ⊎ IsFirstFault files vsn path why → (fate ≡ unread_fate why) × (appended ≡ text ++ line_of (unread_answer path why)) → IsAnswered (Unpacks files vsn fate) seat seat text appended
  release-unread path why (inl none) said =
      memory-wanting (said.0 ∙ ap (λ w. unread_fate w) none, said.1 ∙ ap (λ w. text ++ line_of (unread_answer path w)) none)
  release-unread path why (inr first) said = first-told path why first said
