-- Lemmas on what was read for a line, or not.
use Rattle.std.proofs.Common.{◌≡◌, ℕ, List, [], ◌∷◌, ◌++◌, length, Option, None, Some, refl, sym, subst}
use Rattle.erl_ir.specs.Module.{Forms}
use Rattle.erl_parse.specs.Sources.{IsNoSource}
use Rattle.erl_parse.specs.Telling.{Says}
use Rattle.erl_parse.specs.declared.error.LangError.{LangError}
use Rattle.node_types.specs.declared.event.Event.TheVariants as event
use Rattle.release_files.specs.Files.{Contents, file_of}
use Rattle.release_files.specs.declared.fault.FileFault.{FileFault}
use Rattle.release_files.specs.declared.fault.FileFault.TheVariants as file
use Rattle.shell_answers.specs.Answers.{fixed, line_of}
use Rattle.shell_answers.specs.Faults.{file_fault}
use Rattle.shell_answers.specs.Refusals.{naming_nothing}
use Rattle.shell_answers.specs.declared.fixed.Fixed.TheVariants as words
use Rattle.shell_upgrades.specs.Done.{IsDone}
use Rattle.shell_upgrades.specs.Performing.{Performs, done_by}
use Rattle.shell_upgrades.specs.State.{ShellState}
use Rattle.shell_upgrades.specs.Fate.{Fate}
use Rattle.shell_upgrades.specs.Fate.TheVariants as fates
use Rattle.shell_upgrades.proofs.Performing.{done-as}
use Rattle.shell_exec.specs.Execution.{Loads, another, missing, no_source, read, unread}
use Rattle.shell_exec.specs.Done.{IsSourced, Unsourced, not_loaded}
use Rattle.shell_exec.specs.declared.loading.Unloaded.TheVariants.{Faulted}
use Rattle.values.specs.Failure.{Fails}
use Rattle.values.specs.declared.failure.Failure.{Failure}
use Rattle.values.specs.declared.failure.Failure.TheVariants as failures

-- Sources.

pub unsourced : (files : Contents) (name path bytes : List ℕ) → file_of path files ≡ Some bytes → (failure : Failure LangError) →
    Fails (Says bytes) (Unit {0}) failure → Fails (λ _. IsNoSource bytes) (Unit {0}) failure → Unsourced files name path (not_loaded failure)
unsourced files name path bytes found (failures.Refused why) says none = (bytes, found, says, none)
unsourced files name path bytes found failures.Memory says none = (bytes, found)

module _ (s : ShellState) (name path : List ℕ) (new : ShellState) (fate : Option Fate) (text appended : List ℕ) where
  pub source-read : (m : Forms) → IsSourced s.files name path m → IsDone (Performs s s (event.Load m) naming_nothing (done_by s (event.Load m)) fate) new text appended → IsDone (Loads s name path fate) new text appended
  source-read m it done =
      done-as new text appended (λ d does. read it.bytes m fate d it.stands it.source it.named does) done

pub source-unread : (s : ShellState) (name path bytes : List ℕ) (fate : Option Fate) (text appended : List ℕ) → file_of path s.files ≡ Some bytes → (fate ≡ Some fates.Refused) × (appended ≡ text ++ line_of (fixed words.Memory)) → IsDone (Loads s name path fate) s text appended
source-unread s name path bytes fate text appended found said =
    subst (λ f. IsDone (Loads s name path f) s text appended) (sym said.0) (_, unread bytes found, refl, said.1)

pub source-faulted : (s : ShellState) (name path : List ℕ) (fault : FileFault) (fate : Option Fate) (text appended : List ℕ) → Unsourced s.files name path (Faulted fault) → (fate ≡ None) × (appended ≡ text ++ line_of (file_fault path fault)) → IsDone (Loads s name path fate) s text appended
source-faulted s name path file.Missing fate text appended is said =
    subst (λ f. IsDone (Loads s name path f) s text appended) (sym said.0) (_, missing is, refl, said.1)
source-faulted s name path file.WrongModule fate text appended is said =
    subst (λ f. IsDone (Loads s name path f) s text appended) (sym said.0) (_, another is.0 is.1 is.2 is.3 is.4, refl, said.1)
source-faulted s name path (file.Lang why) fate text appended is said =
    subst (λ f. IsDone (Loads s name path f) s text appended) (sym said.0) (_, no_source is.0 why is.1 is.2 is.3, refl, said.1)
source-faulted s name path (file.File e) fate text appended is said = absurd is
source-faulted s name path file.DuplicateModule fate text appended is said = absurd is
source-faulted s name path file.Memory fate text appended is said = absurd is
