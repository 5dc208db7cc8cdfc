-- What the shell may tell where a line asks for a relup: one clause a way.
use Rattle.std.specs.Prelude.{◌≡◌, ℕ, List, ◌++◌, Option, None, Some}
use Rattle.erl_term.specs.Tree.{Tree}
use Rattle.low_instructions.specs.declared.low.Low.{Low}
use Rattle.erl_term.specs.declared.term.Term.{Term}
use Rattle.otp_files.specs.declared.upgrade.Upgrades.{Upgrades}
use Rattle.otp_files.specs.Upgrades.{relup_tree}
use Rattle.release_files.specs.Faults.{IsFirstFault}
use Rattle.release_files.specs.Files.{Contents}
use Rattle.release_files.specs.Releases.{IsRelease}
use Rattle.release_files.specs.declared.fault.FileFault.{FileFault}
use Rattle.release_files.specs.declared.fault.FileFault.TheVariants as fault
use Rattle.release_table.specs.declared.table.Release.{Release}
use Rattle.release_relups.specs.Parts.{appups_of, rel_apps}
use Rattle.relup_make.specs.Relups.{IsRefusal, IsTranslation}
use Rattle.relup_make.specs.declared.error.MakeError.{MakeError}
use Rattle.relup_make.specs.declared.error.MakeError.TheVariants as make
use Rattle.shell_answers.specs.Answers.{fixed, line_of}
use Rattle.shell_answers.specs.Faults.{file_fault}
use Rattle.shell_answers.specs.Relups.{unmade}
use Rattle.shell_answers.specs.declared.fixed.Fixed.TheVariants as words
use Rattle.shell_state.specs.State.{Effect, ShellState, answered}
use Rattle.shell_state.specs.Fate.{Fate}
use Rattle.shell_state.specs.Fate.TheVariants.{Refused, StoppedAt}

-- `relup FROM TO`, by the files: what stands against those of the one release is told first, then what stands against those
-- of the other, then what stands against a relup of the two.
pub data RelupTold (files : Contents) (from to : List ℕ) : Option Fate → Tree → Type 0 where
  no_source : (path : List ℕ) (why : FileFault) → IsFirstFault files from path why →
      RelupTold files from to None (file_fault path why)
  no_target : (old : Release) (path : List ℕ) (why : FileFault) → IsRelease files from old → IsFirstFault files to path why →
      RelupTold files from to None (file_fault path why)
  no_relup : (old new : Release) (why : MakeError) → IsRelease files from old → IsRelease files to new →
      IsRefusal (rel_apps old) (rel_apps new) (appups_of new) why → RelupTold files from to None (unmade why)
  made : (old new : Release) (relup : Upgrades Term Low) → IsRelease files from old → IsRelease files to new →
      IsTranslation (rel_apps old) (rel_apps new) (appups_of new) relup → RelupTold files from to None (relup_tree relup)
  no_memory_for_relup : RelupTold files from to (Some Refused) (fixed words.Memory)

-- it was told
abbrev pub IsRelupTold : Contents → List ℕ → List ℕ → Option Fate → List ℕ → List ℕ → Type 0
IsRelupTold files from to fate text appended =
    (answer : Tree) × RelupTold files from to fate answer × (appended ≡ text ++ line_of answer)

-- which is all that the shell does
abbrev pub TellsRelup : ShellState → List ℕ → List ℕ → Option Fate → Effect → Type 0
TellsRelup s from to fate d = (answer : Tree) × RelupTold s.files from to fate answer × (d ≡ answered s answer)

-- What is told of files that could not be read, by why; lack of memory is one reason.

abbrev pub unread_fate : FileFault → Option Fate
unread_fate fault.Memory = Some Refused
unread_fate _ = None

abbrev pub unread_answer : List ℕ → FileFault → Tree
unread_answer path fault.Memory = fixed words.Memory
unread_answer path why = file_fault path why

-- and of a relup that could not be made
abbrev pub unmade_fate : MakeError → Option Fate
unmade_fate make.Memory = Some Refused
unmade_fate _ = None

-- A relup was told; or memory was refused.
abbrev pub IsWritten : Upgrades Term Low → Option Fate → List ℕ → List ℕ → Type 0
IsWritten relup None text appended = appended ≡ text ++ line_of (relup_tree relup)
IsWritten relup (Some Refused) text appended = appended ≡ text ++ line_of (fixed words.Memory)
IsWritten relup (Some (StoppedAt mark)) text appended = ⊥
