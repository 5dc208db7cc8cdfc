-- What stands against files that are not two releases.
use Rattle.std.specs.Prelude.{◌≡◌, ◌≢◌, ℕ, Bool, not, List, [], ◌++◌, All, string_bytes}
use Rattle.std.specs.List.{filter, list_any}
use Rattle.std.specs.Str.{bytes_eq}
use Rattle.release_files.specs.AllFaults.{AreInOrder, IsFault, IsTold}
use Rattle.release_files.specs.Files.{Contents}
use Rattle.release_files.specs.declared.fault.FileFault.{FileFault}
use Rattle.release_files.specs.declared.fault.ReleaseFault.{ReleaseFault}
use Rattle.upgrade_files.specs.declared.reading.Unread.{Unread}
use Rattle.upgrade_files.specs.declared.reading.Unread.TheVariants.{Faults, Memory}

-- The faults of a release's files: each is told, in the order of the files, and nothing else.
pub record AreFaultsOf (files : Contents) (vsn : List ℕ) (found : List ReleaseFault) : Type 0 where
  pub sound : All (λ f. IsFault files vsn (string_bytes f.path) f.fault) found
  pub whole : (path : List ℕ) → (fault : FileFault) → IsFault files vsn path fault → IsTold found path fault
  pub ordered : AreInOrder files vsn found

-- a fault of a path is told
abbrev pub has_path : List ℕ → List ReleaseFault → Bool
has_path path found = list_any (λ f. bytes_eq (string_bytes f.path) path) found

-- no fault of its path is told
abbrev pub is_untold : List ReleaseFault → ReleaseFault → Bool
is_untold told f = not (has_path (string_bytes f.path) told)

-- The faults of two releases' files: those of the first, and then those of the second, but for the files that both have.
pub record AreFaults (files : Contents) (from to : List ℕ) (found : List ReleaseFault) : Type 0 where
  pub of_from : List ReleaseFault
  pub are_of_from : AreFaultsOf files from of_from
  pub of_to : List ReleaseFault
  pub are_of_to : AreFaultsOf files to of_to
  pub all : found ≡ of_from ++ filter (is_untold of_from) of_to

-- Files that are not two releases have faults. Where memory is refused nothing is said of them.
abbrev pub IsUnread : Contents → List ℕ → List ℕ → Unread → Type 0
IsUnread files from to (Faults it) = (it.files ≡ files) × (it.faults.items ≢ []) × AreFaults files from to it.faults.items
IsUnread files from to Memory = Unit {0}
