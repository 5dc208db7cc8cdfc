-- Old code that scripts have left to be purged later (appup(4), PostPurge; release_handler(3), make_permanent/1).
use Rattle.std.specs.Prelude.{◌≡◌, ℕ, Bool, false, true, not, if◌then◌else◌, List, Option, None, Some}
use Rattle.code_loading.specs.Loading.{is_lingered_in}
use Rattle.code_server.specs.Modules.{Entry, Table as Loaded, post_of}
use Rattle.erl_ir.specs.Module.{Forms}
use Rattle.process_store.specs.Table.{Table}
use Rattle.release_words.specs.declared.purge.Purge.{Purge}
use Rattle.release_words.specs.declared.purge.Purge.TheVariants.{Brutal, Soft}
use Rattle.unpurged_code.specs.Names.{ByName, is_among, with_name}

-- A module has old code, and that is noted to be purged so.
abbrev pub IsNoted : Purge → Loaded Forms → List ℕ → Type 0
IsNoted kind modules m = post_of m modules ≡ Some kind

-- The modules whose old code is noted to be purged so: all of them, and no other, in the order of their names.
pub record AreNoted (kind : Purge) (modules : Loaded Forms) (names : List (List ℕ)) : Type 0 where
  pub rises : ByName names
  pub all : (m : List ℕ) → IsNoted kind modules m → is_among m names ≡ true
  pub only : (m : List ℕ) → is_among m names ≡ true → IsNoted kind modules m

-- A sweep purges a module whose old code is noted to be purged softly, and in which nobody lingers.
abbrev pub IsSwept : Loaded Forms → Table → List ℕ → Type 0
IsSwept modules t m = IsNoted Soft modules m × (is_lingered_in m modules t ≡ false)

-- The modules that a sweep purges: all of them, and no other, in the order of their names.
pub record AreSwept (modules : Loaded Forms) (t : Table) (names : List (List ℕ)) : Type 0 where
  pub rises : ByName names
  pub all : (m : List ℕ) → IsSwept modules t m → is_among m names ≡ true
  pub only : (m : List ℕ) → is_among m names ≡ true → IsSwept modules t m

-- What the functions that go through the modules say.

-- whether code that is noted thus is purged so
abbrev pub is_kind : Purge → Option Purge → Bool
is_kind kind None = false
is_kind Soft (Some Soft) = true
is_kind Soft (Some Brutal) = false
is_kind Brutal (Some Soft) = false
is_kind Brutal (Some Brutal) = true

-- names that rise, with that of an entry of the modules among them, if there is one, and its old code is noted so
abbrev pub with_entry : Purge → Option (Entry Forms) → List (List ℕ) → List (List ℕ)
with_entry kind None names = names
with_entry kind (Some entry) names = if is_kind kind entry.1.post then with_name entry.0 names else names

-- whether nobody lingers in a module
abbrev pub is_left_alone : Loaded Forms → Table → List ℕ → Bool
is_left_alone modules t m = not (is_lingered_in m modules t)
