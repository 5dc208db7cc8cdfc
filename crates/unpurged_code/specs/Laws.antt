-- What holds of how old code is purged later, and of the modules that are told.
use Rattle.std.specs.Prelude.{◌≡◌, ℕ, false, List, None, Option, Some}
use Rattle.std.specs.Str.{bytes_eq}
use Rattle.code_server.specs.Modules.{IsModuleTable, Table as Loaded, current_of, loaded, post_of, purged, removed}
use Rattle.code_server.specs.declared.modules.Instance.{Instance}
use Rattle.erl_ir.specs.Module.{Forms}
use Rattle.process_store.specs.Table.{Table}
use Rattle.release_words.specs.declared.purge.Purge.{Purge}
use Rattle.unpurged_code.specs.Unpurged.{AreNoted, AreSwept}

-- Once a module is purged nothing of it is purged later, and each other module is purged later as before.
pub record PurgesDropNotes : Type 0 where
  pub own : (m : List ℕ) (modules : Loaded Forms) → IsModuleTable modules → post_of m (purged m modules) ≡ None
  pub others : (m other : List ℕ) (modules : Loaded Forms) → bytes_eq other m ≡ false →
      post_of other (purged m modules) ≡ post_of other modules

-- If a module is loaded or removed, its old code is purged, and its current code becomes old. That is purged later as PostPurge
-- says; and nothing is said of it if no PostPurge is given, as by a command.
pub record ChangesNote : Type 0 where
  pub loads : (m : List ℕ) (code : Forms) (i : Instance Forms) (post : Option Purge) (modules : Loaded Forms) →
      current_of m modules ≡ Some i → post_of m (loaded m code post (purged m modules)) ≡ post
  pub removes : (m : List ℕ) (i : Instance Forms) (post : Option Purge) (modules : Loaded Forms) →
      current_of m modules ≡ Some i → post_of m (removed m post modules) ≡ post

-- Of the modules that are noted so there is one list, and so there is of those that a sweep purges.
pub record OneList : Type 0 where
  pub noted : (kind : Purge) (modules : Loaded Forms) (xs ys : List (List ℕ)) →
      AreNoted kind modules xs → AreNoted kind modules ys → xs ≡ ys
  pub swept : (modules : Loaded Forms) (t : Table) (xs ys : List (List ℕ)) →
      AreSwept modules t xs → AreSwept modules t ys → xs ≡ ys
