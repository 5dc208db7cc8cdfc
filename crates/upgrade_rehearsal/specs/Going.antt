-- A journal that is continued, and one that is undone.
use Rattle.std.specs.Prelude.{◌≡◌, List, ◌++◌}
use Rattle.undo_journal.specs.Timeline.{Station, Timeline}

-- A journal is continued: its stations stay, and others are appended.
pub record Extends {S N : Type 0} (old new : Timeline S N) : Type 0 where
  pub first : new.first ≡ old.first
  pub more : List (Station S N)
  pub later : new.later ≡ old.later ++ more

-- A journal is back: its stations are those that it had.
pub record IsBack {S N : Type 0} (old new : Timeline S N) : Type 0 where
  pub first : new.first ≡ old.first
  pub later : new.later ≡ old.later
