-- What takes a change of the releases back.
use Rattle.std.specs.Prelude.{◌≡◌, ◌-◌, ◌<◌, ◌≤◌, List, [], ◌∷◌, None, length, take, insert}
use Rattle.release_statuses.specs.declared.listed.Listed.{Listed}
use Rattle.release_statuses.specs.declared.status.Status.{Status}
use Rattle.release_statuses.specs.declared.undo.ReleasesUndo.{ReleasesUndo}
use Rattle.release_statuses.specs.declared.undo.ReleasesUndo.TheVariants.{Added, Removed, Statuses}
use Rattle.release_statuses.specs.Statuses.{HasPermanent, index_of, vsn_of, with_status}

-- each release with the status of its index
abbrev pub with_statuses : List Status → List Listed → List Listed
with_statuses [] releases = releases
with_statuses (s ∷ ss) [] = []
with_statuses (s ∷ ss) (it ∷ others) = with_status s it ∷ with_statuses ss others

-- the releases that an undo gives back
abbrev pub undone : ReleasesUndo → List Listed → List Listed
undone Added releases = take (length releases - 1) releases
undone (Removed index it) releases = insert releases index it
undone (Statuses former) releases = with_statuses former releases

-- an undo's index is in the list
abbrev pub IsPlaced : ReleasesUndo → List Listed → Type 0
IsPlaced Added releases = 0 < length releases
IsPlaced (Removed index it) releases = index ≤ length releases
IsPlaced (Statuses former) releases = length former ≡ length releases

-- no release of the list has the version of the one that an undo puts back
abbrev pub IsAbsent : ReleasesUndo → List Listed → Type 0
IsAbsent Added releases = Unit {0}
IsAbsent (Removed index it) releases = index_of (vsn_of it) releases ≡ None
IsAbsent (Statuses former) releases = Unit {0}

-- what `revert` needs: these are releases that the undo's change led to
pub record Fits (undo : ReleasesUndo) (releases : List Listed) : Type 0 where
  pub placed : IsPlaced undo releases
  pub kept : HasPermanent (undone undo releases)
  pub absent : IsAbsent undo releases

-- It takes a change back.
pub record TakesBack (undo : ReleasesUndo) (before after : List Listed) : Type 0 where
  pub fits : Fits undo after
  pub back : undone undo after ≡ before

-- the undo of a removal, the one that puts a release back into the list
abbrev pub IsRemoval : ReleasesUndo → Type 0
IsRemoval Added = ⊥
IsRemoval (Removed index it) = Unit {0}
IsRemoval (Statuses former) = ⊥
