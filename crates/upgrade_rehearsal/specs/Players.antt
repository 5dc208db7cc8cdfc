-- The player of a rehearsal, and how it continues.
use Rattle.std.specs.Prelude.{◌≡◌, List, [], ◌∷◌, ◌++◌, Some, Result, Ok, Err}
use Rattle.node_core.specs.Node.{NodeState}
use Rattle.node_core.specs.Step.{Step}
use Rattle.node_types.specs.declared.event.Answer.{Answer}
use Rattle.node_types.specs.declared.event.Event.{Event}
use Rattle.node_types.specs.declared.event.Refusal.{Refusal}
use Rattle.node_types.specs.Note.{Note}
use Rattle.rehearsals.specs.declared.happening.Happening.{Happening}
use Rattle.undo_journal.specs.Reversible.{Accepted}
use Rattle.undo_journal.specs.Timeline.{appended, cut_to, here}
use Rattle.upgrade_rehearsal.specs.Going.{Extends, IsBack}
use Rattle.upgrade_rehearsal.specs.Happenings.{accepted, refused}
use Rattle.upgrade_rehearsal.specs.Stages.{Scene, Stage}
use Rattle.upgrade_rehearsal.specs.declared.player.Bookmark.{Bookmark}
use Rattle.upgrade_rehearsal.specs.declared.player.Player.{Player}

-- its present stage
abbrev pub stage_of : Player → Stage
stage_of p = record { node = (here p.journal).node; arrivals = p.arrivals }

-- It is unchanged.
pub record IsAlike (old new : Player) : Type 0 where
  pub journal : new.journal ≡ old.journal
  pub sent : new.sent.items ≡ old.sent.items
  pub arrivals : new.arrivals ≡ old.arrivals

-- It continues by this scene, and appends what that causes to what it keeps.
pub record Leads (S : Scene) (old new : Player) : Type 0 where
  pub journal : Extends old.journal new.journal
  pub sent : List Happening
  pub scene : S (stage_of old) sent (stage_of new)
  pub kept : new.sent.items ≡ old.sent.items ++ sent

-- An event was performed with this result: the written rule accepts it, and then the journal has a station more; or the rule
-- refuses it.
abbrev pub Performed : Player → Event → Result Answer Refusal → Player → Type 0
Performed old e (Ok told) new = (a : Accepted NodeState Answer Note) × Step (here old.journal).node e (Ok a) × (told ≡ a.answer)
    × (new.journal ≡ appended old.journal a.node a.note) × (new.sent.items ≡ old.sent.items ++ accepted e a.note.replies ∷ [])
    × (new.arrivals ≡ old.arrivals)
Performed old e (Err why) new = Step (here old.journal).node e (Err why) × (new.journal ≡ old.journal)
    × (new.sent.items ≡ old.sent.items ++ refused e ∷ []) × (new.arrivals ≡ old.arrivals)

-- A bookmark names the present place.
pub record IsBookmark (b : Bookmark) (p : Player) : Type 0 where
  pub mark : cut_to b.mark p.journal ≡ Some p.journal
  pub arrivals : b.arrivals ≡ p.arrivals

-- It is back where it was.
pub record IsBackAt (old new : Player) : Type 0 where
  pub journal : IsBack old.journal new.journal
  pub arrivals : new.arrivals ≡ old.arrivals
