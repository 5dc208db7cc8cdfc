-- A record of a journal holds only what its step has lost.
use Rattle.std.proofs.Common.{ℕ, Bor, IfSome, Option, None, Some, ◌∷◌, slice_get}
use Rattle.script_events.proofs.Lost.{held_lost}
use Rattle.script_events.specs.Pieces.{HoldsLost}
use Rattle.script_events.specs.Record.{Undoes}
use Rattle.script_events.specs.DeclaredRecord.{Record}
use Rattle.script_events.specs.Node.{NodeState}
use Rattle.node_types.specs.Note.{Note}
use Rattle.undo_journal.specs.Past.{IsRecordAt}
use Rattle.undo_journal.specs.Timeline.{Station, Timeline}

of_stations : (r : Record) (o p : Option (Station NodeState Note)) → IfSome o (λ before. IfSome p (λ after. Undoes r before.node after.node)) → IfSome o (λ before. IfSome p (λ after. HoldsLost r.way_back before.node after.node))
of_stations r None p undoes = tt
of_stations r (Some before) None undoes = tt
of_stations r (Some before) (Some after) undoes = held_lost r.way_back before.node after.node undoes.1

pub of_record : (index : ℕ) (t : Timeline NodeState Note) (o : Option (Bor Record)) → IfSome o (λ it. IsRecordAt Undoes index t it.now) → IfSome o (λ it. IsRecordAt (λ (r : Record). HoldsLost r.way_back) index t it.now)
of_record index t None undoes = tt
of_record index t (Some it) undoes = of_stations it.now (slice_get (t.first ∷ t.later) index) (slice_get t.later index) undoes
