-- How a note is kept.
use Rattle.std.specs.Prelude.{[], None, Some}
use Rattle.node_types.specs.Note.{Note}
use Rattle.node_types.specs.declared.note.Reported.{Reported}
use Rattle.node_types.specs.declared.note.Reported.TheVariants.{Replies, Arrival}

abbrev pub note_of : Reported → Note
note_of (Replies replies) = record { replies = replies; arrival = None }
note_of (Arrival arrival) = record { replies = []; arrival = Some arrival }
