-- What an undo of an event reports.
use Rattle.std.specs.Prelude.{ℕ, List, Option}
use Rattle.erl_term.specs.declared.term.Term.{Term}
use Rattle.process_effects.specs.declared.told.Reply.{Reply}

-- The replies that were sent, in order, and the name and the message of an arrival.
pub record Note : Type 0 where
  pub replies : List Reply
  pub arrival : Option (List ℕ × Term)
