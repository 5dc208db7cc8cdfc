-- What a job has done, done to the processes: its acts in order, and then its end (Erlang Reference Manual, Processes; gen_server
-- behaviour).
use Rattle.std.specs.Prelude.{ℕ, List, [], ◌∷◌, ◌++◌, Option, None, Some}
use Rattle.erl_term.specs.declared.term.Term.{Term}
use Rattle.erl_semantics.specs.declared.acts.Act.{Act}
use Rattle.erl_semantics.specs.declared.acts.Act.TheVariants as act
use Rattle.erl_semantics.specs.declared.acts.Receiver.{Receiver}
use Rattle.erl_semantics.specs.declared.acts.Receiver.TheVariants.{Named, Process}
use Rattle.process_effects.specs.declared.told.Reply.{Reply}
use Rattle.process_effects.specs.declared.told.ReplyBody.TheVariants as told
use Rattle.process_index.specs.declared.calls.Call.{Call}
use Rattle.process_store.specs.Changes.{closed_in, owner_of}
use Rattle.process_store.specs.Living.{arrived}
use Rattle.process_store.specs.Table.{Table, changed, pid_of}

-- A message is sent to the process of a pid, or of a name; where nobody has it, the message goes nowhere.

abbrev pub receiver_of : Receiver → Table → Option ℕ
receiver_of (Named name) t = pid_of name t
receiver_of (Process pid) t = Some pid

abbrev pub sent : Term → Option ℕ → Table → Table
sent message None t = t
sent message (Some pid) t = changed (arrived message None) pid t

-- A reply closes the open call of its number, whosever it is; where none is open, the reply goes nowhere.

abbrev pub closed_at : Option (ℕ × Call) → Table → Table
closed_at None t = t
closed_at (Some it) t = closed_in it.0 it.1 t

abbrev pub answered : ℕ → Table → Table
answered number t = closed_at (owner_of number t) t

abbrev pub reply_of : Term → Option (ℕ × Call) → List Reply
reply_of reply None = []
reply_of reply (Some it) = record { client = it.1.client; number = it.1.number; body = told.Reply reply } ∷ []

-- One act: the processes after it, and what clients are told. No job starts a process, or names one.

abbrev pub act_done : Act → Table → Table
act_done (act.Send to message) t = sent message (receiver_of to t) t
act_done (act.Reply number reply) t = answered number t
act_done (act.Start place) t = t
act_done (act.Name name by_register) t = t

abbrev pub act_told : Act → Table → List Reply
act_told (act.Send to message) t = []
act_told (act.Reply number reply) t = reply_of reply (owner_of number t)
act_told (act.Start place) t = []
act_told (act.Name name by_register) t = []

-- All acts, in order.

abbrev pub acts_done : List Act → Table → Table
acts_done [] t = t
acts_done (a ∷ rest) t = acts_done rest (act_done a t)

abbrev pub acts_told : List Act → Table → List Reply
acts_told [] t = []
acts_told (a ∷ rest) t = act_told a t ++ acts_told rest (act_done a t)
