-- Acts parted into messages and replies, each in order, and what takes them back.
use Rattle.std.specs.Prelude.{ℕ, ◌==◌, if◌then◌else◌, List, [], ◌∷◌, ◌++◌, Option, None, Some}
use Rattle.erl_semantics.specs.declared.acts.Act.{Act}
use Rattle.erl_semantics.specs.declared.acts.Act.TheVariants as act
use Rattle.process_effects.specs.declared.told.Reply.{Reply}
use Rattle.process_effects.specs.Acts.{answered, receiver_of, reply_of, sent}
use Rattle.process_effects.specs.declared.answers.Answer.{Answer}
use Rattle.process_effects.specs.declared.answers.Closed.{Closed}
use Rattle.process_store.specs.Changes.{CanReopen, owner_of, reopened}
use Rattle.process_store.specs.Living.{unarrived}
use Rattle.process_store.specs.Table.{Table, changed}

-- The messages alone, but for those to one process, if one is spared.

abbrev pub other_than : Option ℕ → Option ℕ → Option ℕ
other_than None receiver = receiver
other_than (Some spared) None = None
other_than (Some spared) (Some pid) = if pid == spared then None else Some pid

abbrev pub act_sent : Option ℕ → Act → Table → Table
act_sent spared (act.Send to message) t = sent message (other_than spared (receiver_of to t)) t
act_sent spared (act.Reply number reply) t = t
act_sent spared (act.Start place) t = t
act_sent spared (act.Name name by_register) t = t

abbrev pub acts_sent : Option ℕ → List Act → Table → Table
acts_sent spared [] t = t
acts_sent spared (a ∷ rest) t = acts_sent spared rest (act_sent spared a t)

-- the last messages of these processes go, the last of them first
abbrev pub all_unsent : List ℕ → Table → Table
all_unsent [] t = t
all_unsent (pid ∷ pids) t = changed (unarrived None) pid (all_unsent pids t)

-- The replies alone.

abbrev pub act_answers : Act → List Answer
act_answers (act.Send to message) = []
act_answers (act.Reply number reply) = record { number = number; reply = reply } ∷ []
act_answers (act.Start place) = []
act_answers (act.Name name by_register) = []

abbrev pub answers_of : List Act → List Answer
answers_of [] = []
answers_of (a ∷ rest) = act_answers a ++ answers_of rest

abbrev pub all_answered : List Answer → Table → Table
all_answered [] t = t
all_answered (a ∷ rest) t = all_answered rest (answered a.number t)

abbrev pub answers_told : List Answer → Table → List Reply
answers_told [] t = []
answers_told (a ∷ rest) t = reply_of a.reply (owner_of a.number t) ++ answers_told rest (answered a.number t)

-- these calls are open again, the last of them first
abbrev pub all_reopened : List Closed → Table → Table
all_reopened [] t = t
all_reopened (c ∷ cs) t = reopened c.pid c.call (all_reopened cs t)

-- these calls are closed again, in order
abbrev pub all_reclosed : List Closed → Table → Table
all_reclosed [] t = t
all_reclosed (c ∷ cs) t = all_reclosed cs (answered c.call.number t)

-- each of them can be open again when its turn comes
abbrev pub AllReopen : List Closed → Table → Type 0
AllReopen [] t = Unit {0}
AllReopen (c ∷ cs) t = AllReopen cs t × CanReopen c.pid c.call (all_reopened cs t)
