-- What evaluating has done, done to the processes: its acts in order, among them the start of a process, which gets the
-- name that the acts ask for, if they ask for one (gen_server(3), start_link; Erlang Reference Manual, Processes).
use Rattle.std.specs.Prelude.{◌≡◌, ℕ, List, [], ◌∷◌, ◌++◌, Option, None}
use Rattle.erl_semantics.specs.declared.acts.Act.{Act}
use Rattle.erl_semantics.specs.declared.acts.Act.TheVariants as act
use Rattle.erl_semantics.specs.declared.instance.Instance.{Instance}
use Rattle.process_effects.specs.Acts.{act_told, answered, receiver_of, sent}
use Rattle.process_effects.specs.Commits.{rests_in}
use Rattle.process_effects.specs.Parted.{all_answered, answers_told}
use Rattle.process_effects.specs.declared.answers.Answer.{Answer}
use Rattle.process_effects.specs.declared.told.Reply.{Reply}
use Rattle.process_store.specs.Table.{Table, added}
use Rattle.process_effects.specs.Batches.{AllFit, all_undone}
use Rattle.process_effects.specs.declared.change.Addition.{Addition}

-- One act: the processes after it. What is started is of this code, and has this name, if any, which is then given.

abbrev pub act_begun : Option (List ℕ) → List Instance → Act → Table → Table
act_begun name code (act.Send to message) t = sent message (receiver_of to t) t
act_begun name code (act.Reply number reply) t = answered number t
act_begun name code (act.Start place) t = added name place (rests_in place code) t
act_begun name code (act.Name n by_register) t = t

abbrev pub name_left : Option (List ℕ) → Act → Option (List ℕ)
name_left name (act.Send to message) = name
name_left name (act.Reply number reply) = name
name_left name (act.Start place) = None
name_left name (act.Name n by_register) = name

-- All acts, in order: the processes after them, and what clients are told.

abbrev pub acts_begun : Option (List ℕ) → List Instance → List Act → Table → Table
acts_begun name code [] t = t
acts_begun name code (a ∷ others) t = acts_begun (name_left name a) code others (act_begun name code a t)

abbrev pub begun_told : Option (List ℕ) → List Instance → List Act → Table → List Reply
begun_told name code [] t = []
begun_told name code (a ∷ others) t = act_told a t ++ begun_told (name_left name a) code others (act_begun name code a t)

-- The same without the replies.

abbrev pub act_made : Option (List ℕ) → List Instance → Act → Table → Table
act_made name code (act.Send to message) t = sent message (receiver_of to t) t
act_made name code (act.Reply number reply) t = t
act_made name code (act.Start place) t = added name place (rests_in place code) t
act_made name code (act.Name n by_register) t = t

abbrev pub acts_made : Option (List ℕ) → List Instance → List Act → Table → Table
acts_made name code [] t = t
acts_made name code (a ∷ others) t = acts_made (name_left name a) code others (act_made name code a t)

-- Changes are under way: taken back they give the processes before, and with the answers that are left to give they make
-- the processes that the acts in order make, and tell what those tell.

abbrev pub CanGiveUp : List Addition → Table → Table → Type 0
CanGiveUp changes before now = AllFit changes now × (all_undone changes now ≡ before)

pub record IsUnderWay (changes : List Addition) (answers : List Answer) (before now after : Table) (told : List Reply)
    : Type 0 where
  pub back : CanGiveUp changes before now
  pub makes : after ≡ all_answered answers now
  pub tells : told ≡ answers_told answers now
