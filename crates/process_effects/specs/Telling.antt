-- What clients are told, once more: the values that are made before it is known which of the replies find an open call.
use Rattle.std.specs.Prelude.{◌≡◌, ℕ, ◌+◌, ◌-◌, ◌==◌, ◌≤◌, All, if◌then◌else◌, List, [], ◌++◌, length, map, slice_get, Option, None, Some, vec_capacity, vec_len}
use Rattle.erl_term.specs.declared.term.Term.{Term}
use Rattle.process_effects.specs.Parted.{answers_told}
use Rattle.process_effects.specs.declared.answers.Answer.{Answer}
use Rattle.process_effects.specs.Told.{down}
use Rattle.process_effects.specs.declared.told.Reply.{Reply}
use Rattle.process_effects.specs.declared.told.ReplyBody.{ReplyBody}
use Rattle.process_effects.specs.declared.told.ReplyBody.TheVariants as told
use Rattle.process_index.specs.declared.calls.Call.{Call}
use Rattle.process_store.specs.Table.{Table}
use Rattle.process_effects.specs.declared.telling.Echo.{Echo}
use Rattle.process_effects.specs.declared.telling.Telling.{Telling}

-- copies of these answers and of these reasons, and room for what they tell
pub record IsEcho (all : List Answer) (each : List Term) (e : Echo) : Type 0 where
  pub answers : e.answers.items ≡ all
  pub reasons : e.reasons.items ≡ each
  pub none : e.replies.items ≡ []
  pub room : length all + length each ≤ vec_capacity e.replies

-- as many as are asked for, but for one, and room for the lists of all
pub record IsReady (answers : List Answer) (reasons : List Term) (n : ℕ) (t : Telling) : Type 0 where
  pub count : t.count ≡ n
  pub echoes : All (IsEcho answers reasons) t.echoes.items
  pub many : vec_len t.echoes ≡ n - 1
  pub none : t.lists.items ≡ []
  pub room : n ≤ vec_capacity t.lists

-- What is told is what these answers tell of some processes, and then that calls are down, by one of these reasons each,
-- which are all the same.
pub record IsToldBy (answers : List Answer) (reasons : List Term) (told : List Reply) : Type 0 where
  pub table : Table
  pub calls : List Call
  pub reason : Term
  pub tells : told ≡ answers_told answers table ++ map (down reason) calls
  pub enough : length calls ≤ length reasons
  pub same : All (λ r. r ≡ reason) reasons

-- All is there that it takes to tell this n times.
pub record IsReadyFor (replies : List Reply) (n : ℕ) (t : Telling) : Type 0 where
  pub answers : List Answer
  pub reasons : List Term
  pub ready : IsReady answers reasons n t
  pub told : IsToldBy answers reasons replies

-- the client of the reply at an index, where it is one to a call of this number

abbrev pub client_if : ℕ → ℕ → ℕ → ReplyBody → Option ℕ
client_if number client next (told.Reply reply) = if next == number then Some client else None
client_if number client next (told.Down reason) = None

abbrev pub client_of : ℕ → Option Reply → Option ℕ
client_of number None = None
client_of number (Some r) = client_if number r.client r.number r.body

abbrev pub client_at : ℕ → ℕ → List Reply → Option ℕ
client_at number index replies = client_of number (slice_get replies index)

-- a reply that says that its call is down, for this reason
abbrev pub IsDown : Term → Reply → Type 0
IsDown reason r = r.body ≡ told.Down reason
