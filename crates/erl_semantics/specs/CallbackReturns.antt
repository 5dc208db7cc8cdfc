-- What the value that a callback returns means (gen_server(3), Callback Functions: handle_call/3, handle_cast/2,
-- handle_info/2): a rule for each form of it, by which each value means one thing.
use Rattle.std.specs.Prelude.{◌≡◌, ◌≢◌, ℕ, List, codes, None, Some}
use Rattle.erl_term.specs.Tree.{Tree, atom, tuple, none, more}
use Rattle.erl_semantics.specs.State.{server, rest, exit}
use Rattle.erl_semantics.specs.Jobs.{Answer, Callback, answer_of, bad_return_value, handle_call, handle_cast, handle_info}

-- `{reply,Reply,State}`
abbrev pub reply_and_state : Tree → Tree → Tree
reply_and_state reply state = tuple (more (atom (codes "reply")) (more reply (more state none)))

-- `{noreply,State}`
abbrev pub no_reply_and_state : Tree → Tree
no_reply_and_state state = tuple (more (atom (codes "noreply")) (more state none))

-- `{stop,Reason,Reply,State}`
abbrev pub stop_and_reply : Tree → Tree → Tree → Tree
stop_and_reply reason reply state = tuple (more (atom (codes "stop")) (more reason (more reply (more state none))))

-- `{stop,Reason,State}`
abbrev pub stop_and_state : Tree → Tree → Tree
stop_and_state reason state = tuple (more (atom (codes "stop")) (more reason (more state none)))

-- it's `handle_call/3`, the one that may reply by its value
abbrev pub IsCall : Callback → Type 0
IsCall (handle_call from t) = Unit {0}
IsCall (handle_cast t) = ⊥
IsCall (handle_info t) = ⊥

-- A value has none of the forms that its callback may return.
pub record IsNoReturn (callback : Callback) (v : Tree) : Type 0 where
  pub no_reply_state : (reply state : Tree) → IsCall callback → v ≢ reply_and_state reply state
  pub no_state : (state : Tree) → v ≢ no_reply_and_state state
  pub no_stop_reply : (reason reply state : Tree) → IsCall callback → v ≢ stop_and_reply reason reply state
  pub no_stop : (reason state : Tree) → v ≢ stop_and_state reason state

-- What a value means that a callback of the module m returns: what is replied, if something, and where the process then rests or
-- by which reason it ends.
pub data Means (m : List ℕ) (callback : Callback) (v : Tree) (a : Answer) : Type 0 where
  replies : (reply state : Tree) → IsCall callback → v ≡ reply_and_state reply state →
      a ≡ record { answered = Some reply; ended = rest (server m state) } → Means m callback v a
  goes_on : (state : Tree) → v ≡ no_reply_and_state state →
      a ≡ record { answered = None; ended = rest (server m state) } → Means m callback v a
  replies_and_stops : (reason reply state : Tree) → IsCall callback → v ≡ stop_and_reply reason reply state →
      a ≡ record { answered = Some reply; ended = exit reason } → Means m callback v a
  stops : (reason state : Tree) → v ≡ stop_and_state reason state →
      a ≡ record { answered = None; ended = exit reason } → Means m callback v a
  is_bad : IsNoReturn callback v → a ≡ bad_return_value v → Means m callback v a

-- The law: by these rules each value means something, and what jobs are given is all that it means.
pub record ReturnsMeanOneThing : Type 0 where
  pub meant : (m : List ℕ) (callback : Callback) (v : Tree) → Means m callback v (answer_of m callback v)
  pub alone : (m : List ℕ) (callback : Callback) (v : Tree) (a : Answer) → Means m callback v a → a ≡ answer_of m callback v
