-- What a job gives: the callback that a place and a message enter, and what its value means (gen_server(3), Callback
-- Functions; Erlang Reference Manual, Receive).
use Rattle.std.specs.Prelude.{◌≡◌, ℕ, zero, suc, Bool, true, false, if◌then◌else◌, List, [], ◌∷◌, ◌++◌, codes}
use Rattle.std.specs.Prelude.{Option, None, Some, is_some}
use Rattle.std.specs.Str.{bytes_eq}
use Rattle.erl_term.specs.Tree as term
use Rattle.erl_term.specs.Tree.{Tree, Trees, atom, tuple, count}
use Rattle.erl_ir.specs.declared.function.Function.{Function}
use Rattle.erl_ir.specs.declared.function.Definition.{Definition}
use Rattle.erl_ir.specs.declared.function.Definition.TheVariants as definition
use Rattle.erl_ir.specs.Expression.{Exprs, Clauses}
use Rattle.erl_ir.specs.Module.{exported_of, function_of}
use Rattle.erl_semantics.specs.State.{Instance, Place, Act, Result, exit_by, exit_by_pair, value, rest, exit, server, loop, World}
use Rattle.erl_semantics.specs.State.{plain}
use Rattle.erl_semantics.specs.State.{Activation, State, all_acts, with_bindings, with_calls}
use Rattle.erl_semantics.specs.BuiltIns.{reply_to}
use Rattle.erl_semantics.specs.Matching.{matched_each}
use Rattle.erl_semantics.specs.Guards.{Selection, selected}
use Rattle.erl_semantics.specs.Starting.{remote_function}
use Rattle.erl_semantics.specs.Evaluation.{Entered, Body}

-- What was evaluated: the acts in order, and what it ended in.
pub record Outcome : Type 0 where
  pub acts : List Act
  pub ended : Result

-- before all: nothing is bound, called or done
abbrev pub fresh : State
fresh = record { bindings = []; calls = 0; acts = []; startup = None }

-- the outermost call
abbrev pub outermost : Instance → Bool → Activation
outermost i may_rest = record { instance = i; nesting = 0; may_rest = may_rest }

-- A function that is called from outside of all modules, as a start function, `init`, `code_change` or `apply`: it has to be
-- exported by the module's current code.

pub data FromOutside : World → List ℕ → Option (Instance × Function) → Trees → Outcome → Type 0 where
  undefined : {w : World} {name : List ℕ} {args : Trees} {o : Outcome} →
      o ≡ record { acts = []; ended = exit_by (codes "undef") } → FromOutside w name None args o
  called : {w : World} {name : List ℕ} {i : Instance} {f : Function} {args : Trees} {r : Result} {s : State} {o : Outcome} →
      Entered w (outermost i false) true name f.definition args fresh r s →
      o ≡ record { acts = all_acts s.startup s.acts; ended = r } → FromOutside w name (Some (i, f)) args o

-- `Evaluates w m f args o`: the call `m:f(args)` gives o.
abbrev pub Evaluates : World → List ℕ → List ℕ → Trees → Outcome → Type 0
Evaluates w m f args o = FromOutside w f (remote_function w m f (count args)) args o

-- A message that a process has taken: the process, its turn, the place where it rested, the serial of the instance that the
-- place is entered in, or 0 where its module has no current code, and code: first the instance that is entered, if there is
-- one, and then the current code of each module that the process can reach.
pub record Job : Type 0 where
  pub pid : ℕ
  pub turn : ℕ
  pub place : Place
  pub entry_serial : ℕ
  pub message : Tree
  pub code : List Instance

-- the instance that is entered, and what remote calls look among

abbrev pub entered_in : ℕ → List Instance → Option Instance
entered_in zero code = None
entered_in (suc serial) [] = None
entered_in (suc serial) (i ∷ is) = Some i

abbrev pub reached_in : ℕ → List Instance → List Instance
reached_in zero code = code
reached_in (suc serial) [] = []
reached_in (suc serial) (i ∷ is) = is

abbrev pub world_of : Job → World
world_of j = record { code = reached_in j.entry_serial j.code; pid = j.pid; mode = plain }

-- Which callback a message goes to: `{'$gen_call',From,T}` is a call, `{'$gen_cast',T}` a cast, all else other messages.

pub data Callback : Type 0 where
  handle_call : Tree → Tree → Callback
  handle_cast : Tree → Callback
  handle_info : Tree → Callback

abbrev pub callback_of : Tree → Callback
callback_of (tuple (term.more (atom cs) (term.more x (term.more y term.none)))) =
    if bytes_eq cs (codes "$gen_call") then handle_call x y
    else handle_info (tuple (term.more (atom cs) (term.more x (term.more y term.none))))
callback_of (tuple (term.more (atom cs) (term.more x term.none))) =
    if bytes_eq cs (codes "$gen_cast") then handle_cast x else handle_info (tuple (term.more (atom cs) (term.more x term.none)))
callback_of t = handle_info t

abbrev pub name_of : Callback → List ℕ
name_of (handle_call from t) = codes "handle_call"
name_of (handle_cast t) = codes "handle_cast"
name_of (handle_info t) = codes "handle_info"

-- `handle_call(T,From,S)`, `handle_cast(T,S)`, `handle_info(T,S)`
abbrev pub arguments_of : Callback → Tree → Trees
arguments_of (handle_call from t) s = term.more t (term.more from (term.more s term.none))
arguments_of (handle_cast t) s = term.more t (term.more s term.none)
arguments_of (handle_info t) s = term.more t (term.more s term.none)

-- What the value of a callback means: what is replied, if something, and what the process ends in or where it rests.

pub record Answer : Type 0 where
  pub answered : Option Tree
  pub ended : Result

abbrev pub bad_return_value : Tree → Answer
bad_return_value t = record { answered = None; ended = exit_by_pair (codes "bad_return_value") t }

-- `{noreply,S}` and `{stop,Reason,S}`, which every callback may give
abbrev pub plain_answer : List ℕ → Tree → Answer
plain_answer m (tuple (term.more (atom cs) (term.more x term.none))) =
    if bytes_eq cs (codes "noreply") then (record { answered = None; ended = rest (server m x) })
    else bad_return_value (tuple (term.more (atom cs) (term.more x term.none)))
plain_answer m (tuple (term.more (atom cs) (term.more x (term.more y term.none)))) =
    if bytes_eq cs (codes "stop") then (record { answered = None; ended = exit x })
    else bad_return_value (tuple (term.more (atom cs) (term.more x (term.more y term.none))))
plain_answer m t = bad_return_value t

-- and `{reply,R,S}` and `{stop,Reason,R,S}`, which `handle_call` may give besides
abbrev pub call_answer : List ℕ → Tree → Answer
call_answer m (tuple (term.more (atom cs) (term.more x (term.more y term.none)))) =
    if bytes_eq cs (codes "reply") then (record { answered = Some x; ended = rest (server m y) })
    else plain_answer m (tuple (term.more (atom cs) (term.more x (term.more y term.none))))
call_answer m (tuple (term.more (atom cs) (term.more x (term.more y (term.more z term.none))))) =
    if bytes_eq cs (codes "stop") then (record { answered = Some y; ended = exit x })
    else bad_return_value (tuple (term.more (atom cs) (term.more x (term.more y (term.more z term.none)))))
call_answer m t = plain_answer m t

abbrev pub answer_of : List ℕ → Callback → Tree → Answer
answer_of m (handle_call from t) v = call_answer m v
answer_of m (handle_cast t) v = plain_answer m v
answer_of m (handle_info t) v = plain_answer m v

abbrev pub one_act : Option Act → List Act
one_act None = []
one_act (Some act) = act ∷ []

-- the reply of a callback, which goes to its client
abbrev pub replied : Callback → Option Tree → List Act
replied (handle_call from t) (Some answer) = one_act (reply_to from answer)
replied _ _ = []

-- what a callback's result gives, behind these acts: its own reply is the last
abbrev pub served : List ℕ → Callback → List Act → Result → Outcome
served m callback acts (value v) = record {
  acts = acts ++ replied callback (answer_of m callback v).answered;
  ended = (answer_of m callback v).ended;
}
served m callback acts r = record { acts = acts; ended = r }

-- without an instance to enter there is nothing that could be evaluated
abbrev pub nowhere : Outcome
nowhere = record { acts = []; ended = exit_by (codes "undef") }

-- A callback that the module doesn't export is `undef`, but where that is `handle_info/2`, the message is dropped.
abbrev pub unexported : List ℕ → Tree → Callback → Outcome
unexported m s (handle_call from t) = nowhere
unexported m s (handle_cast t) = nowhere
unexported m s (handle_info t) = record { acts = []; ended = rest (server m s) }

-- what a callback of a module gives
pub data Handles : Job → List ℕ → Tree → Callback → Option Function → Instance → Outcome → Type 0 where
  not_exported : {j : Job} {m : List ℕ} {s : Tree} {callback : Callback} {i : Instance} {o : Outcome} →
      o ≡ unexported m s callback → Handles j m s callback None i o
  handled : {j : Job} {m : List ℕ} {s : Tree} {callback : Callback} {f : Function} {i : Instance} {r : Result} {s1 : State}
      {o : Outcome} →
      Entered (world_of j) (outermost i false) true (name_of callback) f.definition (arguments_of callback s) fresh r s1 →
      o ≡ served m callback s1.acts r → Handles j m s callback (Some f) i o

-- What a clause of a `receive` gives: one that ends in a value ends its process with `normal`.
abbrev pub looped : List Act → Result → Outcome
looped acts (value v) = record { acts = acts; ended = exit_by (codes "normal") }
looped acts r = record { acts = acts; ended = r }

-- What a message selects of a loop function: its head binds the arguments again, and then it is the first clause of its
-- `receive` that takes the message.

abbrev pub heard_in : ℕ → Tree → Clauses → Option (List Tree) → Selection
heard_in self message cs None = (None, 0)
heard_in self message cs (Some env) = selected self env cs (term.more message term.none) 0

abbrev pub heard_by : ℕ → Tree → Trees → Definition → Selection
heard_by self message args (definition.Loop ps gs cs) = heard_in self message cs (matched_each ps args [])
heard_by self message args (definition.Clauses cs) = (None, 0)

abbrev pub heard : ℕ → Tree → Trees → Option Function → Selection
heard self message args None = (None, 0)
heard self message args (Some f) = heard_by self message args f.definition

-- What the clause gives. That there is none never comes of a message that was taken.
pub data Receives : Job → Instance → Selection → Outcome → Type 0 where
  unheard : {j : Job} {i : Instance} {calls : ℕ} {o : Outcome} → o ≡ nowhere → Receives j i (None, calls) o
  received : {j : Job} {i : Instance} {env : List Tree} {body : Exprs} {calls : ℕ} {r : Result} {s : State} {o : Outcome} →
      Body (world_of j) (outermost i true) true body (with_calls calls (with_bindings env fresh)) r s →
      o ≡ looped s.acts r → Receives j i (Some (env, body), calls) o

-- the callback of a module, or the `receive` of a loop function, in the instance that the place is entered in
abbrev pub GivesAt : Job → Place → Option Instance → Outcome → Type 0
GivesAt j (server m s) None o = o ≡ nowhere
GivesAt j (server m s) (Some i) o = Handles j m s (callback_of j.message)
    (exported_of (name_of (callback_of j.message)) (count (arguments_of (callback_of j.message) s)) i.forms) i o
GivesAt j (loop m serial name args) None o = o ≡ nowhere
GivesAt j (loop m serial name args) (Some i) o =
    Receives j i (heard j.pid j.message args (function_of name (count args) i.forms)) o

-- `GivesJob j o`: the job j gives o.
abbrev pub GivesJob : Job → Outcome → Type 0
GivesJob j o = GivesAt j j.place (entered_in j.entry_serial j.code) o

-- Whether a process takes a message where it rests: in a callback module every message, in a loop function one that a clause of
-- its `receive` takes. The instance that is entered is the first of the code.
abbrev pub accepts : ℕ → Place → List Instance → Tree → Bool
accepts self (server m s) code message = true
accepts self (loop m serial name args) [] message = false
accepts self (loop m serial name args) (i ∷ is) message =
    is_some (heard self message args (function_of name (count args) i.forms)).0
