-- What evaluating reads, and what it leaves behind.
use Rattle.std.specs.Prelude.{ℕ, ◌+◌, Bool, false, ◌&&◌, if◌then◌else◌, nat_le, List, [], ◌∷◌, ◌++◌, take, drop, codes}
use Rattle.std.specs.Prelude.{Option, None, Some}
use Rattle.std.specs.Str.{bytes_eq}
use Rattle.erl_term.specs.Tree.{Tree, Trees, atom, tuple, none, more, depth, size}
use Rattle.erl_ir.specs.Module.{Forms}

-- An instance of a module: the name under which it is loaded, the serial of its load, and what it says.
pub record Instance : Type 0 where
  pub name : List ℕ
  pub serial : ℕ
  pub forms : Forms

-- Where a process rests between two messages: in its callback module with its state (gen_server behaviour), or in the
-- `receive` of a loop function of an instance, which was called with these arguments.
pub data Place : Type 0 where
  server : List ℕ → Tree → Place
  loop : List ℕ → ℕ → List ℕ → Trees → Place

-- who a message is sent to: a registered name, or a process
pub data Receiver : Type 0 where
  named : List ℕ → Receiver
  process : ℕ → Receiver

-- What evaluating does: it sends a message, or a reply to the call of a client by its number; a start function also starts
-- its process, and names it: by `register/2` (true) or by `{local,Name}` (false).
pub data Act : Type 0 where
  send : Receiver → Tree → Act
  reply : ℕ → Tree → Act
  start : Place → Act
  name : List ℕ → Bool → Act

-- What comes of an expression: its value; or its process rests, or ends by an exit with a reason.
pub data Result : Type 0 where
  value : Tree → Result
  rest : Place → Result
  exit : Tree → Result

-- no value
abbrev pub IsEnd : Result → Type 0
IsEnd (value t) = ⊥
IsEnd (rest p) = Unit {0}
IsEnd (exit t) = Unit {0}

-- what a variable is bound to; that nothing is never comes of a source
abbrev pub bound_to : Option Tree → Result
bound_to None = exit (atom (codes "undef"))
bound_to (Some t) = value t

-- an exit by a reason that is an atom
abbrev pub exit_by : List ℕ → Result
exit_by reason = exit (atom reason)

-- `{Left,Right}`
abbrev pub pair : Tree → Tree → Tree
pair left right = tuple (more left (more right none))

-- an exit by `{Word,Term}`
abbrev pub exit_by_pair : List ℕ → Tree → Result
exit_by_pair reason t = exit (pair (atom reason) t)

-- A term that is made is at most 256 deep and 65,536 large: else its making is a breach of the limits.

abbrev pub is_within : Tree → Bool
is_within t = nat_le (depth t) 256 && nat_le (size t) 65536

abbrev pub made : Tree → Result
made t = if is_within t then value t else exit_by (codes "system_limit")

-- A start function is evaluated in mode `start`, all else in mode `plain`.
pub data Mode : Type 0 where
  plain : Mode
  start_mode : Mode

-- What is given to all that is evaluated: the current code of each module that a remote call can reach, the process that
-- evaluates, or is started, and the mode.
pub record World : Type 0 where
  pub code : List Instance
  pub pid : ℕ
  pub mode : Mode

-- the current instance of a module
abbrev pub current : List ℕ → List Instance → Option Instance
current module_name [] = None
current module_name (i ∷ is) = if bytes_eq i.name module_name then Some i else current module_name is

-- The call that an expression is evaluated for: the instance that its function is of, how deep the call is nested in
-- others, and whether what it gives is what its process gives, so that the process may rest here.
pub record Activation : Type 0 where
  pub instance : Instance
  pub nesting : ℕ
  pub may_rest : Bool

-- the call of a function of an instance out of another: in tail position it takes the other's place
abbrev pub callee : Activation → Bool → Instance → Activation
callee a tail i =
    if tail then (record { instance = i; nesting = a.nesting; may_rest = a.may_rest })
    else (record { instance = i; nesting = a.nesting + 1; may_rest = false })

-- A process that a start function starts: how many acts were done before it, its name and whether `register/2` gave it, and
-- its place once it has one.
pub record Startup : Type 0 where
  pub before : ℕ
  pub registered : Option (List ℕ × Bool)
  pub place : Option Place

-- What changes while a callback is evaluated: the bindings of the variables that are bound, by index; how many calls were
-- made; the acts in order; and the process that is started.
pub record State : Type 0 where
  pub bindings : List Tree
  pub calls : ℕ
  pub acts : List Act
  pub startup : Option Startup

abbrev pub with_bindings : List Tree → State → State
with_bindings env s = record s { bindings = env }

abbrev pub with_calls : ℕ → State → State
with_calls calls s = record s { calls = calls }

-- the state behind what was done, if something was
abbrev pub after : Option Act → State → State
after None s = s
after (Some act) s = record s { acts = s.acts ++ act ∷ [] }

-- All acts in order. The start and the name of a process stand before the acts of what is started.

abbrev pub named_by : Option (List ℕ × Bool) → List Act
named_by None = []
named_by (Some n) = name n.0 n.1 ∷ []

abbrev pub started_at : Option Place → Option (List ℕ × Bool) → List Act
started_at None registered = []
started_at (Some p) registered = start p ∷ named_by registered

abbrev pub all_acts : Option Startup → List Act → List Act
all_acts None acts = acts
all_acts (Some startup) acts =
    take startup.before acts ++ started_at startup.place startup.registered ++ drop startup.before acts
