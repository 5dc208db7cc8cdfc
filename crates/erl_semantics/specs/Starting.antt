-- Starting a process, by a start function (erlang(3), spawn/3 and register/2; proc_lib(3); gen_server(3), start_link/3,4).
use Rattle.std.specs.Prelude.{ℕ, ◌+◌, Bool, true, false, ◌&&◌, if◌then◌else◌, nat_le, List, [], length, codes}
use Rattle.std.specs.Prelude.{Option, None, Some, is_some, option_map, option_and_then}
use Rattle.std.specs.Str.{bytes_eq}
use Rattle.erl_term.specs.Tree as term
use Rattle.erl_term.specs.Tree.{Tree, Trees, atom, pid, count}
use Rattle.erl_ir.specs.declared.operation.BuiltIn.{BuiltIn}
use Rattle.erl_ir.specs.declared.operation.BuiltIn.TheVariants as built_in
use Rattle.erl_ir.specs.declared.function.Function.{Function}
use Rattle.erl_ir.specs.Module.{exported_of}
use Rattle.erl_semantics.specs.State.{Instance, Place, Result, exit_by, made, Mode, World, current, Activation, Startup, State}
use Rattle.erl_semantics.specs.State.{with_bindings}
use Rattle.erl_semantics.specs.State as state
use Rattle.erl_semantics.specs.Operators.{truth}
use Rattle.erl_semantics.specs.BuiltIns.{badarg, not_in_profile}

-- A remote call goes to the current code of the module, and to a function that it exports.

abbrev pub exported_by : List ℕ → ℕ → Instance → Option (Instance × Function)
exported_by name arity i = option_map (λ f. (i, f)) (exported_of name arity i.forms)

abbrev pub remote_function : World → List ℕ → List ℕ → ℕ → Option (Instance × Function)
remote_function w module_name name arity = option_and_then (exported_by name arity) (current module_name w.code)

-- what starts a process: `spawn` and its kin, or `gen_server:start_link`
pub data Starter : Type 0 where
  spawn : Starter
  start_link : Starter

-- how a function that is built in works: at once, by naming a process, or by starting one
pub data Way : Type 0 where
  at_once : Way
  naming : Way
  starting : Starter → Way

abbrev pub way_of : BuiltIn → Way
way_of built_in.Register = naming
way_of built_in.Spawn = starting spawn
way_of built_in.SpawnLink = starting spawn
way_of built_in.ProcLibSpawnLink = starting spawn
way_of built_in.StartLink = starting start_link
way_of _ = at_once

-- what was asked for: it is refused, or a function is to be evaluated with arguments
pub data Request : Type 0 where
  refused : Result → Request
  begin : Option (List ℕ) → Instance → List ℕ → Function → Trees → Request

-- the function that is asked for, where no process is being started or was started yet
abbrev pub begin_or_undef : Option (List ℕ) → List ℕ → Trees → Option (Instance × Function) → Request
begin_or_undef registered name args None = refused (exit_by (codes "undef"))
begin_or_undef registered name args (Some p) = begin registered p.0 name p.1 args

abbrev pub first_start : Option Startup → Request → Request
first_start None request = request
first_start (Some startup) request = refused not_in_profile

abbrev pub in_start_mode : Mode → Request → Request
in_start_mode state.plain request = refused not_in_profile
in_start_mode state.start_mode request = request

-- `spawn(M,F,Args)`
abbrev pub spawn_asked : World → Option Startup → Trees → Request
spawn_asked w startup (term.more (atom m) (term.more (atom f) (term.more (term.list args) term.none))) =
    first_start startup (begin_or_undef None f args (remote_function w m f (count args)))
spawn_asked w startup (term.more m (term.more f (term.more args term.none))) = refused badarg
spawn_asked w startup _ = refused (exit_by (codes "undef"))

-- `gen_server:start_link(Mod,Args,Options)` and `gen_server:start_link({local,Name},Mod,Args,Options)`

abbrev pub init_asked : World → Option Startup → Option (List ℕ) → Tree → Tree → Tree → Request
init_asked w startup registered (atom m) args (term.list options) = first_start startup
    (begin_or_undef registered (codes "init") (term.more args term.none) (remote_function w m (codes "init") 1))
init_asked w startup registered _ args _ = refused badarg

-- `{local,Name}`
abbrev pub local_name : Tree → Option (List ℕ)
local_name (term.tuple (term.more (atom cs) (term.more (atom name) term.none))) =
    if bytes_eq cs (codes "local") then Some name else None
local_name _ = None

abbrev pub named_asked : World → Option Startup → Option (List ℕ) → Tree → Tree → Tree → Request
named_asked w startup None m args options = refused not_in_profile
named_asked w startup (Some name) m args options = init_asked w startup (Some name) m args options

abbrev pub start_link_asked : World → Option Startup → Trees → Request
start_link_asked w startup (term.more m (term.more args (term.more options term.none))) =
    init_asked w startup None m args options
start_link_asked w startup (term.more name (term.more m (term.more args (term.more options term.none)))) =
    named_asked w startup (local_name name) m args options
start_link_asked w startup _ = refused (exit_by (codes "undef"))

abbrev pub asked : World → Starter → Option Startup → Trees → Request
asked w spawn startup ts = in_start_mode w.mode (spawn_asked w startup ts)
asked w start_link startup ts = in_start_mode w.mode (start_link_asked w startup ts)

-- the state in which the function of a process that is started begins
abbrev pub begun_by : Option (List ℕ) → State → State
begun_by registered s = record {
  bindings = [];
  calls = s.calls;
  acts = s.acts;
  startup = Some (record {
    before = length s.acts;
    registered = option_map (λ name. (name, false)) registered;
    place = None;
  });
}

-- a process that was started rests at this place
abbrev pub placed : Place → Option Startup → Option Startup
placed p None = None
placed p (Some u) = Some (record u { place = Some p })

-- what `spawn` gives: a process that rests was started; one that doesn't rest has ended, and with it the evaluation
abbrev pub spawned : World → List Tree → Result → State → Result × State
spawned w env (state.rest p) s =
    (state.value (pid w.pid), record s { bindings = env; startup = placed p s.startup })
spawned w env (state.value t) s = (exit_by (codes "normal"), with_bindings env s)
spawned w env (state.exit t) s = (state.exit t, with_bindings env s)

-- what `start_link` gives by what `Mod:init` gave: `{ok,S}`, `ignore`, `{stop,R}`, `{error,R}`, or else

pub data Initialized : Type 0 where
  begun : Tree → Initialized
  ignored : Initialized
  failed : Tree → Initialized

abbrev pub initialized_pair : List ℕ → Tree → Tree → Initialized
initialized_pair cs second t =
    if bytes_eq cs (codes "ok") then begun second
    else (if bytes_eq cs (codes "stop") then failed second
    else (if bytes_eq cs (codes "error") then failed second else failed (state.pair (atom (codes "bad_return_value")) t)))

abbrev pub initialized : Tree → Initialized
initialized (term.tuple (term.more (atom cs) (term.more second term.none))) =
    initialized_pair cs second (term.tuple (term.more (atom cs) (term.more second term.none)))
initialized (atom cs) =
    if bytes_eq cs (codes "ignore") then ignored else failed (state.pair (atom (codes "bad_return_value")) (atom cs))
initialized t = failed (state.pair (atom (codes "bad_return_value")) t)

-- Nothing was started: what was done stays done, and the name is free.
abbrev pub unstarted : List Tree → State → State
unstarted env s = record s { bindings = env; startup = None }

abbrev pub linked_by : World → List Tree → List ℕ → State → Initialized → Result × State
linked_by w env m s (begun t) = (
  state.value (state.pair (atom (codes "ok")) (pid w.pid)),
  record s { bindings = env; startup = placed (state.server m t) s.startup },
)
linked_by w env m s ignored = (state.value (atom (codes "ignore")), unstarted env s)
linked_by w env m s (failed t) = (made (state.pair (atom (codes "error")) t), unstarted env s)

abbrev pub linked : World → List Tree → List ℕ → Result → State → Result × State
linked w env m (state.value t) s = linked_by w env m s (initialized t)
linked w env m (state.rest p) s = (not_in_profile, with_bindings env s)
linked w env m (state.exit t) s = (state.exit t, with_bindings env s)

abbrev pub started : World → Starter → List Tree → List ℕ → Result → State → Result × State
started w spawn env m r s = spawned w env r s
started w start_link env m r s = linked w env m r s

-- whether the process may rest in tail position of the function: what is spawned may, but `init` has to give a value
abbrev pub rests : Starter → Bool
rests spawn = true
rests start_link = false

-- the call in which the function of a process that is started is evaluated
abbrev pub first_activation : Activation → Starter → Instance → Activation
first_activation a starter i = record { instance = i; nesting = a.nesting + 1; may_rest = rests starter }

-- `register(Name,Pid)`: the process that is started, once

abbrev pub registered_as : List ℕ → Startup → State → Result × State
registered_as name u s = if is_some u.registered then (not_in_profile, s)
    else (state.value (truth true), record s { startup = Some (record u { registered = Some (name, true) }) })

abbrev pub register_in : List ℕ → Bool → Option Startup → State → Result × State
register_in name is_own None s = (not_in_profile, s)
register_in name is_own (Some u) s = if is_own then registered_as name u s else (not_in_profile, s)

abbrev pub register_asked : World → Trees → State → Result × State
register_asked w (term.more (atom name) (term.more (pid n) term.none)) s =
    register_in name (nat_le n w.pid && nat_le w.pid n) s.startup s
register_asked w (term.more t (term.more u term.none)) s = (badarg, s)
register_asked w ts s = (exit_by (codes "undef"), s)

abbrev pub register_in_mode : World → Mode → Trees → State → Result × State
register_in_mode w state.plain ts s = (not_in_profile, s)
register_in_mode w state.start_mode ts s = register_asked w ts s
