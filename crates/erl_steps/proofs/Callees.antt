-- What a call can begin is no heavier than the code.
use Rattle.std.specs.Prelude.{◌≤◌, ℕ, Bool, true, false, if◌then◌else◌, List, [], ◌∷◌, Option, None, Some}
use Rattle.std.specs.Prelude.{option_and_then, option_map, codes}
use Rattle.std.specs.Str.{bytes_eq}
use Rattle.std.specs.Map.{lookup}
use Rattle.std.proofs.Common.{arith}
use Rattle.erl_term.specs.Tree as term
use Rattle.erl_term.specs.Tree.{Tree, Trees, atom, count}
use Rattle.erl_ir.specs.declared.function.Function.{Function}
use Rattle.erl_ir.specs.Module.{Key, key_eq, function_of, if_exported, exported_of}
use Rattle.erl_semantics.specs.State as state
use Rattle.erl_semantics.specs.State.{Instance, Mode, World, Startup, current}
use Rattle.erl_semantics.specs.Evaluation.{local_function}
use Rattle.erl_semantics.specs.Starting.{exported_by, remote_function, Starter, spawn, start_link, Request, refused, begin, begin_or_undef}
use Rattle.erl_semantics.specs.Starting.{first_start, in_start_mode, spawn_asked, init_asked, local_name, named_asked, start_link_asked, asked}
use Rattle.erl_steps.specs.Work.{definition_weight, functions_weight, instance_weight, code_weight}

-- a function that is no heavier than so much, if there is one
abbrev Light : ℕ → Option Function → Type 0
Light n None = Unit {0}
Light n (Some f) = definition_weight f.definition ≤ n

lighter : (n m : ℕ) (f : Option Function) → n ≤ m → Light n f → Light m f
lighter n m None le light = tt
lighter n m (Some f) le light = omega (arith, light, le)

picked : (b : Bool) (f : Function) (g : Option Function) (n : ℕ) → definition_weight f.definition ≤ n → Light n g →
    Light n (if b then Some f else g)
picked true f g n here there = here
picked false f g n here there = there

found : (p : Key → Bool) (fs : List (Key × Function)) → Light (functions_weight fs) (lookup p fs)
found p [] = tt
found p (f ∷ fs) = picked (p f.0) f.1 (lookup p fs) (functions_weight (f ∷ fs)) (omega arith)
    (lighter (functions_weight fs) (functions_weight (f ∷ fs)) (lookup p fs) (omega arith) (found p fs))

exported : (n : ℕ) (f : Option Function) → Light n f → Light n (option_and_then if_exported f)
exported n None light = tt
exported n (Some f) light = picked f.exported f None n light tt

-- An instance, and a function, that are no heavier than so much, if there are such.
abbrev pub LightCallee : ℕ → Option (Instance × Function) → Type 0
LightCallee n None = Unit {0}
LightCallee n (Some p) = (instance_weight p.0 ≤ n) × (definition_weight p.1.definition ≤ n)

callee_in : (n : ℕ) (i : Instance) (f : Option Function) → instance_weight i ≤ n → Light (instance_weight i) f →
    LightCallee n (option_map (λ g. (i, g)) f)
callee_in n i None le light = tt
callee_in n i (Some f) le light = (le, omega (arith, light, le))

-- a function of the same instance
pub local_is_light : (i : Instance) (name : List ℕ) (arity : ℕ) (n : ℕ) → instance_weight i ≤ n →
    LightCallee n (local_function i name arity)
local_is_light i name arity n le =
    callee_in n i (function_of name arity i.forms) le (found (key_eq (name, arity)) i.forms.functions)

export_is_light : (i : Instance) (name : List ℕ) (arity : ℕ) (n : ℕ) → instance_weight i ≤ n →
    LightCallee n (exported_by name arity i)
export_is_light i name arity n le = callee_in n i (exported_of name arity i.forms) le
    (exported (instance_weight i) (function_of name arity i.forms) (found (key_eq (name, arity)) i.forms.functions))

-- an instance that is no heavier than so much, if there is one
abbrev LightInstance : ℕ → Option Instance → Type 0
LightInstance n None = Unit {0}
LightInstance n (Some i) = instance_weight i ≤ n

lighter_instance : (n m : ℕ) (i : Option Instance) → n ≤ m → LightInstance n i → LightInstance m i
lighter_instance n m None le light = tt
lighter_instance n m (Some i) le light = omega (arith, light, le)

picked_instance : (b : Bool) (i : Instance) (other : Option Instance) (n : ℕ) → instance_weight i ≤ n → LightInstance n other →
    LightInstance n (if b then Some i else other)
picked_instance true i other n here there = here
picked_instance false i other n here there = there

current_is_light : (name : List ℕ) (is : List Instance) → LightInstance (code_weight is) (current name is)
current_is_light name [] = tt
current_is_light name (i ∷ is) =
    picked_instance (bytes_eq i.name name) i (current name is) (code_weight (i ∷ is)) (omega arith)
    (lighter_instance (code_weight is) (code_weight (i ∷ is)) (current name is) (omega arith) (current_is_light name is))

remote_in : (name : List ℕ) (arity n : ℕ) (i : Option Instance) → LightInstance n i →
    LightCallee n (option_and_then (exported_by name arity) i)
remote_in name arity n None light = tt
remote_in name arity n (Some i) light = export_is_light i name arity n light

-- a function of the current code
pub remote_is_light : (w : World) (m name : List ℕ) (arity : ℕ) → LightCallee (code_weight w.code) (remote_function w m name arity)
remote_is_light w m name arity =
    remote_in name arity (code_weight w.code) (current m w.code) (current_is_light m w.code)

-- The function that is asked for, where a process is started.

abbrev pub LightRequest : ℕ → Request → Type 0
LightRequest n (refused r) = Unit {0}
LightRequest n (begin registered i name f ts) = (instance_weight i ≤ n) × (definition_weight f.definition ≤ n)

begins_light : (registered : Option (List ℕ)) (name : List ℕ) (args : Trees) (n : ℕ) (p : Option (Instance × Function)) →
    LightCallee n p → LightRequest n (begin_or_undef registered name args p)
begins_light registered name args n None light = tt
begins_light registered name args n (Some p) light = light

first_is_light : (startup : Option Startup) (n : ℕ) (r : Request) → LightRequest n r → LightRequest n (first_start startup r)
first_is_light None n r light = light
first_is_light (Some u) n r light = tt

mode_is_light : (k : Mode) (n : ℕ) (r : Request) → LightRequest n r → LightRequest n (in_start_mode k r)
mode_is_light state.plain n r light = tt
mode_is_light state.start_mode n r light = light

module _ (w : World) (startup : Option Startup) where
  spawn_is_light : (ts : Trees) → LightRequest (code_weight w.code) (spawn_asked w startup ts)
  spawn_is_light (term.more (atom m) (term.more (atom f) (term.more (term.list args) term.none))) =
      first_is_light startup (code_weight w.code) (begin_or_undef None f args (remote_function w m f (count args)))
      (begins_light None f args (code_weight w.code) (remote_function w m f (count args)) (remote_is_light w m f (count args)))
  spawn_is_light (term.more m (term.more f (term.more args term.none))) = tt
  spawn_is_light _ = tt

  init_is_light : (registered : Option (List ℕ)) (m args options : Tree) →
      LightRequest (code_weight w.code) (init_asked w startup registered m args options)
  init_is_light registered (atom m) args (term.list options) = first_is_light startup (code_weight w.code)
      (begin_or_undef registered (codes "init") (term.more args term.none) (remote_function w m (codes "init") 1))
      (begins_light registered (codes "init") (term.more args term.none) (code_weight w.code)
      (remote_function w m (codes "init") 1) (remote_is_light w m (codes "init") 1))
  init_is_light registered _ args _ = tt

  named_is_light : (name : Option (List ℕ)) (m args options : Tree) →
      LightRequest (code_weight w.code) (named_asked w startup name m args options)
  named_is_light None m args options = tt
  named_is_light (Some name) m args options = init_is_light (Some name) m args options

  link_is_light : (ts : Trees) → LightRequest (code_weight w.code) (start_link_asked w startup ts)
  link_is_light (term.more m (term.more args (term.more options term.none))) = init_is_light None m args options
  link_is_light (term.more name (term.more m (term.more args (term.more options term.none)))) =
      named_is_light (local_name name) m args options
  link_is_light _ = tt

  pub asked_is_light : (st : Starter) (ts : Trees) → LightRequest (code_weight w.code) (asked w st startup ts)
  asked_is_light spawn ts = mode_is_light w.mode (code_weight w.code) (spawn_asked w startup ts) (spawn_is_light ts)
  asked_is_light start_link ts = mode_is_light w.mode (code_weight w.code) (start_link_asked w startup ts) (link_is_light ts)
