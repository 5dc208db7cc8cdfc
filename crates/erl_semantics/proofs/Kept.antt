-- What evaluation keeps: what is done is messages and replies alone, and who rests does so in code that was given.
use Rattle.std.specs.Prelude.{◌≡◌, ℕ, suc, ◌&&◌, nat_le, Bool, true, false, if◌then◌else◌, List, [], ◌∷◌, codes, slice_get}
use Rattle.std.specs.Prelude.{Contains, All, Option, None, Some, is_some, option_map, option_and_then, refl}
use Rattle.std.specs.Str.{bytes_eq}
use Rattle.std.proofs.Common.{arith, sym, subst, ◌∙◌, true≢false}
use Rattle.std.proofs.lemmas.List.Elements.{All-nil, All-push}
use Rattle.erl_term.specs.Tree as term
use Rattle.erl_term.specs.Tree.{Tree, Trees, count}
use Rattle.erl_ir.specs.declared.operation.BuiltIn.{BuiltIn}
use Rattle.erl_ir.specs.declared.operation.Connective.{Connective}
use Rattle.erl_ir.specs.declared.operation.Operation.{Operation}
use Rattle.erl_ir.specs.declared.function.Function.{Function}
use Rattle.erl_ir.specs.declared.function.Definition.{Definition}
use Rattle.erl_ir.specs.Module.{exported_of, function_of}
use Rattle.erl_ir.specs.Pattern.{Pat}
use Rattle.erl_ir.specs.Expression.{Expr, Exprs, Clauses}
use Rattle.erl_semantics.specs.State.{Instance, Place, server, Act, Result, value, rest, exit, pair, Mode, plain, start_mode}
use Rattle.erl_semantics.specs.State.{World, current, Activation, callee, Startup, State, with_bindings, after}
use Rattle.erl_semantics.specs.Operators.{truth, sends}
use Rattle.erl_semantics.specs.BuiltIns.{does, not_in_profile}
use Rattle.erl_semantics.specs.Matching.{matched}
use Rattle.erl_semantics.specs.Guards.{Values, all, stopped, with_first}
use Rattle.erl_semantics.specs.Starting.{exported_by, remote_function, Starter, spawn, start_link, Way, Request, refused, begin}
use Rattle.erl_semantics.specs.Starting.{begin_or_undef, first_start, in_start_mode, spawn_asked, init_asked, local_name, named_asked}
use Rattle.erl_semantics.specs.Starting.{start_link_asked, asked, begun_by, placed, spawned, Initialized, begun, ignored, failed}
use Rattle.erl_semantics.specs.Starting.{initialized, linked_by, linked, rests, first_activation, registered_as, register_in}
use Rattle.erl_semantics.specs.Starting.{register_asked, register_in_mode}
use Rattle.erl_semantics.specs.Starting as starting
use Rattle.erl_semantics.specs.Evaluation.{Gives, Bound, bound, Eval, Operands, Others, Body, Onward, Decided, Cased, Taken, Applied}
use Rattle.erl_semantics.specs.Evaluation.{Called, Entered, BuiltInCalled, Worked, Started, matched_to, right_ended, literal, variable}
use Rattle.erl_semantics.specs.Evaluation.{apply, match, block, case, short_circuit, no_operands, operand, others, operand_ended}
use Rattle.erl_semantics.specs.Evaluation.{empty, last, next, onward, body_ended, decided, undecided, no_truth, left_ended, cased}
use Rattle.erl_semantics.specs.Evaluation.{subject_ended, no_clause, taken, operands_ended, tuple, list, cons, operator, built_in}
use Rattle.erl_semantics.specs.Evaluation.{local, remote, too_many, undefined, called, loop_elsewhere, loop_too_deep, loop}
use Rattle.erl_semantics.specs.Evaluation.{too_deep, clauses, built_in_too_many, built_in_called, worked_at_once, named, starts}
use Rattle.erl_semantics.specs.Evaluation.{refused_start, started_by, rested, chosen, head_of}
use Rattle.erl_semantics.specs.OutcomeLaws.{IsMessage, IsPlaceIn}
use Rattle.erl_semantics.proofs.Options.{some_none, some_injective}
use Rattle.erl_semantics.proofs.Returns.{Returns, bound_returns, made_returns, consed_returns, operated_returns, given_returns}
use Rattle.erl_semantics.proofs.Returns.{IsNoStart, sends_no_start, does_no_start}

-- A result that rests does so where it may, and in this code.
abbrev pub RestsIn : List Instance → Bool → Result → Type 0
RestsIn code may_rest (value t) = Unit {0}
RestsIn code may_rest (rest p) = (may_rest ≡ true) × IsPlaceIn code p
RestsIn code may_rest (exit t) = Unit {0}

-- a place that there may be is one of this code
abbrev pub MayBeIn : List Instance → Option Place → Type 0
MayBeIn code None = Unit {0}
MayBeIn code (Some p) = IsPlaceIn code p

abbrev pub BeginsIn : List Instance → Option Startup → Type 0
BeginsIn code None = Unit {0}
BeginsIn code (Some u) = MayBeIn code u.place

-- a function that there may be is of this code
abbrev pub IsFoundIn : List Instance → Option (Instance × Function) → Type 0
IsFoundIn code None = Unit {0}
IsFoundIn code (Some p) = Contains code p.0

-- What is asked for begins in this code, if it is no refusal.
abbrev AsksIn : List Instance → Request → Type 0
AsksIn code (refused q) = Returns q
AsksIn code (begin registered i name f ts) = Contains code i

-- the same of the values of operands
abbrev ValuesRestIn : List Instance → Bool → Values → Type 0
ValuesRestIn code may_rest (all ts) = Unit {0}
ValuesRestIn code may_rest (stopped q) = RestsIn code may_rest q

return_rests : (code : List Instance) (may_rest : Bool) (r : Result) → Returns r → RestsIn code may_rest r
return_rests code may_rest (value t) returns = tt
return_rests code may_rest (rest p) returns = absurd returns
return_rests code may_rest (exit t) returns = tt

-- the current instance of a module is one of the code

pub contains_first : (i : Instance) (code : List Instance) → Contains (i ∷ code) i
contains_first i code = (0, omega arith, refl)

pub contains_more : (i j : Instance) (code : List Instance) → Contains code i → Contains (j ∷ code) i
contains_more i j code (k, below, is) = (suc k, omega arith, is)

current_first : (m : List ℕ) (j : Instance) (code : List Instance) (i : Instance) (b : Bool) →
    (if b then Some j else current m code) ≡ Some i → (current m code ≡ Some i → Contains code i) → Contains (j ∷ code) i
current_first m j code i true is later = subst (λ x. Contains (j ∷ code) x) (some_injective is) (contains_first j code)
current_first m j code i false is later = contains_more i j code (later is)

current_in : (m : List ℕ) (code : List Instance) (i : Instance) → current m code ≡ Some i → Contains code i
current_in m [] i is = absurd (some_none (sym is))
current_in m (j ∷ code) i is = current_first m j code i (bytes_eq j.name m) is (λ there. current_in m code i there)

-- functions that are found are of the code

function_in : (code : List Instance) (i : Instance) (f : Option Function) → Contains code i →
    IsFoundIn code (option_map (λ g. (i, g)) f)
function_in code i None there = tt
function_in code i (Some f) there = there

exported_in : (code : List Instance) (name : List ℕ) (arity : ℕ) (i : Option Instance) →
    ((j : Instance) → i ≡ Some j → Contains code j) → IsFoundIn code (option_and_then (exported_by name arity) i)
exported_in code name arity None there = tt
exported_in code name arity (Some i) there = function_in code i (exported_of name arity i.forms) (there i refl)

pub remote_in : (w : World) (m name : List ℕ) (arity : ℕ) → IsFoundIn w.code (remote_function w m name arity)
remote_in w m name arity = exported_in w.code name arity (current m w.code) (current_in m w.code)

found_within : (code given_code : List Instance) (p : Option (Instance × Function)) →
    ((i : Instance) → Contains code i → Contains given_code i) → IsFoundIn code p → IsFoundIn given_code p
found_within code given_code None within there = tt
found_within code given_code (Some p) within there = within p.0 there

-- what is asked for begins in the code of the world

begin_in : (w : World) (registered : Option (List ℕ)) (name : List ℕ) (args : Trees) (p : Option (Instance × Function)) →
    IsFoundIn w.code p → AsksIn w.code (begin_or_undef registered name args p)
begin_in w registered name args None there = tt
begin_in w registered name args (Some p) there = there

first_in : (w : World) (startup : Option Startup) (request : Request) → AsksIn w.code request →
    AsksIn w.code (first_start startup request)
first_in w None request there = there
first_in w (Some u) request there = tt

spawn_in : (w : World) (startup : Option Startup) (ts : Trees) → AsksIn w.code (spawn_asked w startup ts)
spawn_in w startup (term.more (term.atom m) (term.more (term.atom f) (term.more (term.list args) term.none))) =
    first_in w startup (begin_or_undef None f args (remote_function w m f (count args)))
    (begin_in w None f args (remote_function w m f (count args)) (remote_in w m f (count args)))
spawn_in w startup (term.more m (term.more f (term.more args term.none))) = tt
spawn_in w startup _ = tt

init_in : (w : World) (startup : Option Startup) (registered : Option (List ℕ)) (m args options : Tree) →
    AsksIn w.code (init_asked w startup registered m args options)
init_in w startup registered (term.atom m) args (term.list options) = first_in w startup
    (begin_or_undef registered (codes "init") (term.more args term.none) (remote_function w m (codes "init") 1))
    (begin_in w registered (codes "init") (term.more args term.none) (remote_function w m (codes "init") 1)
    (remote_in w m (codes "init") 1))
init_in w startup registered _ args _ = tt

named_in : (w : World) (startup : Option Startup) (name : Option (List ℕ)) (m args options : Tree) →
    AsksIn w.code (named_asked w startup name m args options)
named_in w startup None m args options = tt
named_in w startup (Some name) m args options = init_in w startup (Some name) m args options

link_in : (w : World) (startup : Option Startup) (ts : Trees) → AsksIn w.code (start_link_asked w startup ts)
link_in w startup (term.more m (term.more args (term.more options term.none))) = init_in w startup None m args options
link_in w startup (term.more name (term.more m (term.more args (term.more options term.none)))) =
    named_in w startup (local_name name) m args options
link_in w startup _ = tt

-- and in mode `plain` nothing begins

abbrev IsNotPlain : Mode → Type 0
IsNotPlain plain = ⊥
IsNotPlain start_mode = Unit {0}

-- what is asked for begins in this code, and in mode `start`
abbrev Asks : World → Request → Type 0
Asks w (refused q) = Returns q
Asks w (begin registered i name f ts) = Contains w.code i × ¬ (w.mode ≡ plain)

asks_where : (w : World) (request : Request) → ¬ (w.mode ≡ plain) → AsksIn w.code request → Asks w request
asks_where w (refused q) not_plain there = there
asks_where w (begin registered i name f ts) not_plain there = (there, not_plain)

asks_in_mode : (w : World) (mode : Mode) (request : Request) → w.mode ≡ mode → AsksIn w.code request →
    Asks w (in_start_mode mode request)
asks_in_mode w plain request is there = tt
asks_in_mode w start_mode request is there =
    asks_where w request (λ is_plain. subst (λ mode. IsNotPlain mode) (sym is ∙ is_plain) tt) there

asks : (w : World) (starter : Starter) (startup : Option Startup) (ts : Trees) → Asks w (asked w starter startup ts)
asks w spawn startup ts = asks_in_mode w w.mode (spawn_asked w startup ts) refl (spawn_in w startup ts)
asks w start_link startup ts = asks_in_mode w w.mode (start_link_asked w startup ts) refl (link_in w startup ts)

-- a call of another function

callee_in : (code : List Instance) (a : Activation) (tail : Bool) (i : Instance) → Contains code i →
    Contains code (callee a tail i).instance
callee_in code a true i there = there
callee_in code a false i there = there

rests_within : (code : List Instance) (may_rest : Bool) (r : Result) → RestsIn code false r → RestsIn code may_rest r
rests_within code may_rest (value t) there = tt
rests_within code may_rest (rest p) there = absurd (true≢false (sym there.0))
rests_within code may_rest (exit t) there = tt

callee_rests : (code : List Instance) (a : Activation) (tail : Bool) (i : Instance) (r : Result) →
    RestsIn code (callee a tail i).may_rest r → RestsIn code a.may_rest r
callee_rests code a true i r there = there
callee_rests code a false i r there = rests_within code a.may_rest r there

rested_in : (code : List Instance) (a : Activation) (name : List ℕ) (ts : Trees) (found : Option (List Tree × Exprs)) →
    a.may_rest ≡ true → Contains code a.instance → RestsIn code a.may_rest (rested a name ts found)
rested_in code a name ts None may there = tt
rested_in code a name ts (Some found) may there = (may, (a.instance, there, refl, refl))

first_values : (code : List Instance) (may_rest : Bool) (t : Tree) (v : Values) → ValuesRestIn code may_rest v →
    ValuesRestIn code may_rest (with_first t v)
first_values code may_rest t (all ts) there = tt
first_values code may_rest t (stopped q) there = there

-- Evaluation in a world, where code is given that holds the world's.
module _ (w : World) (code : List Instance) (within : (i : Instance) → Contains w.code i → Contains code i) where
  -- Up to here all that is done is messages and replies; a process that was started rests in the code, and in mode `plain`
  -- there is none.
  pub record Sound (acts : List Act) (startup : Option Startup) : Type 0 where
    pub messages : All IsMessage acts
    pub begins : BeginsIn code startup
    pub no_start : w.mode ≡ plain → startup ≡ None

  -- nothing is done before all
  pub fresh_sound : Sound [] None
  fresh_sound = record { messages = All-nil IsMessage; begins = tt; no_start = λ is_plain. refl }

  -- the same of a state, and of the result before it
  pub record Kept (may_rest : Bool) (r : Result) (s : State) : Type 0 where
    pub rests_in : RestsIn code may_rest r
    pub sound : Sound s.acts s.startup

  -- and of the values of operands
  record ValuesKept (may_rest : Bool) (v : Values) (s : State) : Type 0 where
    rest_in : ValuesRestIn code may_rest v
    sound : Sound s.acts s.startup

  returned : {may_rest : Bool} {r : Result} {s : State} → Returns r → Sound s.acts s.startup → Kept may_rest r s
  returned {may_rest = may_rest} {r = r} returns sound =
      record { rests_in = return_rests code may_rest r returns; sound = sound }

  moved : {may_rest : Bool} {r q : Result} {s t : State} → Gives r s q t → Kept may_rest q t → Kept may_rest r s
  moved {may_rest = may_rest} same kept = record {
    rests_in = subst (λ x. RestsIn code may_rest x) (sym same.0) kept.rests_in;
    sound = subst (λ x. Sound x.acts x.startup) (sym same.1) kept.sound;
  }

  values_moved : {may_rest : Bool} {v u : Values} {s t : State} → v ≡ u → s ≡ t → ValuesKept may_rest u t →
      ValuesKept may_rest v s
  values_moved {may_rest = may_rest} same state_same kept = record {
    rest_in = subst (λ x. ValuesRestIn code may_rest x) (sym same) kept.rest_in;
    sound = subst (λ x. Sound x.acts x.startup) (sym state_same) kept.sound;
  }

  first_keeps : {may_rest : Bool} {v : Values} {s : State} (t : Tree) (u : Values) → v ≡ with_first t u →
      ValuesKept may_rest u s → ValuesKept may_rest v s
  first_keeps {may_rest = may_rest} t u same kept = record {
    rest_in = subst (λ x. ValuesRestIn code may_rest x) (sym same) (first_values code may_rest t u kept.rest_in);
    sound = kept.sound;
  }

  -- where only bindings are others
  replaced : {may_rest : Bool} {r : Result} {s t : State} (env : List Tree) → t ≡ with_bindings env s → Kept may_rest r s →
      Kept may_rest r t
  replaced env is kept =
      record { rests_in = kept.rests_in; sound = subst (λ x. Sound x.acts x.startup) (sym is) kept.sound }

  after_keeps : (act : Option Act) (s : State) → IsNoStart act → Sound s.acts s.startup →
      Sound (after act s).acts (after act s).startup
  after_keeps None s message sound = sound
  after_keeps (Some act) s message sound = record {
    messages = All-push IsMessage s.acts act sound.messages message;
    begins = sound.begins;
    no_start = sound.no_start;
  }

  bound_keeps : {may_rest : Bool} (found : Option (List Tree)) (t : Tree) (s : State) → Sound s.acts s.startup →
      Kept may_rest (bound found t s).0 (bound found t s).1
  bound_keeps None t s sound = returned tt sound
  bound_keeps (Some env) t s sound = returned tt sound

  match_keeps : {may_rest : Bool} {p : Pat} {q : Result} {s : State} {r : Result} {x : State} → Kept may_rest q s →
      Bound p q s r x → Kept may_rest r x
  match_keeps kept (matched_to {p = p} {t = t} {s = s} g) = moved g (bound_keeps (matched p t s.bindings) t s kept.sound)
  match_keeps kept (right_ended end g) = moved g kept

  -- what is named, or is started, keeps it too

  either_keeps : {may_rest : Bool} (b : Bool) (one other : Result × State) → Kept may_rest one.0 one.1 →
      Kept may_rest other.0 other.1 → Kept may_rest (if b then one else other).0 (if b then one else other).1
  either_keeps true one other kept kept_too = kept
  either_keeps false one other kept kept_too = kept_too

  registered_as_keeps : {may_rest : Bool} (name : List ℕ) (u : Startup) (s : State) → s.startup ≡ Some u →
      Sound s.acts s.startup → Kept may_rest (registered_as name u s).0 (registered_as name u s).1
  registered_as_keeps name u s is sound = either_keeps (is_some u.registered) (not_in_profile, s)
      (value (truth true), record s { startup = Some (record u { registered = Some (name, true) }) })
      (returned tt sound)
      (returned tt (record {
        messages = sound.messages;
        begins = subst (λ x. BeginsIn code x) is sound.begins;
        no_start = λ is_plain. absurd (some_none (sym is ∙ sound.no_start is_plain));
      }))

  register_in_keeps : {may_rest : Bool} (name : List ℕ) (is_own : Bool) (startup : Option Startup) (s : State) →
      s.startup ≡ startup → Sound s.acts s.startup →
      Kept may_rest (register_in name is_own startup s).0 (register_in name is_own startup s).1
  register_in_keeps name is_own None s is sound = returned tt sound
  register_in_keeps name true (Some u) s is sound = registered_as_keeps name u s is sound
  register_in_keeps name false (Some u) s is sound = returned tt sound

  register_asked_keeps : {may_rest : Bool} (ts : Trees) (s : State) → Sound s.acts s.startup →
      Kept may_rest (register_asked w ts s).0 (register_asked w ts s).1
  register_asked_keeps (term.more (term.atom name) (term.more (term.pid n) term.none)) s sound =
      register_in_keeps name (nat_le n w.pid && nat_le w.pid n) s.startup s refl sound
  register_asked_keeps (term.more t (term.more u term.none)) s sound = returned tt sound
  register_asked_keeps _ s sound = returned tt sound

  register_keeps : {may_rest : Bool} (mode : Mode) (ts : Trees) (s : State) → Sound s.acts s.startup →
      Kept may_rest (register_in_mode w mode ts s).0 (register_in_mode w mode ts s).1
  register_keeps plain ts s sound = returned tt sound
  register_keeps start_mode ts s sound = register_asked_keeps ts s sound

  begun_keeps : (registered : Option (List ℕ)) (s : State) → ¬ (w.mode ≡ plain) → Sound s.acts s.startup →
      Sound (begun_by registered s).acts (begun_by registered s).startup
  begun_keeps registered s not_plain sound =
      record { messages = sound.messages; begins = tt; no_start = λ is_plain. absurd (not_plain is_plain) }

  placed_keeps : (p : Place) (acts : List Act) (startup : Option Startup) → IsPlaceIn code p → Sound acts startup →
      Sound acts (placed p startup)
  placed_keeps p acts None there sound = sound
  placed_keeps p acts (Some u) there sound = record {
    messages = sound.messages;
    begins = there;
    no_start = λ is_plain. absurd (some_none (sound.no_start is_plain));
  }

  spawned_keeps : {may_rest : Bool} (env : List Tree) (q : Result) (s : State) → Kept true q s →
      Kept may_rest (spawned w env q s).0 (spawned w env q s).1
  spawned_keeps env (value t) s kept = returned tt kept.sound
  spawned_keeps env (rest p) s kept = returned tt (placed_keeps p s.acts s.startup kept.rests_in.1 kept.sound)
  spawned_keeps env (exit t) s kept = returned tt kept.sound

  unstarted_keeps : {acts : List Act} {startup : Option Startup} → Sound acts startup → Sound acts None
  unstarted_keeps sound = record { messages = sound.messages; begins = tt; no_start = λ is_plain. refl }

  linked_by_keeps : {may_rest : Bool} (env : List Tree) (i : Instance) (s : State) (came : Initialized) → Contains code i →
      Sound s.acts s.startup → Kept may_rest (linked_by w env i.name s came).0 (linked_by w env i.name s came).1
  linked_by_keeps env i s (begun t) there sound =
      returned tt (placed_keeps (server i.name t) s.acts s.startup (i, there, refl) sound)
  linked_by_keeps env i s ignored there sound = returned tt (unstarted_keeps sound)
  linked_by_keeps env i s (failed t) there sound =
      returned (made_returns (pair (term.atom (codes "error")) t)) (unstarted_keeps sound)

  linked_keeps : {may_rest : Bool} (env : List Tree) (i : Instance) (q : Result) (s : State) → Contains code i →
      Kept false q s → Kept may_rest (linked w env i.name q s).0 (linked w env i.name q s).1
  linked_keeps env i (value t) s there kept = linked_by_keeps env i s (initialized t) there kept.sound
  linked_keeps env i (rest p) s there kept = returned tt kept.sound
  linked_keeps env i (exit t) s there kept = returned tt kept.sound

  started_keeps : {may_rest : Bool} (starter : Starter) (env : List Tree) (i : Instance) (q : Result) (s : State) →
      Contains code i → Kept (rests starter) q s →
      Kept may_rest (starting.started w starter env i.name q s).0 (starting.started w starter env i.name q s).1
  started_keeps spawn env i q s there kept = spawned_keeps env q s kept
  started_keeps start_link env i q s there kept = linked_keeps env i q s there kept

  mutual
    pub eval_keeps : {a : Activation} {tail : Bool} {e : Expr} {s : State} {r : Result} {x : State} →
        Contains code a.instance → Sound s.acts s.startup → Eval w a tail e s r x → Kept a.may_rest r x
    eval_keeps there sound (literal g) = moved g (returned tt sound)
    eval_keeps there sound (variable {index = p} {s = s} g) =
        moved g (returned (bound_returns (slice_get s.bindings p)) sound)
    eval_keeps there sound (apply d f) = applied_keeps there (operands_keep there sound d) f
    eval_keeps there sound (match d f) = match_keeps (body_keeps there sound d) f
    eval_keeps there sound (block d) = body_keeps there sound d
    eval_keeps there sound (case d f) = cased_keeps there (body_keeps there sound d) f
    eval_keeps there sound (short_circuit d f) = decided_keeps there (body_keeps there sound d) f

    operands_keep : {a : Activation} {es : Exprs} {s : State} {v : Values} {x : State} →
        Contains code a.instance → Sound s.acts s.startup → Operands w a es s v x → ValuesKept a.may_rest v x
    operands_keep there sound (no_operands is state_is) = values_moved is state_is (record { rest_in = tt; sound = sound })
    operands_keep there sound (operand d f) = others_keep there (eval_keeps there sound d) f

    others_keep : {a : Activation} {es : Exprs} {q : Result} {s : State} {v : Values} {x : State} →
        Contains code a.instance → Kept a.may_rest q s → Others w a es q s v x → ValuesKept a.may_rest v x
    others_keep there kept (others {t = t} {u = u} d is) = first_keeps t u is (operands_keep there kept.sound d)
    others_keep there kept (operand_ended end is state_is) =
        values_moved is state_is (record { rest_in = kept.rests_in; sound = kept.sound })

    pub body_keeps : {a : Activation} {tail : Bool} {es : Exprs} {s : State} {r : Result} {x : State} →
        Contains code a.instance → Sound s.acts s.startup → Body w a tail es s r x → Kept a.may_rest r x
    body_keeps there sound (empty g) = moved g (returned tt sound)
    body_keeps there sound (last d) = eval_keeps there sound d
    body_keeps there sound (next d f) = onward_keeps there (eval_keeps there sound d) f

    onward_keeps : {a : Activation} {tail : Bool} {es : Exprs} {q : Result} {s : State} {r : Result} {x : State} →
        Contains code a.instance → Kept a.may_rest q s → Onward w a tail es q s r x → Kept a.may_rest r x
    onward_keeps there kept (onward d) = body_keeps there kept.sound d
    onward_keeps there kept (body_ended end g) = moved g kept

    decided_keeps : {a : Activation} {tail : Bool} {c : Connective} {right : Exprs} {q : Result} {s : State} {r : Result}
        {x : State} →
        Contains code a.instance → Kept a.may_rest q s → Decided w a tail c right q s r x → Kept a.may_rest r x
    decided_keeps there kept (decided is g) = moved g kept
    decided_keeps there kept (undecided {s = s} is other d state_is) =
        replaced s.bindings state_is (body_keeps there kept.sound d)
    decided_keeps there kept (no_truth is g) = moved g (returned tt kept.sound)
    decided_keeps there kept (left_ended end g) = moved g kept

    cased_keeps : {a : Activation} {tail : Bool} {cs : Clauses} {q : Result} {s : State} {r : Result} {x : State} →
        Contains code a.instance → Kept a.may_rest q s → Cased w a tail cs q s r x → Kept a.may_rest r x
    cased_keeps there kept (cased d) = taken_keeps there tt kept.sound d
    cased_keeps there kept (subject_ended end g) = moved g kept

    taken_keeps : {a : Activation} {tail : Bool} {failure : Result} {found : Option (List Tree × Exprs)} {s : State}
        {r : Result} {x : State} →
        Contains code a.instance → Returns failure → Sound s.acts s.startup → Taken w a tail failure found s r x →
        Kept a.may_rest r x
    taken_keeps there returns sound (no_clause g) = moved g (returned returns sound)
    taken_keeps there returns sound (taken {s = s} d is) = replaced s.bindings is (body_keeps there sound d)

    applied_keeps : {a : Activation} {tail : Bool} {op : Operation} {v : Values} {s : State} {r : Result} {x : State} →
        Contains code a.instance → ValuesKept a.may_rest v s → Applied w a tail op v s r x → Kept a.may_rest r x
    applied_keeps there kept (operands_ended g) = moved g (record { rests_in = kept.rest_in; sound = kept.sound })
    applied_keeps there kept (tuple {ts = ts} g) = moved g (returned (made_returns (term.tuple ts)) kept.sound)
    applied_keeps there kept (list {ts = ts} g) = moved g (returned (made_returns (term.list ts)) kept.sound)
    applied_keeps there kept (cons {ts = ts} g) = moved g (returned (consed_returns ts) kept.sound)
    applied_keeps there kept (operator {o = o} {ts = ts} {s = s} g) =
        moved g (returned (operated_returns o ts) (after_keeps (sends o ts) s (sends_no_start o ts) kept.sound))
    applied_keeps there kept (built_in d) = built_in_keeps there kept.sound d
    applied_keeps {a = a} there kept (local {name = name} {ts = ts} d) = called_keeps
        (function_in code a.instance (function_of name (count ts) a.instance.forms) there) kept.sound d
    applied_keeps there kept (remote {m = m} {name = name} {ts = ts} d) = called_keeps
        (found_within w.code code (remote_function w m name (count ts)) within (remote_in w m name (count ts))) kept.sound d

    called_keeps : {a : Activation} {tail may : Bool} {name : List ℕ} {function : Option (Instance × Function)} {ts : Trees}
        {s : State} {r : Result} {x : State} →
        IsFoundIn code function → Sound s.acts s.startup → Called w a tail may name function ts s r x → Kept a.may_rest r x
    called_keeps there sound (too_many g) = moved g (returned tt sound)
    called_keeps there sound (undefined g) = moved g (returned tt sound)
    called_keeps there sound (called {a = a} {tail = tail} {i = i} {s = s} {s1 = s1} {r = r} d is) =
        let kept = entered_keeps (callee_in code a tail i there) sound d in
        replaced {s = s1} s.bindings is (record { rests_in = callee_rests code a tail i r kept.rests_in; sound = kept.sound })

    pub entered_keeps : {a : Activation} {nests : Bool} {name : List ℕ} {f : Definition} {ts : Trees} {s : State} {r : Result}
        {x : State} →
        Contains code a.instance → Sound s.acts s.startup → Entered w a nests name f ts s r x → Kept a.may_rest r x
    entered_keeps there sound (loop_elsewhere may_not g) = moved g (returned tt sound)
    entered_keeps there sound (loop_too_deep may g) = moved g (returned tt sound)
    entered_keeps there sound (loop {a = a} {name = name} {ps = ps} {gs = gs} {ts = ts} {s = s} may g) =
        moved g (record { rests_in = rested_in code a name ts (chosen w (head_of ps gs) ts s).0 may there; sound = sound })
    entered_keeps there sound (too_deep g) = moved g (returned tt sound)
    entered_keeps there sound (clauses d) = taken_keeps there tt sound d

    built_in_keeps : {a : Activation} {may : Bool} {f : BuiltIn} {ts : Trees} {s : State} {r : Result} {x : State} →
        Contains code a.instance → Sound s.acts s.startup → BuiltInCalled w a may f ts s r x → Kept a.may_rest r x
    built_in_keeps there sound (built_in_too_many g) = moved g (returned tt sound)
    built_in_keeps there sound (built_in_called d) = worked_keeps there sound d

    worked_keeps : {a : Activation} {way : Way} {f : BuiltIn} {ts : Trees} {s : State} {r : Result} {x : State} →
        Contains code a.instance → Sound s.acts s.startup → Worked w a way f ts s r x → Kept a.may_rest r x
    worked_keeps there sound (worked_at_once {f = f} {ts = ts} {s = s} g) =
        moved g (returned (given_returns w.pid f ts) (after_keeps (does f ts) s (does_no_start f ts) sound))
    worked_keeps there sound (named {ts = ts} {s = s} g) = moved g (register_keeps w.mode ts s sound)
    worked_keeps there sound (starts {starter = starter} {ts = ts} {s = s} d) =
        start_keeps (asks w starter s.startup ts) sound d

    start_keeps : {a : Activation} {starter : Starter} {request : Request} {s : State} {r : Result} {x : State} →
        Asks w request → Sound s.acts s.startup → Started w a starter request s r x → Kept a.may_rest r x
    start_keeps asked_for sound (refused_start g) = moved g (returned asked_for sound)
    start_keeps asked_for sound (started_by {starter = starter} {registered = registered} {i = i} {s = s} {s1 = s1} {q = q} d g) =
        moved g (started_keeps starter s.bindings i q s1 (within i asked_for.0)
        (entered_keeps (within i asked_for.0) (begun_keeps registered s asked_for.1 sound) d))
