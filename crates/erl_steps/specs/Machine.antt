-- The machine that evaluates: what is left to be done stands on a stack, so that no recursion is as deep as a program's calls.
--
-- Here it is a function of what comes next: what comes of that is what the rules say (`Leading`).
use Rattle.std.specs.Prelude.{ℕ, Bool, true, false, List, [], ◌∷◌, length, take, codes, slice_get, Option, None, Some}
use Rattle.std.specs.Option.{option_map_or}
use Rattle.erl_term.specs.Tree as term
use Rattle.erl_term.specs.Tree.{Tree, Trees, count}
use Rattle.erl_term.specs.Rows.{append_trees}
use Rattle.erl_ir.specs.declared.operation.BuiltIn.{BuiltIn}
use Rattle.erl_ir.specs.declared.operation.Connective.{Connective}
use Rattle.erl_ir.specs.declared.operation.Connective.TheVariants.{AndAlso, OrElse}
use Rattle.erl_ir.specs.declared.operation.Operation.{Operation}
use Rattle.erl_ir.specs.declared.operation.Operation.TheVariants as operation
use Rattle.erl_ir.specs.declared.function.Function.{Function}
use Rattle.erl_ir.specs.declared.function.Definition.{Definition}
use Rattle.erl_ir.specs.declared.function.Definition.TheVariants as definition
use Rattle.erl_ir.specs.Expression as form
use Rattle.erl_ir.specs.Expression.{Expr, Exprs, Guards, Clauses}
use Rattle.erl_ir.specs.Pattern.{Pat, Pats}
use Rattle.erl_semantics.specs.State as state
use Rattle.erl_semantics.specs.State.{Act, Instance, Place, Result, exit_by, exit_by_pair, made, bound_to, World, Activation, callee, State}
use Rattle.erl_semantics.specs.State.{with_bindings, after}
use Rattle.erl_semantics.specs.Operators.{operated, sends, truth_of, consed}
use Rattle.erl_semantics.specs.BuiltIns.{given, does, not_in_profile}
use Rattle.erl_semantics.specs.Matching.{matched}
use Rattle.erl_semantics.specs.Starting.{remote_function, Way, at_once, naming, starting, way_of, Starter}
use Rattle.erl_semantics.specs.Starting.{Request, refused, begin, asked, begun_by, first_activation, started, register_in_mode}
use Rattle.erl_semantics.specs.Evaluation.{may_call, counted, may_nest, local_function, rested, head_of, chosen, tried}

-- What is to be done with a value: it is an operand, behind the values of others and before other operands; or the rest of a
-- body is evaluated; a pattern is matched with it; a clause is selected by it; it decides a connective, or its right side
-- does; a clause ends, and only so many variables stay bound; a call ends; or what starts a process does.
pub data Frame : Type 0 where
  operands : Operation → Trees → Exprs → Frame
  onward : Exprs → Frame
  binding : Pat → Frame
  cases : Clauses → Frame
  deciding : Connective → Exprs → Frame
  scope : ℕ → Frame
  caller : List Tree → Activation → Frame
  starter : Starter → List Tree → Activation → List ℕ → Frame

-- nothing is left to be done for the call
abbrev pub is_tail : List Frame → Bool
is_tail [] = true
is_tail (operands op ts es ∷ fs) = false
is_tail (onward es ∷ fs) = false
is_tail (binding p ∷ fs) = false
is_tail (cases cs ∷ fs) = false
is_tail (deciding c right ∷ fs) = false
is_tail (scope n ∷ fs) = false
is_tail (caller env a ∷ fs) = true
is_tail (starter st env a m ∷ fs) = true

-- what comes next: an expression is evaluated, or a body; a value is given to what waits for it; the process rests, and who
-- started it is told; or evaluating has ended
pub data Control : Type 0 where
  evaluate : Expr → Control
  run : Exprs → Control
  give : Tree → Control
  settle : Place → Control
  end : Result → Control

-- the call that is evaluated, what is left to be done, and what changes
pub record Machine : Type 0 where
  pub activation : Activation
  pub frames : List Frame
  pub state : State

abbrev pub Next : Type 0
Next = Control × Machine

abbrev pub of_result : Result → Control
of_result (state.value t) = give t
of_result (state.rest p) = settle p
of_result (state.exit t) = end (state.exit t)

abbrev pub pushed : Frame → Machine → Machine
pushed f m = record m { frames = f ∷ m.frames }

abbrev pub in_state : State → Machine → Machine
in_state s m = record m { state = s }

-- a result and a state that are given at once
abbrev pub given_by : Result × State → Machine → Next
given_by given m = (of_result given.0, in_state given.1 m)

-- What a clause or a right side binds is bound in it alone; where nothing is left to be done for the call, nobody asks.

abbrev pub scoped_by : Bool → ℕ → List Frame → List Frame
scoped_by true n fs = fs
scoped_by false n fs = scope n ∷ fs

abbrev pub scoped : Machine → Machine
scoped m = record m { frames = scoped_by (is_tail m.frames) (length m.state.bindings) m.frames }

-- the clause that was selected, or the failure where none was
abbrev pub taken : Result → Option (List Tree × Exprs) → Machine → Next
taken failure None m = (end failure, m)
taken failure (Some (env, body)) m = (run body, in_state (with_bindings env m.state) (scoped m))

abbrev pub selecting : World → Result → Clauses → Trees → Machine → Next
selecting w failure cs ts m = taken failure (chosen w cs ts m.state).0 (in_state (tried w cs ts m.state) m)

-- a function is entered

abbrev pub resting : Bool → Bool → World → List ℕ → Pats → Guards → Trees → Machine → Next
resting false nests w name ps gs ts m = (end not_in_profile, m)
resting true false w name ps gs ts m = (end (exit_by (codes "system_limit")), m)
resting true true w name ps gs ts m = (
  of_result (rested m.activation name ts (chosen w (head_of ps gs) ts m.state).0),
  in_state (tried w (head_of ps gs) ts m.state) m,
)

abbrev pub entering : Bool → World → List ℕ → Definition → Trees → Machine → Next
entering nests w name (definition.Loop ps gs cs) ts m = resting m.activation.may_rest nests w name ps gs ts m
entering false w name (definition.Clauses cs) ts m = (end (exit_by (codes "system_limit")), m)
entering true w name (definition.Clauses cs) ts m = selecting w (exit_by (codes "function_clause")) cs ts m

abbrev pub entered : World → List ℕ → Definition → Trees → Machine → Next
entered w name f ts m = entering (may_nest m.activation) w name f ts m

-- a function is called: in tail position it takes its caller's place

abbrev pub into_by : Bool → Instance → Machine → Machine
into_by true i m =
    record { activation = callee m.activation true i; frames = m.frames; state = with_bindings [] m.state }
into_by false i m = record {
  activation = callee m.activation false i;
  frames = caller m.state.bindings m.activation ∷ m.frames;
  state = with_bindings [] m.state;
}

abbrev pub into : Instance → Machine → Machine
into i m = into_by (is_tail m.frames) i m

abbrev pub calling : Bool → World → List ℕ → Option (Instance × Function) → Trees → Machine → Next
calling false w name f ts m = (end (exit_by (codes "system_limit")), m)
calling true w name None ts m = (end (exit_by (codes "undef")), in_state (counted m.state) m)
calling true w name (Some (i, f)) ts m = entered w name f.definition ts (into i (in_state (counted m.state) m))

-- a process is started: its function is entered, and what comes of it is what the start gives

abbrev pub beginner : Starter → Option (List ℕ) → Instance → Machine → Machine
beginner st registered i m = record {
  activation = first_activation m.activation st i;
  frames = starter st m.state.bindings m.activation i.name ∷ m.frames;
  state = begun_by registered m.state;
}

abbrev pub starting_by : World → Starter → Request → Machine → Next
starting_by w st (refused q) m = (of_result q, m)
starting_by w st (begin registered i name f ts) m = entered w name f.definition ts (beginner st registered i m)

abbrev pub settled_by : World → Starter → List Tree → Activation → List ℕ → Result → Machine → Next
settled_by w st env a name r m = (
  of_result (started w st env name r m.state).0,
  record { activation = a; frames = m.frames; state = (started w st env name r m.state).1 },
)

-- a function that is built in is called

abbrev pub working : World → Way → BuiltIn → Trees → Machine → Next
working w at_once f ts m = (of_result (given w.pid f ts), in_state (after (does f ts) m.state) m)
working w naming f ts m = given_by (register_in_mode w w.mode ts m.state) m
working w (starting st) f ts m = starting_by w st (asked w st m.state.startup ts) m

abbrev pub calling_built_in : Bool → World → BuiltIn → Trees → Machine → Next
calling_built_in false w f ts m = (end (exit_by (codes "system_limit")), m)
calling_built_in true w f ts m = working w (way_of f) f ts (in_state (counted m.state) m)

-- what an operation makes of the values of its operands
abbrev pub applying : World → Operation → Trees → Machine → Next
applying w operation.Tuple ts m = (of_result (made (term.tuple ts)), m)
applying w operation.List ts m = (of_result (made (term.list ts)), m)
applying w operation.Cons ts m = (of_result (consed ts), m)
applying w (operation.Operator o) ts m = (of_result (operated o ts), in_state (after (sends o ts) m.state) m)
applying w (operation.BuiltIn f qualified) ts m = calling_built_in (may_call m.state) w f ts m
applying w (operation.Local name) ts m =
    calling (may_call m.state) w name (local_function m.activation.instance name (count ts)) ts m
applying w (operation.Remote called name) ts m =
    calling (may_call m.state) w name (remote_function w called name (count ts)) ts m

-- what an expression gives without any work, where it does: a literal its term, a variable what it is bound to
abbrev pub simple : Expr → State → Option Tree
simple (form.literal t) s = Some t
simple (form.variable index) s = slice_get s.bindings index
simple (form.apply op es) s = None
simple (form.match p body) s = None
simple (form.block body) s = None
simple (form.case subject cs) s = None
simple (form.short_circuit c left right) s = None

abbrev pub both : Option Tree → Option Tree → Option (Tree × Tree)
both None u = None
both (Some t) None = None
both (Some t) (Some u) = Some (t, u)

-- what two operands give without any work, where there are two and both do
abbrev pub simple_two : Exprs → State → Option (Tree × Tree)
simple_two form.none s = None
simple_two (form.more e form.none) s = None
simple_two (form.more e (form.more g form.none)) s = both (simple e s) (simple g s)
simple_two (form.more e (form.more g (form.more h es))) s = None

-- the value that is given, where one is and nothing is done
abbrev pub value_alone : Option Act → Result → Option Tree
value_alone None (state.value t) = Some t
value_alone None (state.rest p) = None
value_alone None (state.exit q) = None
value_alone (Some act) r = None

abbrev pub pair_of : Tree × Tree → Trees
pair_of p = term.more p.0 (term.more p.1 term.none)

-- what an operation makes of two values at once, where it does: an operator its value, if it has one and does nothing else
abbrev pub worked_out : Operation → Option (Tree × Tree) → Option Tree
worked_out (operation.Operator o) None = None
worked_out (operation.Operator o) (Some p) = value_alone (sends o (pair_of p)) (operated o (pair_of p))
worked_out operation.Tuple p = None
worked_out operation.List p = None
worked_out operation.Cons p = None
worked_out (operation.BuiltIn f qualified) p = None
worked_out (operation.Local name) p = None
worked_out (operation.Remote called name) p = None

-- What an expression gives at once, where it does: a literal its term, a variable what it is bound to, and an operator of two
-- of these its value.
abbrev pub known : Expr → State → Option Tree
known (form.literal t) s = Some t
known (form.variable index) s = slice_get s.bindings index
known (form.apply op es) s = worked_out op (simple_two es s)
known (form.match p body) s = None
known (form.block body) s = None
known (form.case subject cs) s = None
known (form.short_circuit c left right) s = None

-- Of the next operands those that give their values at once give them; the first that does not is evaluated; and behind the
-- last the operation is applied.
abbrev pub going_on : World → Operation → Trees → Exprs → Machine → Next
going_on w op ts form.none m = applying w op ts m
going_on w op ts (form.more e es) m =
    option_map_or (λ t. going_on w op (append_trees ts (term.more t term.none)) es m) (known e m.state)
    (evaluate e, pushed (operands op ts es) m)

-- an expression is evaluated
abbrev pub beginning : World → Expr → Machine → Next
beginning w (form.literal t) m = (give t, m)
beginning w (form.variable index) m = (of_result (bound_to (slice_get m.state.bindings index)), m)
beginning w (form.apply op es) m = going_on w op term.none es m
beginning w (form.match p body) m = (run body, pushed (binding p) m)
beginning w (form.block body) m = (run body, m)
beginning w (form.case subject cs) m = (run subject, pushed (cases cs) m)
beginning w (form.short_circuit c left right) m = (run left, pushed (deciding c right) m)

-- a body is evaluated
abbrev pub running : World → Exprs → Machine → Next
running w form.none m = (end (exit_by (codes "undef")), m)
running w (form.more e form.none) m = beginning w e m
running w (form.more e (form.more f es)) m = beginning w e (pushed (onward (form.more f es)) m)

-- what waits for a value is done with it

abbrev pub bound_by : Option (List Tree) → Tree → Machine → Next
bound_by None t m = (end (exit_by_pair (codes "badmatch") t), m)
bound_by (Some env) t m = (give t, in_state (with_bindings env m.state) m)

abbrev pub decided_by : Option Bool → Connective → Exprs → Tree → Machine → Next
decided_by None c right t m = (end (exit_by_pair (codes "badarg") t), m)
decided_by (Some true) AndAlso right t m = (run right, scoped m)
decided_by (Some true) OrElse right t m = (give t, m)
decided_by (Some false) AndAlso right t m = (give t, m)
decided_by (Some false) OrElse right t m = (run right, scoped m)

abbrev pub resuming : World → Frame → Tree → Machine → Next
resuming w (operands op ts es) t m = going_on w op (append_trees ts (term.more t term.none)) es m
resuming w (onward es) t m = (run es, m)
resuming w (binding p) t m = bound_by (matched p t m.state.bindings) t m
resuming w (cases cs) t m = selecting w (exit_by_pair (codes "case_clause") t) cs (term.more t term.none) m
resuming w (deciding c right) t m = decided_by (truth_of t) c right t m
resuming w (scope n) t m = (give t, in_state (with_bindings (take n m.state.bindings) m.state) m)
resuming w (caller env a) t m =
    (give t, record { activation = a; frames = m.frames; state = with_bindings env m.state })
resuming w (starter st env a name) t m = settled_by w st env a name (state.value t) m

-- the process rests: nothing waits for that but who started it

abbrev pub settling_at : World → Frame → Place → Machine → Next
settling_at w (operands op ts es) p m = (settle p, m)
settling_at w (onward es) p m = (settle p, m)
settling_at w (binding q) p m = (settle p, m)
settling_at w (cases cs) p m = (settle p, m)
settling_at w (deciding c right) p m = (settle p, m)
settling_at w (scope n) p m = (settle p, in_state (with_bindings (take n m.state.bindings) m.state) m)
settling_at w (caller env a) p m =
    (settle p, record { activation = a; frames = m.frames; state = with_bindings env m.state })
settling_at w (starter st env a name) p m = settled_by w st env a name (state.rest p) m

abbrev pub settling : World → Place → List Frame → Machine → Next
settling w p [] m = (end (state.rest p), m)
settling w p (f ∷ fs) m = settling_at w f p (record m { frames = fs })

abbrev pub giving : World → Tree → List Frame → Machine → Next
giving w t [] m = (end (state.value t), m)
giving w t (f ∷ fs) m = resuming w f t (record m { frames = fs })

abbrev pub stepping : World → Control → Machine → Next
stepping w (evaluate e) m = beginning w e m
stepping w (run es) m = running w es m
stepping w (give t) m = giving w t m.frames m
stepping w (settle p) m = settling w p m.frames m
stepping w (end r) m = (end r, m)
