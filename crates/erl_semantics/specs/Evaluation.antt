-- What comes of expressions (Erlang Reference Manual, Expressions; sentences in quotes are its).
--
-- Each rule says what comes of an expression in a call, with some bindings, calls and acts before it: a result, and what is
-- bound, called and done behind it. An end, which is a rest or an exit, ends what it stands in.
use Rattle.std.specs.Prelude.{◌≡◌, ℕ, ◌+◌, Bool, true, false, nat_le, nat_lt, List, [], codes}
use Rattle.std.specs.Prelude.{Option, None, Some, slice_get, option_map}
use Rattle.erl_term.specs.Tree as term
use Rattle.erl_term.specs.Tree.{Tree, Trees, count}
use Rattle.erl_ir.specs.declared.operation.Connective.{Connective}
use Rattle.erl_ir.specs.declared.operation.Operator.{Operator}
use Rattle.erl_ir.specs.declared.operation.BuiltIn.{BuiltIn}
use Rattle.erl_ir.specs.declared.operation.Operation.{Operation}
use Rattle.erl_ir.specs.declared.operation.Operation.TheVariants as operation
use Rattle.erl_ir.specs.declared.function.Function.{Function}
use Rattle.erl_ir.specs.declared.function.Definition.{Definition}
use Rattle.erl_ir.specs.declared.function.Definition.TheVariants as definition
use Rattle.erl_ir.specs.Module.{function_of}
use Rattle.erl_ir.specs.Pattern.{Pat, Pats}
use Rattle.erl_ir.specs.Expression as form
use Rattle.erl_ir.specs.Expression.{Expr, Exprs, Guards, Clauses}
use Rattle.erl_semantics.specs.State.{Instance, Result, IsEnd, exit_by, exit_by_pair, made, bound_to, World, Activation}
use Rattle.erl_semantics.specs.State.{callee, State, with_bindings, with_calls, after}
use Rattle.erl_semantics.specs.State as state
use Rattle.erl_semantics.specs.Operators.{operated, sends, truth_of, consed}
use Rattle.erl_semantics.specs.BuiltIns.{given, does, not_in_profile}
use Rattle.erl_semantics.specs.Matching.{matched}
use Rattle.erl_semantics.specs.Guards.{Values, all, stopped, with_first, decisive, Selection, selected}
use Rattle.erl_semantics.specs.Starting.{remote_function, Starter, Way, at_once, naming, starting, way_of, Request, refused, begin}
use Rattle.erl_semantics.specs.Starting.{asked, begun_by, started, first_activation, register_in_mode}

-- this result, and this state
abbrev pub Gives : Result → State → Result → State → Type 0
Gives r s' q t = (r ≡ q) × (s' ≡ t)

-- "Pattern = Expr": what the pattern binds is bound behind it, "if the matching succeeds"; else a `badmatch` error occurs.

abbrev pub bound : Option (List Tree) → Tree → State → Result × State
bound None t s = (exit_by_pair (codes "badmatch") t, s)
bound (Some env) t s = (state.value t, with_bindings env s)

-- a match, by what its right side gives
pub data Bound : Pat → Result → State → Result → State → Type 0 where
  matched_to : {p : Pat} {t : Tree} {s : State} {r : Result} {s' : State} →
      Gives r s' (bound (matched p t s.bindings) t s).0 (bound (matched p t s.bindings) t s).1 →
      Bound p (state.value t) s r s'
  right_ended : {p : Pat} {q : Result} {s : State} {r : Result} {s' : State} → IsEnd q → Gives r s' q s → Bound p q s r s'

-- A call is counted when its arguments are evaluated, before all else of it: 10,000 of them are within the limits.

abbrev pub may_call : State → Bool
may_call s = nat_lt s.calls 10000

abbrev pub counted : State → State
counted s = with_calls (s.calls + 1) s

-- Calls may be nested 200 deep. A function that isn't there isn't entered, and so isn't nested.
abbrev pub may_nest : Activation → Bool
may_nest a = nat_le a.nesting 200

-- a function of the same instance, whether it is exported or not
abbrev pub local_function : Instance → List ℕ → ℕ → Option (Instance × Function)
local_function i name arity = option_map (λ f. (i, f)) (function_of name arity i.forms)

-- What a call of a loop function gives where its head was tried: its process rests, with the arguments.
abbrev pub rested : Activation → List ℕ → Trees → Option (List Tree × Exprs) → Result
rested a name ts None = exit_by (codes "function_clause")
rested a name ts (Some found) = state.rest (state.loop a.instance.name a.instance.serial name ts)

-- the head of a loop function, tried on its arguments as a clause
abbrev pub head_of : Pats → Guards → Clauses
head_of ps gs = form.clause ps gs form.none form.no_clauses

module _ (w : World) where
  -- The clause that is selected of clauses, for terms: its bindings and body, and the state behind the guards that were tried.

  abbrev pub chosen : Clauses → Trees → State → Selection
  chosen cs ts s = selected w.pid s.bindings cs ts s.calls

  abbrev pub tried : Clauses → Trees → State → State
  tried cs ts s = with_calls (chosen cs ts s).1 s

  mutual
    -- An expression, in tail position or not.
    pub data Eval : Activation → Bool → Expr → State → Result → State → Type 0 where
      -- A literal is its own value.
      literal : {a : Activation} {tail : Bool} {t : Tree} {s : State} {r : Result} {s' : State} →
          Gives r s' (state.value t) s → Eval a tail (form.literal t) s r s'
      -- "If a variable is bound to a value, the return value is this value."
      variable : {a : Activation} {tail : Bool} {index : ℕ} {s : State} {r : Result} {s' : State} →
          Gives r s' (bound_to (slice_get s.bindings index)) s → Eval a tail (form.variable index) s r s'
      -- "all subexpressions are evaluated before an expression itself is evaluated"
      apply : {a : Activation} {tail : Bool} {op : Operation} {es : Exprs} {s s1 s2 : State} {v : Values} {r : Result} →
          Operands a es s v s1 → Applied a tail op v s1 r s2 → Eval a tail (form.apply op es) s r s2
      -- "Pattern = Expr"
      match : {a : Activation} {tail : Bool} {p : Pat} {body : Exprs} {s s1 s2 : State} {q r : Result} →
          Body a false body s q s1 → Bound p q s1 r s2 → Eval a tail (form.match p body) s r s2
      -- "Block expressions provide a way to group a sequence of expressions": its bindings are bound behind it.
      block : {a : Activation} {tail : Bool} {body : Exprs} {s s1 : State} {r : Result} →
          Body a tail body s r s1 → Eval a tail (form.block body) s r s1
      -- "The expression Expr is evaluated and the patterns Pattern are sequentially matched against the result."
      case : {a : Activation} {tail : Bool} {subject : Exprs} {cs : Clauses} {s s1 s2 : State} {q r : Result} →
          Body a false subject s q s1 → Cased a tail cs q s1 r s2 → Eval a tail (form.case subject cs) s r s2
      -- "Expr2 is evaluated only if necessary."
      short_circuit : {a : Activation} {tail : Bool} {c : Connective} {left right : Exprs} {s s1 s2 : State} {q r : Result} →
          Body a false left s q s1 → Decided a tail c right q s1 r s2 →
          Eval a tail (form.short_circuit c left right) s r s2

    -- Operands, from left to right. What one binds is bound behind it.
    pub data Operands : Activation → Exprs → State → Values → State → Type 0 where
      no_operands : {a : Activation} {s s' : State} {v : Values} →
          v ≡ all term.none → s' ≡ s → Operands a form.none s v s'
      operand : {a : Activation} {e : Expr} {es : Exprs} {s s1 s2 : State} {q : Result} {v : Values} →
          Eval a false e s q s1 → Others a es q s1 v s2 → Operands a (form.more e es) s v s2

    -- the other operands, behind one
    pub data Others : Activation → Exprs → Result → State → Values → State → Type 0 where
      others : {a : Activation} {es : Exprs} {t : Tree} {s s1 : State} {v u : Values} →
          Operands a es s u s1 → v ≡ with_first t u → Others a es (state.value t) s v s1
      operand_ended : {a : Activation} {es : Exprs} {q : Result} {s s' : State} {v : Values} →
          IsEnd q → v ≡ stopped q → s' ≡ s → Others a es q s v s'

    -- A body: "Expr1, ..., ExprN: the expressions are evaluated sequentially; the return value is that of the last."
    pub data Body : Activation → Bool → Exprs → State → Result → State → Type 0 where
      -- a body without expressions never comes of a source
      empty : {a : Activation} {tail : Bool} {s : State} {r : Result} {s' : State} →
          Gives r s' (exit_by (codes "undef")) s → Body a tail form.none s r s'
      last : {a : Activation} {tail : Bool} {e : Expr} {s s1 : State} {r : Result} →
          Eval a tail e s r s1 → Body a tail (form.more e form.none) s r s1
      next : {a : Activation} {tail : Bool} {e f : Expr} {es : Exprs} {s s1 s2 : State} {q r : Result} →
          Eval a false e s q s1 → Onward a tail (form.more f es) q s1 r s2 →
          Body a tail (form.more e (form.more f es)) s r s2

    -- the rest of a body, behind an expression
    pub data Onward : Activation → Bool → Exprs → Result → State → Result → State → Type 0 where
      onward : {a : Activation} {tail : Bool} {es : Exprs} {t : Tree} {s s1 : State} {r : Result} →
          Body a tail es s r s1 → Onward a tail es (state.value t) s r s1
      body_ended : {a : Activation} {tail : Bool} {es : Exprs} {q : Result} {s : State} {r : Result} {s' : State} →
          IsEnd q → Gives r s' q s → Onward a tail es q s r s'

    -- What a connective gives once its left side is evaluated. The right side is in tail position, may give any value, and
    -- binds nothing behind the whole.
    pub data Decided : Activation → Bool → Connective → Exprs → Result → State → Result → State → Type 0 where
      decided : {a : Activation} {tail : Bool} {c : Connective} {right : Exprs} {t : Tree} {s : State} {r : Result} {s' : State} →
          truth_of t ≡ Some (decisive c) → Gives r s' (state.value t) s → Decided a tail c right (state.value t) s r s'
      undecided : {a : Activation} {tail : Bool} {c : Connective} {right : Exprs} {t : Tree} {b : Bool} {s s1 : State}
          {r : Result} {s' : State} →
          truth_of t ≡ Some b → ¬ (b ≡ decisive c) → Body a tail right s r s1 → s' ≡ with_bindings s.bindings s1 →
          Decided a tail c right (state.value t) s r s'
      no_truth : {a : Activation} {tail : Bool} {c : Connective} {right : Exprs} {t : Tree} {s : State} {r : Result}
          {s' : State} →
          truth_of t ≡ None → Gives r s' (exit_by_pair (codes "badarg") t) s → Decided a tail c right (state.value t) s r s'
      left_ended : {a : Activation} {tail : Bool} {c : Connective} {right : Exprs} {q : Result} {s : State} {r : Result}
          {s' : State} →
          IsEnd q → Gives r s' q s → Decided a tail c right q s r s'

    -- The clauses of a `case`, once its subject is evaluated: "If there is no matching pattern with a true guard sequence, a
    -- case_clause run-time error occurs."
    pub data Cased : Activation → Bool → Clauses → Result → State → Result → State → Type 0 where
      cased : {a : Activation} {tail : Bool} {cs : Clauses} {t : Tree} {s s1 : State} {r : Result} →
          Taken a tail (exit_by_pair (codes "case_clause") t) (chosen cs (term.more t term.none) s).0
          (tried cs (term.more t term.none) s) r s1 →
          Cased a tail cs (state.value t) s r s1
      subject_ended : {a : Activation} {tail : Bool} {cs : Clauses} {q : Result} {s : State} {r : Result} {s' : State} →
          IsEnd q → Gives r s' q s → Cased a tail cs q s r s'

    -- The body of the clause that was selected, or the failure where none was. What it binds is bound in it alone.
    pub data Taken : Activation → Bool → Result → Option (List Tree × Exprs) → State → Result → State → Type 0 where
      no_clause : {a : Activation} {tail : Bool} {failure : Result} {s : State} {r : Result} {s' : State} →
          Gives r s' failure s → Taken a tail failure None s r s'
      taken : {a : Activation} {tail : Bool} {failure : Result} {env : List Tree} {body : Exprs} {s s1 : State} {r : Result}
          {s' : State} →
          Body a tail body (with_bindings env s) r s1 → s' ≡ with_bindings s.bindings s1 →
          Taken a tail failure (Some (env, body)) s r s'

    -- What an operation makes of the values of its operands.
    pub data Applied : Activation → Bool → Operation → Values → State → Result → State → Type 0 where
      operands_ended : {a : Activation} {tail : Bool} {op : Operation} {q : Result} {s : State} {r : Result} {s' : State} →
          Gives r s' q s → Applied a tail op (stopped q) s r s'
      tuple : {a : Activation} {tail : Bool} {ts : Trees} {s : State} {r : Result} {s' : State} →
          Gives r s' (made (term.tuple ts)) s → Applied a tail operation.Tuple (all ts) s r s'
      list : {a : Activation} {tail : Bool} {ts : Trees} {s : State} {r : Result} {s' : State} →
          Gives r s' (made (term.list ts)) s → Applied a tail operation.List (all ts) s r s'
      cons : {a : Activation} {tail : Bool} {ts : Trees} {s : State} {r : Result} {s' : State} →
          Gives r s' (consed ts) s → Applied a tail operation.Cons (all ts) s r s'
      operator : {a : Activation} {tail : Bool} {o : Operator} {ts : Trees} {s : State} {r : Result} {s' : State} →
          Gives r s' (operated o ts) (after (sends o ts) s) → Applied a tail (operation.Operator o) (all ts) s r s'
      built_in : {a : Activation} {tail : Bool} {f : BuiltIn} {qualified : Bool} {ts : Trees} {s s1 : State} {r : Result} →
          BuiltInCalled a (may_call s) f ts s r s1 →
          Applied a tail (operation.BuiltIn f qualified) (all ts) s r s1
      -- "Name(Args)": a function of the same instance
      local : {a : Activation} {tail : Bool} {name : List ℕ} {ts : Trees} {s s1 : State} {r : Result} →
          Called a tail (may_call s) name (local_function a.instance name (count ts)) ts s r s1 →
          Applied a tail (operation.Local name) (all ts) s r s1
      -- "ModuleName:FunctionName(Args)": an exported function of the module's current code
      remote : {a : Activation} {tail : Bool} {m name : List ℕ} {ts : Trees} {s s1 : State} {r : Result} →
          Called a tail (may_call s) name (remote_function w m name (count ts)) ts s r s1 →
          Applied a tail (operation.Remote m name) (all ts) s r s1

    -- A call: it is counted, and its function is entered.
    pub data Called : Activation → Bool → Bool → List ℕ → Option (Instance × Function) → Trees → State → Result → State →
        Type 0 where
      too_many : {a : Activation} {tail : Bool} {name : List ℕ} {function : Option (Instance × Function)} {ts : Trees} {s : State}
          {r : Result} {s' : State} →
          Gives r s' (exit_by (codes "system_limit")) s → Called a tail false name function ts s r s'
      undefined : {a : Activation} {tail : Bool} {name : List ℕ} {ts : Trees} {s : State} {r : Result} {s' : State} →
          Gives r s' (exit_by (codes "undef")) (counted s) → Called a tail true name None ts s r s'
      called : {a : Activation} {tail : Bool} {name : List ℕ} {i : Instance} {f : Function} {ts : Trees} {s s1 : State}
          {r : Result} {s' : State} →
          Entered (callee a tail i) (may_nest (callee a tail i)) name f.definition ts (with_bindings [] (counted s)) r s1 →
          s' ≡ with_bindings s.bindings s1 → Called a tail true name (Some (i, f)) ts s r s'

    -- A function with its arguments. A loop function rests its process, where the process may rest here: else it is outside
    -- of the profile, whether its head takes the arguments or not.
    pub data Entered : Activation → Bool → List ℕ → Definition → Trees → State → Result → State → Type 0 where
      loop_elsewhere : {a : Activation} {nests : Bool} {name : List ℕ} {ps : Pats} {gs : Guards} {cs : Clauses} {ts : Trees}
          {s : State} {r : Result} {s' : State} →
          a.may_rest ≡ false → Gives r s' not_in_profile s → Entered a nests name (definition.Loop ps gs cs) ts s r s'
      loop_too_deep : {a : Activation} {name : List ℕ} {ps : Pats} {gs : Guards} {cs : Clauses} {ts : Trees} {s : State}
          {r : Result} {s' : State} →
          a.may_rest ≡ true → Gives r s' (exit_by (codes "system_limit")) s →
          Entered a false name (definition.Loop ps gs cs) ts s r s'
      loop : {a : Activation} {name : List ℕ} {ps : Pats} {gs : Guards} {cs : Clauses} {ts : Trees} {s : State}
          {r : Result} {s' : State} →
          a.may_rest ≡ true →
          Gives r s' (rested a name ts (chosen (head_of ps gs) ts s).0) (tried (head_of ps gs) ts s) →
          Entered a true name (definition.Loop ps gs cs) ts s r s'
      too_deep : {a : Activation} {name : List ℕ} {cs : Clauses} {ts : Trees} {s : State} {r : Result} {s' : State} →
          Gives r s' (exit_by (codes "system_limit")) s → Entered a false name (definition.Clauses cs) ts s r s'
      clauses : {a : Activation} {name : List ℕ} {cs : Clauses} {ts : Trees} {s s1 : State} {r : Result} →
          Taken a true (exit_by (codes "function_clause")) (chosen cs ts s).0 (tried cs ts s) r s1 →
          Entered a true name (definition.Clauses cs) ts s r s1

    -- A call of a function that is built in: it is counted too.
    pub data BuiltInCalled : Activation → Bool → BuiltIn → Trees → State → Result → State → Type 0 where
      built_in_too_many : {a : Activation} {f : BuiltIn} {ts : Trees} {s : State} {r : Result} {s' : State} →
          Gives r s' (exit_by (codes "system_limit")) s → BuiltInCalled a false f ts s r s'
      built_in_called : {a : Activation} {f : BuiltIn} {ts : Trees} {s s1 : State} {r : Result} →
          Worked a (way_of f) f ts (counted s) r s1 → BuiltInCalled a true f ts s r s1

    pub data Worked : Activation → Way → BuiltIn → Trees → State → Result → State → Type 0 where
      worked_at_once : {a : Activation} {f : BuiltIn} {ts : Trees} {s : State} {r : Result} {s' : State} →
          Gives r s' (given w.pid f ts) (after (does f ts) s) → Worked a at_once f ts s r s'
      named : {a : Activation} {f : BuiltIn} {ts : Trees} {s : State} {r : Result} {s' : State} →
          Gives r s' (register_in_mode w w.mode ts s).0 (register_in_mode w w.mode ts s).1 → Worked a naming f ts s r s'
      starts : {a : Activation} {starter : Starter} {f : BuiltIn} {ts : Trees} {s s1 : State} {r : Result} →
          Started a starter (asked w starter s.startup ts) s r s1 → Worked a (starting starter) f ts s r s1

    -- A process is started: its function is evaluated until the process rests, or `init` has answered.
    pub data Started : Activation → Starter → Request → State → Result → State → Type 0 where
      refused_start : {a : Activation} {starter : Starter} {q : Result} {s : State} {r : Result} {s' : State} →
          Gives r s' q s → Started a starter (refused q) s r s'
      started_by : {a : Activation} {starter : Starter} {registered : Option (List ℕ)} {i : Instance} {name : List ℕ}
          {f : Function} {ts : Trees} {s s1 : State} {q r : Result} {s' : State} →
          Entered (first_activation a starter i) (may_nest (first_activation a starter i)) name f.definition ts
          (begun_by registered s) q s1 →
          Gives r s' (started w starter s.bindings i.name q s1).0 (started w starter s.bindings i.name q s1).1 →
          Started a starter (begin registered i name f ts) s r s'
