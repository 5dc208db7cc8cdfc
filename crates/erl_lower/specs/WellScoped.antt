-- Modules that are well scoped: each variable is read where it is bound (Erlang Reference Manual, Expressions, Variables and
-- Match Operator; Pattern Matching; sentences in quotes are its).
--
-- A state is how many variables are bound, n: these have the indices 0 to n - 1, and the next one that is bound gets index n.
use Rattle.std.specs.Prelude.{◌≡◌, ℕ, ◌+◌, ◌<◌, All}
use Rattle.erl_term.specs.Tree.{Tree}
use Rattle.erl_ir.specs.declared.operation.Connective.{Connective}
use Rattle.erl_ir.specs.declared.operation.Operation.{Operation}
use Rattle.erl_ir.specs.declared.function.Definition.{Definition}
use Rattle.erl_ir.specs.declared.function.Definition.TheVariants as definition
use Rattle.erl_ir.specs.Pattern as pattern
use Rattle.erl_ir.specs.Pattern.{Pat, Pats, pat_count}
use Rattle.erl_ir.specs.Expression as form
use Rattle.erl_ir.specs.Expression.{Expr, Exprs, Guards, Clauses}
use Rattle.erl_ir.specs.Module.{Forms}

-- Patterns are matched from left to right.
mutual
  -- `PatternBinds n p m`: where n variables are bound, p may be matched, and behind it m are bound.
  pub data PatternBinds : ℕ → Pat → ℕ → Type 0 where
    constant : {n : ℕ} {t : Tree} → PatternBinds n (pattern.literal t) n
    -- a variable that is bound is compared
    compared : {n index : ℕ} → index < n → PatternBinds n (pattern.variable index) n
    -- "any unbound variable in the pattern becomes bound": it gets the next index
    fresh : {n : ℕ} → PatternBinds n (pattern.variable n) (n + 1)
    -- `_` binds nothing
    anything : {n : ℕ} → PatternBinds n pattern.anything n
    tuple : {n m : ℕ} {ps : Pats} → PatternsBind n ps m → PatternBinds n (pattern.tuple ps) m
    list : {n m : ℕ} {ps : Pats} → PatternsBind n ps m → PatternBinds n (pattern.list ps) m
    cons : {n m : ℕ} {ps : Pats} → PatternsBind n ps m → PatternBinds n (pattern.cons ps) m
    alias : {n m : ℕ} {ps : Pats} → PatternsBind n ps m → PatternBinds n (pattern.alias ps) m

  -- patterns in a row: what one binds is bound for those behind it
  pub data PatternsBind : ℕ → Pats → ℕ → Type 0 where
    no_pattern : {n : ℕ} → PatternsBind n pattern.none n
    next_pattern : {n k m : ℕ} {p : Pat} {ps : Pats} →
        PatternBinds n p k → PatternsBind k ps m → PatternsBind n (pattern.more p ps) m

-- Expressions are evaluated from left to right, each after its parts.
mutual
  -- `ExprBinds n e m`: where n variables are bound, e may be evaluated, and behind it m are bound.
  pub data ExprBinds : ℕ → Expr → ℕ → Type 0 where
    literal : {n : ℕ} {t : Tree} → ExprBinds n (form.literal t) n
    -- a variable is read where it is bound
    variable : {n index : ℕ} → index < n → ExprBinds n (form.variable index) n
    apply : {n m : ℕ} {op : Operation} {es : Exprs} → ExprsBind n es m → ExprBinds n (form.apply op es) m
    -- `P = E`: first E is evaluated, then P is matched
    match : {n k m : ℕ} {p : Pat} {body : Exprs} →
        ExprsBind n body k → PatternBinds k p m → ExprBinds n (form.match p body) m
    block : {n m : ℕ} {body : Exprs} → ExprsBind n body m → ExprBinds n (form.block body) m
    -- behind a `case` is bound what its subject binds, and nothing that a clause binds
    case : {n m : ℕ} {subject : Exprs} {cs : Clauses} →
        ExprsBind n subject m → ClausesSee m cs → ExprBinds n (form.case subject cs) m
    -- `B1 andalso B2`, `B1 orelse B2`: B2 sees what B1 binds; behind the whole nothing is bound that B2 binds
    short_circuit : {n m k : ℕ} {c : Connective} {left right : Exprs} →
        ExprsBind n left m → ExprsBind m right k → ExprBinds n (form.short_circuit c left right) m

  -- expressions in a row: what one binds is bound for those behind it
  pub data ExprsBind : ℕ → Exprs → ℕ → Type 0 where
    no_expression : {n : ℕ} → ExprsBind n form.none n
    next_expression : {n k m : ℕ} {e : Expr} {es : Exprs} →
        ExprBinds n e k → ExprsBind k es m → ExprsBind n (form.more e es) m

  -- `GuardsSee n gs`: each guard may be evaluated where n variables are bound. Nothing that its tests bind is bound behind it:
  -- no other guard sees it, nor does the body.
  pub data GuardsSee : ℕ → Guards → Type 0 where
    no_guard : {n : ℕ} → GuardsSee n form.no_guards
    next_guard : {n m : ℕ} {tests : Exprs} {gs : Guards} →
        ExprsBind n tests m → GuardsSee n gs → GuardsSee n (form.guard tests gs)

  -- `ClausesSee n cs`: each clause may be tried where n variables are bound. What its patterns bind is bound for its guard and
  -- its body, and for no other clause.
  pub data ClausesSee : ℕ → Clauses → Type 0 where
    no_clause : {n : ℕ} → ClausesSee n form.no_clauses
    next_clause : {n m k : ℕ} {ps : Pats} {gs : Guards} {body : Exprs} {cs : Clauses} →
        PatternsBind n ps m → GuardsSee m gs → ExprsBind m body k → ClausesSee n cs →
        ClausesSee n (form.clause ps gs body cs)

-- Nothing is bound before the head of a clause. The clauses of a loop function's `receive` see what its head binds.
abbrev pub IsScoped : Definition → Type 0
IsScoped (definition.Clauses cs) = ClausesSee 0 cs
IsScoped (definition.Loop ps gs cs) = (n : ℕ) × PatternsBind 0 ps n × GuardsSee n gs × ClausesSee n cs

-- each function of a module is well scoped
abbrev pub IsWellScoped : Forms → Type 0
IsWellScoped m = All (λ f. IsScoped f.1.definition) m.functions

-- clauses with so many patterns each
abbrev pub HavePatterns : ℕ → Clauses → Type 0
HavePatterns arity form.no_clauses = Unit {0}
HavePatterns arity (form.clause ps gs body cs) = (pat_count ps ≡ arity) × HavePatterns arity cs

-- A function with so many arguments: each of its clauses has as many patterns. A clause of a `receive` has one.
abbrev pub HasArity : ℕ → Definition → Type 0
HasArity arity (definition.Clauses cs) = HavePatterns arity cs
HasArity arity (definition.Loop ps gs cs) = (pat_count ps ≡ arity) × HavePatterns 1 cs

-- so has each function of a module, which is called by its name and the number of its arguments
abbrev pub HasArities : Forms → Type 0
HasArities m = All (λ f. HasArity f.0.1 f.1.definition) m.functions
