-- Evaluation of sound code is regular: by the parts of each expression, with what is bound behind them.
use Rattle.std.specs.Prelude.{◌≡◌, ℕ, ◌+◌, ◌≤◌, ◌==◌, ◌&&◌, nat_le, Bool, true, false, cond, if◌then◌else◌, List, [], ◌∷◌, length}
use Rattle.std.specs.Prelude.{Option, None, Some, is_some, option_map, option_and_then, All, Contains, IsTrue, codes, refl}
use Rattle.std.specs.Map.{lookup}
use Rattle.std.specs.Str.{bytes_eq}
use Rattle.std.proofs.Common.{arith, rules, ap, sym, subst, ◌∙◌}
use Rattle.std.proofs.lemmas.List.Elements.{All-head, All-tail}
use Rattle.erl_term.specs.Tree as term
use Rattle.erl_term.specs.Tree.{Tree, Trees, count}
use Rattle.erl_ir.specs.declared.operation.BuiltIn.{BuiltIn}
use Rattle.erl_ir.specs.declared.operation.Connective.{Connective}
use Rattle.erl_ir.specs.declared.operation.Operation.{Operation}
use Rattle.erl_ir.specs.declared.function.Function.{Function}
use Rattle.erl_ir.specs.declared.function.Definition.{Definition}
use Rattle.erl_ir.specs.Module.{Key, Forms, key_eq, exported_of, function_of, if_exported}
use Rattle.erl_ir.specs.Pattern.{Pat}
use Rattle.erl_ir.specs.Expression.{Expr, Exprs, Clauses, expr_count}
use Rattle.erl_lower.specs.WellScoped as scoped
use Rattle.erl_lower.specs.WellScoped.{PatternBinds, ExprBinds, ExprsBind, ClausesSee, IsScoped, HavePatterns, HasArity}
use Rattle.erl_semantics.specs.State.{Instance, Act, Result, value, rest, exit, IsEnd, World, Mode, plain, start_mode, Activation, State}
use Rattle.erl_semantics.specs.State.{current, callee, with_bindings, after, Startup}
use Rattle.erl_semantics.specs.Operators.{sends, truth}
use Rattle.erl_semantics.specs.BuiltIns.{does, not_in_profile}
use Rattle.erl_semantics.specs.Matching.{matched}
use Rattle.erl_semantics.specs.Guards.{Values, all, stopped, with_first}
use Rattle.erl_semantics.specs.Starting.{exported_by, remote_function, Starter, spawn, start_link, Way, Request, refused, begin}
use Rattle.erl_semantics.specs.Starting.{begin_or_undef, first_start, in_start_mode, spawn_asked, init_asked, local_name, named_asked}
use Rattle.erl_semantics.specs.Starting.{start_link_asked, asked, spawned, Initialized, begun, ignored, failed, initialized}
use Rattle.erl_semantics.specs.Starting.{linked_by, linked, registered_as, register_in, register_asked, register_in_mode}
use Rattle.erl_semantics.specs.Starting as starting
use Rattle.erl_semantics.specs.Evaluation.{Gives, Bound, bound, Eval, Operands, Others, Body, Onward, Decided, Cased, Taken, Applied}
use Rattle.erl_semantics.specs.Evaluation.{Called, Entered, BuiltInCalled, Worked, Started, matched_to, right_ended, literal, variable}
use Rattle.erl_semantics.specs.Evaluation.{apply, match, block, case, short_circuit, no_operands, operand, others, operand_ended}
use Rattle.erl_semantics.specs.Evaluation.{empty, last, next, onward, body_ended, decided, undecided, no_truth, left_ended, cased}
use Rattle.erl_semantics.specs.Evaluation.{subject_ended, no_clause, taken, operands_ended, tuple, list, cons, operator, built_in}
use Rattle.erl_semantics.specs.Evaluation.{local, remote, too_many, undefined, called, loop_elsewhere, loop_too_deep, loop}
use Rattle.erl_semantics.specs.Evaluation.{too_deep, clauses, built_in_too_many, built_in_called, worked_at_once, named, starts}
use Rattle.erl_semantics.specs.Evaluation.{refused_start, started_by}
use Rattle.erl_semantics.proofs.Kept.{contains_first, contains_more}
use Rattle.erl_semantics.proofs.Options.{some_none, some_injective}
use Rattle.source_laws.specs.Formed.{is_of, is_defined, takes, operands_of, AreFormed, AreFormedClauses, IsFormed, IsFormedFunction}
use Rattle.source_laws.specs.Laws.{IsSound}
use Rattle.source_laws.specs.Regular.{MatchIsRegular, EvalIsRegular, OperandsAreRegular, OthersAreRegular, BodyIsRegular, RestIsRegular}
use Rattle.source_laws.specs.Regular.{DecisionIsRegular, CaseIsRegular, BranchIsRegular, ApplicationIsRegular, CallIsRegular}
use Rattle.source_laws.specs.Regular.{EntryIsRegular, BuiltInIsRegular, WorkIsRegular, StartIsRegular}
use Rattle.source_laws.proofs.Matching.{within, leaves, may_match, may_match_each, may_guard, may_try, FoundIsReady, selected_ready}
use Rattle.source_laws.proofs.Matching.{each_leaves}

-- So many variables are bound behind a value.
abbrev pub Leaves : ℕ → Result → State → Type 0
Leaves m (value t) s = length s.bindings ≡ m
Leaves m (rest p) s = Unit {0}
Leaves m (exit t) s = Unit {0}

-- and behind the values of so many operands
abbrev ValuesLeave : ℕ → ℕ → Values → State → Type 0
ValuesLeave m k (all ts) s = (length s.bindings ≡ m) × (count ts ≡ k)
ValuesLeave m k (stopped q) s = IsEnd q

any_leaves : (m : ℕ) (r : Result) (s : State) → length s.bindings ≡ m → Leaves m r s
any_leaves m (value t) s at = at
any_leaves m (rest p) s at = tt
any_leaves m (exit t) s at = tt

end_leaves : (m : ℕ) (q : Result) (s : State) → IsEnd q → Leaves m q s
end_leaves m (value t) s end = absurd end
end_leaves m (rest p) s end = tt
end_leaves m (exit t) s end = tt

stays : {m : ℕ} {r q : Result} {x s : State} → Gives r x q s → length s.bindings ≡ m → Leaves m r x
stays {m} {r} {q} {x} {s} g at = any_leaves m r x (ap (λ y. length y.bindings) g.1 ∙ at)

-- with these bindings again
returns : {m : ℕ} {x : State} (s t : State) (r : Result) → x ≡ with_bindings s.bindings t → length s.bindings ≡ m → Leaves m r x
returns {m} {x} s t r is at = any_leaves m r x (ap (λ y. length y.bindings) is ∙ at)

ended : (m : ℕ) {r q : Result} {x s : State} → Gives r x q s → IsEnd q → Leaves m r x
ended m {r} {q} {x} {s} g end = subst (λ y. Leaves m y x) (sym g.0) (end_leaves m q x end)

first_leaves : (m k : ℕ) {v : Values} (x : State) (t : Tree) (u : Values) → v ≡ with_first t u → ValuesLeave m k u x →
    ValuesLeave m (1 + k) v x
first_leaves m k {v} x t u is left = subst (λ y. ValuesLeave m (1 + k) y x) (sym is) (onto t u left)
  where
    onto : (t : Tree) (u : Values) → ValuesLeave m k u x → ValuesLeave m (1 + k) (with_first t u) x
    onto t (all ts) left = (left.0, ap (λ n. 1 + n) left.1)
    onto t (stopped q) left = left

after_bindings : (act : Option Act) (s : State) → (after act s).bindings ≡ s.bindings
after_bindings None s = refl
after_bindings (Some act) s = refl

two_or_more : (n k : ℕ) → n ≡ k → IsTrue (nat_le 2 k) → 2 ≤ n
two_or_more n k is le = let h : 2 ≤ k = search rules in omega (arith, h, is)

as_many : (n k : ℕ) → (n == k) ≡ true → n ≡ k
as_many n k is = search rules

-- A function is sound: it is well scoped, has so many arguments and is well formed.
pub record FunctionIsSound (arity : ℕ) (m : Forms) (f : Definition) : Type 0 where
  pub scopes : IsScoped f
  pub patterns : HasArity arity f
  pub formed : IsFormedFunction m f

abbrev pub IfSound : ℕ → Forms → Option Function → Type 0
IfSound arity m None = Unit {0}
IfSound arity m (Some f) = FunctionIsSound arity m f.definition

abbrev pub IfFoundSound : ℕ → Option (Instance × Function) → Type 0
IfFoundSound arity None = Unit {0}
IfFoundSound arity (Some p) = IsSound p.0.forms × FunctionIsSound arity p.0.forms p.1.definition

-- each function that is found in a sound module

abbrev Scoped : Key × Function → Type 0
Scoped f = IsScoped f.1.definition

abbrev Counted : Key × Function → Type 0
Counted f = HasArity f.0.1 f.1.definition

abbrev Formed : Forms → Key × Function → Type 0
Formed m f = IsFormedFunction m f.1.definition

same_arity : (a b : Key) → IsTrue (key_eq a b) → a.1 ≡ b.1
same_arity a b is = search rules

found_if : (b : Bool) (arity : ℕ) (m : Forms) (f : Function) (other : Option Function) →
    (IsTrue b → FunctionIsSound arity m f.definition) →
    IfSound arity m other → IfSound arity m (cond b (Some f) other)
found_if true arity m f other here later = here refl
found_if false arity m f other here later = later

found_sound : (name : List ℕ) (arity : ℕ) (m : Forms) (fs : List (Key × Function)) → All Scoped fs → All Counted fs →
    All (Formed m) fs →
    IfSound arity m (lookup (key_eq (name, arity)) fs)
found_sound name arity m [] scopes arities formed = tt
found_sound name arity m (f ∷ fs) scopes arities formed =
    found_if (key_eq (name, arity) f.0) arity m f.1 (lookup (key_eq (name, arity)) fs)
    (λ is. record {
      scopes = All-head Scoped f fs scopes;
      patterns = subst (λ n. HasArity n f.1.definition) (sym (same_arity (name, arity) f.0 is)) (All-head Counted f fs arities);
      formed = All-head (Formed m) f fs formed;
    })
    (found_sound name arity m fs (All-tail Scoped f fs scopes) (All-tail Counted f fs arities)
    (All-tail (Formed m) f fs formed))

pub function_sound : (name : List ℕ) (arity : ℕ) (m : Forms) → IsSound m → IfSound arity m (function_of name arity m)
function_sound name arity m sound = found_sound name arity m m.functions sound.scopes sound.arities sound.formed

of_instance : (arity : ℕ) (i : Instance) (f : Option Function) → IsSound i.forms → IfSound arity i.forms f →
    IfFoundSound arity (option_map (λ g. (i, g)) f)
of_instance arity i None sound found = tt
of_instance arity i (Some f) sound found = (sound, found)

exported_if : (b : Bool) (arity : ℕ) (m : Forms) (f : Function) → FunctionIsSound arity m f.definition →
    IfSound arity m (if b then Some f else None)
exported_if true arity m f found = found
exported_if false arity m f found = tt

exported_some : (arity : ℕ) (m : Forms) (f : Option Function) → IfSound arity m f →
    IfSound arity m (option_and_then if_exported f)
exported_some arity m None found = tt
exported_some arity m (Some f) found = exported_if f.exported arity m f found

pub exported_sound : (name : List ℕ) (arity : ℕ) (m : Forms) → IsSound m → IfSound arity m (exported_of name arity m)
exported_sound name arity m sound = exported_some arity m (function_of name arity m) (function_sound name arity m sound)

callee_sound : (a : Activation) (tail : Bool) (i : Instance) → IsSound i.forms → IsSound (callee a tail i).instance.forms
callee_sound a true i sound = sound
callee_sound a false i sound = sound

callee_function : (a : Activation) (tail : Bool) (i : Instance) (arity : ℕ) (f : Definition) → FunctionIsSound arity i.forms f →
    FunctionIsSound arity (callee a tail i).instance.forms f
callee_function a true i arity f sound = sound
callee_function a false i arity f sound = sound

-- a call of the same module finds its function
found_there : (i : Instance) (f : Option Function) → is_some f ≡ true →
    is_some {T = Instance × Function} (option_map (λ g. (i, g)) f) ≡ true
found_there i None is = is
found_there i (Some f) is = refl

module _ (w : World) (sound : (i : Instance) → Contains w.code i → IsSound i.forms) where
  current_if : (b : Bool) (i : Instance) (other : Option Instance) → IsSound i.forms →
      ((j : Instance) → other ≡ Some j → IsSound j.forms) → (j : Instance) → (if b then Some i else other) ≡ Some j →
      IsSound j.forms
  current_if true i other here later j is = subst (λ x. IsSound x.forms) (some_injective is) here
  current_if false i other here later j is = later j is

  current_sound : (m : List ℕ) (code : List Instance) → ((i : Instance) → Contains code i → IsSound i.forms) → (j : Instance) →
      current m code ≡ Some j → IsSound j.forms
  current_sound m [] each j is = absurd (some_none (sym is))
  current_sound m (i ∷ code) each j is =
      current_if (bytes_eq i.name m) i (current m code) (each i (contains_first i code))
      (current_sound m code (λ k there. each k (contains_more k i code there))) j is

  exported_found : (name : List ℕ) (arity : ℕ) (i : Option Instance) → ((j : Instance) → i ≡ Some j → IsSound j.forms) →
      IfFoundSound arity (option_and_then (exported_by name arity) i)
  exported_found name arity None each = tt
  exported_found name arity (Some i) each =
      of_instance arity i (exported_of name arity i.forms) (each i refl) (exported_sound name arity i.forms (each i refl))

  pub remote_sound : (m name : List ℕ) (arity : ℕ) → IfFoundSound arity (remote_function w m name arity)
  remote_sound m name arity = exported_found name arity (current m w.code) (current_sound m w.code sound)

  -- What is asked for is sound, if it is no refusal.

  abbrev RequestIsSound : Request → Type 0
  RequestIsSound (refused q) = Unit {0}
  RequestIsSound (begin registered i name f ts) = IsSound i.forms × FunctionIsSound (count ts) i.forms f.definition

  begin_sound : (registered : Option (List ℕ)) (name : List ℕ) (args : Trees) (p : Option (Instance × Function)) →
      IfFoundSound (count args) p → RequestIsSound (begin_or_undef registered name args p)
  begin_sound registered name args None found = tt
  begin_sound registered name args (Some p) found = found

  first_sound : (startup : Option Startup) (request : Request) → RequestIsSound request →
      RequestIsSound (first_start startup request)
  first_sound None request is = is
  first_sound (Some u) request is = tt

  mode_sound : (mode : Mode) (request : Request) → RequestIsSound request → RequestIsSound (in_start_mode mode request)
  mode_sound plain request is = tt
  mode_sound start_mode request is = is

  spawn_sound : (startup : Option Startup) (ts : Trees) → RequestIsSound (spawn_asked w startup ts)
  spawn_sound startup (term.more (term.atom m) (term.more (term.atom f) (term.more (term.list args) term.none))) =
      first_sound startup (begin_or_undef None f args (remote_function w m f (count args)))
      (begin_sound None f args (remote_function w m f (count args)) (remote_sound m f (count args)))
  spawn_sound startup (term.more m (term.more f (term.more args term.none))) = tt
  spawn_sound startup _ = tt

  init_sound : (startup : Option Startup) (registered : Option (List ℕ)) (m args options : Tree) →
      RequestIsSound (init_asked w startup registered m args options)
  init_sound startup registered (term.atom m) args (term.list options) =
      first_sound startup (begin_or_undef registered (codes "init") (term.more args term.none)
      (remote_function w m (codes "init") 1))
      (begin_sound registered (codes "init") (term.more args term.none) (remote_function w m (codes "init") 1)
      (remote_sound m (codes "init") 1))
  init_sound startup registered _ args _ = tt

  named_sound : (startup : Option Startup) (name : Option (List ℕ)) (m args options : Tree) →
      RequestIsSound (named_asked w startup name m args options)
  named_sound startup None m args options = tt
  named_sound startup (Some name) m args options = init_sound startup (Some name) m args options

  link_sound : (startup : Option Startup) (ts : Trees) → RequestIsSound (start_link_asked w startup ts)
  link_sound startup (term.more m (term.more args (term.more options term.none))) = init_sound startup None m args options
  link_sound startup (term.more name (term.more m (term.more args (term.more options term.none)))) =
      named_sound startup (local_name name) m args options
  link_sound startup _ = tt

  asked_sound : (starter : Starter) (startup : Option Startup) (ts : Trees) → RequestIsSound (asked w starter startup ts)
  asked_sound spawn startup ts = mode_sound w.mode (spawn_asked w startup ts) (spawn_sound startup ts)
  asked_sound start_link startup ts = mode_sound w.mode (start_link_asked w startup ts) (link_sound startup ts)

  -- What is named or started leaves the bindings of its caller.

  either_bindings : (b : Bool) (env : List Tree) (one other : Result × State) → one.1.bindings ≡ env → other.1.bindings ≡ env →
      (if b then one else other).1.bindings ≡ env
  either_bindings true env one other is is_too = is
  either_bindings false env one other is is_too = is_too

  registered_bindings : (name : List ℕ) (u : Startup) (s : State) → (registered_as name u s).1.bindings ≡ s.bindings
  registered_bindings name u s =
      either_bindings (is_some u.registered) s.bindings (not_in_profile, s)
      (value (truth true), record s { startup = Some (record u { registered = Some (name, true) }) }) refl refl

  register_in_bindings : (name : List ℕ) (is_own : Bool) (startup : Option Startup) (s : State) →
      (register_in name is_own startup s).1.bindings ≡ s.bindings
  register_in_bindings name is_own None s = refl
  register_in_bindings name true (Some u) s = registered_bindings name u s
  register_in_bindings name false (Some u) s = refl

  register_asked_bindings : (ts : Trees) (s : State) → (register_asked w ts s).1.bindings ≡ s.bindings
  register_asked_bindings (term.more (term.atom name) (term.more (term.pid n) term.none)) s =
      register_in_bindings name (nat_le n w.pid && nat_le w.pid n) s.startup s
  register_asked_bindings (term.more t (term.more u term.none)) s = refl
  register_asked_bindings ts s = refl

  register_bindings : (mode : Mode) (ts : Trees) (s : State) → (register_in_mode w mode ts s).1.bindings ≡ s.bindings
  register_bindings plain ts s = refl
  register_bindings start_mode ts s = register_asked_bindings ts s

  linked_by_bindings : (env : List Tree) (m : List ℕ) (s : State) (came : Initialized) →
      (linked_by w env m s came).1.bindings ≡ env
  linked_by_bindings env m s (begun t) = refl
  linked_by_bindings env m s ignored = refl
  linked_by_bindings env m s (failed t) = refl

  started_bindings : (starter : Starter) (env : List Tree) (m : List ℕ) (r : Result) (s : State) →
      (starting.started w starter env m r s).1.bindings ≡ env
  started_bindings spawn env m (value t) s = refl
  started_bindings spawn env m (rest p) s = refl
  started_bindings spawn env m (exit t) s = refl
  started_bindings start_link env m (value t) s = linked_by_bindings env m s (initialized t)
  started_bindings start_link env m (rest p) s = refl
  started_bindings start_link env m (exit t) s = refl

  -- A match

  bound_leaves : {k m : ℕ} {p : Pat} {r : Result} {x : State} (t : Tree) (s : State) (found : Option (List Tree)) →
      PatternBinds k p m → length s.bindings ≡ k → matched p t s.bindings ≡ found →
      Gives r x (bound found t s).0 (bound found t s).1 → Leaves m r x
  bound_leaves {m = m} t s None d at is g = ended m g tt
  bound_leaves t s (Some env) d at is g = stays g (leaves d t s.bindings env at is)

  match_regular : {k m : ℕ} {p : Pat} {q : Result} {s : State} {r : Result} {x : State} → PatternBinds k p m → Leaves k q s →
      (f : Bound p q s r x) → MatchIsRegular f × Leaves m r x
  match_regular d left (matched_to {p = p} {t = t} {s = s} g) =
      (may_match d t s.bindings left, bound_leaves t s (matched p t s.bindings) d left refl g)
  match_regular {m = m} d left (right_ended end g) = (tt, ended m g end)

  mutual
    eval_regular : {a : Activation} {tail : Bool} {e : Expr} {s : State} {r : Result} {x : State} {n m : ℕ} →
        IsSound a.instance.forms → ExprBinds n e m → IsFormed a.instance.forms e → length s.bindings ≡ n →
        (d : Eval w a tail e s r x) →
        EvalIsRegular w d × Leaves m r x
    eval_regular code scoped.literal formed at (literal g) = (tt, stays g at)
    eval_regular code (scoped.variable {n = n} {index = index} below) formed at (variable {s = s} g) =
        (within s.bindings n index at below, stays g at)
    eval_regular code (scoped.apply {m = m} {es = es} ds) formed at (apply d f) =
        let o = operands_regular code ds formed.2 at d in
        let p = applied_regular m (expr_count es) code formed.0 formed.1 o.1 f in ((o.0, p.0), p.1)
    eval_regular code (scoped.match ds pd) formed at (match d f) =
        let b = body_regular code ds formed.0 formed.1 at d in
        let p = match_regular pd b.1 f in ((b.0, p.0), p.1)
    eval_regular code (scoped.block ds) formed at (block d) = body_regular code ds formed.0 formed.1 at d
    eval_regular code (scoped.case ds cs) formed at (case d f) =
        let b = body_regular code ds formed.0 formed.1 at d in
        let p = cased_regular code cs formed.2 formed.3 b.1 f in ((b.0, p.0), p.1)
    eval_regular code (scoped.short_circuit ds es) formed at (short_circuit d f) =
        let b = body_regular code ds formed.0 formed.1 at d in
        let p = decided_regular code es formed.2 formed.3 b.1 f in ((b.0, p.0), p.1)

    operands_regular : {a : Activation} {es : Exprs} {s : State} {v : Values} {x : State} {n m : ℕ} →
        IsSound a.instance.forms → ExprsBind n es m → AreFormed a.instance.forms es → length s.bindings ≡ n →
        (d : Operands w a es s v x) →
        OperandsAreRegular w d × ValuesLeave m (expr_count es) v x
    operands_regular {v = v} {x = x} {m = m} code scoped.no_expression formed at (no_operands is state_is) = (
      tt,
      subst (λ y. ValuesLeave m 0 y x) (sym is) (ap (λ y. length y.bindings) state_is ∙ at, refl),
    )
    operands_regular code (scoped.next_expression e es) formed at (operand d f) =
        let b = eval_regular code e formed.0 at d in
        let p = others_regular code es formed.1 b.1 f in ((b.0, p.0), p.1)

    others_regular : {a : Activation} {es : Exprs} {q : Result} {s : State} {v : Values} {x : State} {n m : ℕ} →
        IsSound a.instance.forms → ExprsBind n es m → AreFormed a.instance.forms es → Leaves n q s →
        (d : Others w a es q s v x) →
        OthersAreRegular w d × ValuesLeave m (1 + expr_count es) v x
    others_regular {es = es} {x = x} {m = m} code ds formed left (others {t = t} {u = u} d is) =
        let o = operands_regular code ds formed left d in (o.0, first_leaves m (expr_count es) x t u is o.1)
    others_regular {es = es} {x = x} {m = m} code ds formed left (operand_ended end is state_is) =
        (tt, subst (λ y. ValuesLeave m (1 + expr_count es) y x) (sym is) end)

    pub body_regular : {a : Activation} {tail : Bool} {es : Exprs} {s : State} {r : Result} {x : State} {n m : ℕ} →
        IsSound a.instance.forms → ExprsBind n es m → 1 ≤ expr_count es → AreFormed a.instance.forms es →
        length s.bindings ≡ n →
        (d : Body w a tail es s r x) → BodyIsRegular w d × Leaves m r x
    body_regular code es has_one formed at (empty g) = absurd (omega (arith, has_one))
    body_regular code (scoped.next_expression e scoped.no_expression) has_one formed at (last d) =
        eval_regular code e formed.0 at d
    body_regular code (scoped.next_expression e es) has_one formed at (next d f) =
        let b = eval_regular code e formed.0 at d in
        let p = onward_regular code es (omega arith) formed.1 b.1 f in ((b.0, p.0), p.1)

    onward_regular : {a : Activation} {tail : Bool} {es : Exprs} {q : Result} {s : State} {r : Result} {x : State} {n m : ℕ} →
        IsSound a.instance.forms → ExprsBind n es m → 1 ≤ expr_count es → AreFormed a.instance.forms es → Leaves n q s →
        (d : Onward w a tail es q s r x) → RestIsRegular w d × Leaves m r x
    onward_regular code es has_one formed left (onward d) = body_regular code es has_one formed left d
    onward_regular code es has_one formed left (body_ended end g) = (tt, ended _ g end)

    decided_regular : {a : Activation} {tail : Bool} {c : Connective} {right : Exprs} {q : Result} {s : State} {r : Result}
        {x : State} {m k : ℕ} →
        IsSound a.instance.forms → ExprsBind m right k → 1 ≤ expr_count right → AreFormed a.instance.forms right →
        Leaves m q s →
        (d : Decided w a tail c right q s r x) → DecisionIsRegular w d × Leaves m r x
    decided_regular code es has_one formed left (decided is g) = (tt, stays g left)
    decided_regular code es has_one formed left (undecided {s = s} {s1 = s1} {r = r} is other d state_is) =
        ((body_regular code es has_one formed left d).0, returns s s1 r state_is left)
    decided_regular code es has_one formed left (no_truth is g) = (tt, stays g left)
    decided_regular code es has_one formed left (left_ended end g) = (tt, ended _ g end)

    cased_regular : {a : Activation} {tail : Bool} {cs : Clauses} {q : Result} {s : State} {r : Result} {x : State} {m : ℕ} →
        IsSound a.instance.forms → ClausesSee m cs → AreFormedClauses a.instance.forms cs → HavePatterns 1 cs → Leaves m q s →
        (d : Cased w a tail cs q s r x) → CaseIsRegular w d × Leaves m r x
    cased_regular {a = a} code see formed have left (cased {t = t} {s = s} d) =
        let b = taken_regular code (selected_ready a.instance.forms see w.pid s.bindings (term.more t term.none) s.calls
        formed left) left d in
        ((may_try a.instance.forms see s.bindings (term.more t term.none) formed have left, b.0), b.1)
    cased_regular code see formed have left (subject_ended end g) = (tt, ended _ g end)

    taken_regular : {a : Activation} {tail : Bool} {failure : Result} {found : Option (List Tree × Exprs)} {s : State}
        {r : Result} {x : State} {m : ℕ} →
        IsSound a.instance.forms → FoundIsReady a.instance.forms found → length s.bindings ≡ m →
        (d : Taken w a tail failure found s r x) →
        BranchIsRegular w d × Leaves m r x
    taken_regular code found at (no_clause g) = (tt, stays g at)
    taken_regular code found at (taken {s = s} {s1 = s1} {r = r} d is) =
        ((body_regular code found.scopes found.has_one found.formed refl d).0, returns s s1 r is at)

    applied_regular : (m k : ℕ) {a : Activation} {tail : Bool} {op : Operation} {v : Values} {s : State} {r : Result}
        {x : State} →
        IsSound a.instance.forms → IsTrue (is_of op k) → IsTrue (is_defined a.instance.forms op k) → ValuesLeave m k v s →
        (d : Applied w a tail op v s r x) →
        ApplicationIsRegular w d × Leaves m r x
    applied_regular m k code fits defined left (operands_ended g) = (tt, ended m g left)
    applied_regular m k code fits defined left (tuple g) = (tt, stays g left.0)
    applied_regular m k code fits defined left (list g) = (tt, stays g left.0)
    applied_regular m k code fits defined left (cons {ts = ts} g) = (two_or_more (count ts) k left.1 fits, stays g left.0)
    applied_regular m k code fits defined left (operator {o = o} {ts = ts} {s = s} g) = (
      left.1 ∙ as_many k (operands_of o) fits,
      stays g (ap (λ env. length env) (after_bindings (sends o ts) s) ∙ left.0),
    )
    applied_regular m k code fits defined left (built_in {f = f} {ts = ts} d) =
        let b = built_in_regular left.0 d in
        ((subst (λ n. IsTrue (takes f n)) (sym left.1) fits, b.0), b.1)
    applied_regular m k {a = a} code fits defined left (local {name = name} {ts = ts} d) =
        let c = called_regular
        (of_instance (count ts) a.instance (function_of name (count ts) a.instance.forms) code
        (function_sound name (count ts) a.instance.forms code)) left.0 d in
        let is = subst (λ n. is_some (function_of name n a.instance.forms) ≡ true) (sym left.1) defined in
        ((found_there a.instance (function_of name (count ts) a.instance.forms) is, c.0), c.1)
    applied_regular m k code fits defined left (remote {m = called_module} {name = name} {ts = ts} d) =
        called_regular (remote_sound called_module name (count ts)) left.0 d

    called_regular : {a : Activation} {tail may : Bool} {name : List ℕ} {function : Option (Instance × Function)} {ts : Trees}
        {s : State} {r : Result} {x : State} {m : ℕ} →
        IfFoundSound (count ts) function → length s.bindings ≡ m → (d : Called w a tail may name function ts s r x) →
        CallIsRegular w d × Leaves m r x
    called_regular found at (too_many g) = (tt, stays g at)
    called_regular found at (undefined g) = (tt, stays g at)
    called_regular found at (called {a = a} {tail = tail} {i = i} {f = f} {ts = ts} {s = s} {s1 = s1} {r = r} d is) = (
      entered_regular (callee_sound a tail i found.0) (callee_function a tail i (count ts) f.definition found.1) refl d,
      returns s s1 r is at,
    )

    pub entered_regular : {a : Activation} {nests : Bool} {name : List ℕ} {f : Definition} {ts : Trees} {s : State} {r : Result}
        {x : State} →
        IsSound a.instance.forms → FunctionIsSound (count ts) a.instance.forms f → length s.bindings ≡ 0 →
        (d : Entered w a nests name f ts s r x) → EntryIsRegular w d
    entered_regular code found at (loop_elsewhere may_not g) = tt
    entered_regular code found at (loop_too_deep may g) = tt
    entered_regular code found at (loop {ts = ts} {s = s} may g) = (
      found.patterns.0,
      may_match_each found.scopes.1 ts s.bindings at,
      λ behind is. may_guard found.scopes.2 behind found.formed.0 (each_leaves found.scopes.1 ts s.bindings behind at is),
      tt,
    )
    entered_regular code found at (too_deep g) = tt
    entered_regular {a = a} code found at (clauses {ts = ts} {s = s} d) = (
      may_try a.instance.forms found.scopes s.bindings ts found.formed found.patterns at,
      (taken_regular code (selected_ready a.instance.forms found.scopes w.pid s.bindings ts s.calls found.formed at) at d).0,
    )

    built_in_regular : {a : Activation} {may : Bool} {f : BuiltIn} {ts : Trees} {s : State} {r : Result} {x : State} {m : ℕ} →
        length s.bindings ≡ m → (d : BuiltInCalled w a may f ts s r x) → BuiltInIsRegular w d × Leaves m r x
    built_in_regular at (built_in_too_many g) = (tt, stays g at)
    built_in_regular at (built_in_called d) = worked_regular at d

    worked_regular : {a : Activation} {way : Way} {f : BuiltIn} {ts : Trees} {s : State} {r : Result} {x : State} {m : ℕ} →
        length s.bindings ≡ m → (d : Worked w a way f ts s r x) → WorkIsRegular w d × Leaves m r x
    worked_regular at (worked_at_once {f = f} {ts = ts} {s = s} g) =
        (tt, stays g (ap (λ env. length env) (after_bindings (does f ts) s) ∙ at))
    worked_regular at (named {ts = ts} {s = s} g) =
        (tt, stays g (ap (λ env. length env) (register_bindings w.mode ts s) ∙ at))
    worked_regular at (starts {starter = starter} {ts = ts} {s = s} d) =
        started_regular (asked_sound starter s.startup ts) at d

    started_regular : {a : Activation} {starter : Starter} {request : Request} {s : State} {r : Result} {x : State} {m : ℕ} →
        RequestIsSound request → length s.bindings ≡ m → (d : Started w a starter request s r x) →
        StartIsRegular w d × Leaves m r x
    started_regular found at (refused_start g) = (tt, stays g at)
    started_regular found at (started_by {starter = starter} {i = i} {s = s} {s1 = s1} {q = q} d g) = (
      entered_regular found.0 found.1 refl d,
      stays g (ap (λ env. length env) (started_bindings starter s.bindings i.name q s1) ∙ at),
    )
