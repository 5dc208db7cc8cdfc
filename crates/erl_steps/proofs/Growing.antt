-- Evaluation keeps what is bound: more is bound behind it.
use Rattle.std.specs.Prelude.{◌≡◌, ◌==◌, ℕ, Bool, true, false, if◌then◌else◌, List, [], ◌∷◌, ◌++◌, length, slice_get, refl}
use Rattle.std.specs.Prelude.{Option, None, Some, option_and_then, is_some, nat_le, ◌&&◌}
use Rattle.std.proofs.Common.{ap, sym, ◌∙◌}
use Rattle.std.proofs.lemmas.List.{append-nil, append_assoc}
use Rattle.erl_term.specs.Tree as term
use Rattle.erl_term.specs.Tree.{Tree, Trees}
use Rattle.erl_term.specs.Order.{tree_cmp}
use Rattle.erl_ir.specs.declared.operation.BuiltIn.{BuiltIn}
use Rattle.erl_ir.specs.declared.operation.Connective.{Connective}
use Rattle.erl_ir.specs.declared.operation.Operation.{Operation}
use Rattle.erl_ir.specs.declared.function.Function.{Function}
use Rattle.erl_ir.specs.Expression as form
use Rattle.erl_ir.specs.Expression.{Expr, Exprs, Guards, Clauses}
use Rattle.erl_ir.specs.Pattern as pattern
use Rattle.erl_ir.specs.Pattern.{Pat, Pats}
use Rattle.erl_semantics.specs.State as state
use Rattle.erl_semantics.specs.State.{Instance, Result, Startup, World, Activation, Mode, plain, start_mode, State, with_bindings, Act, after}
use Rattle.erl_semantics.specs.Operators.{is_equal, sends}
use Rattle.erl_semantics.specs.BuiltIns.{does}
use Rattle.erl_semantics.specs.Matching.{matched_variable, matched, matched_each, matched_front, matched_all}
use Rattle.erl_semantics.specs.Guards.{Values, guarded, Selection, picked, picked_where, selected}
use Rattle.erl_semantics.specs.Starting.{Starter, spawn, start_link, Way, Request, Initialized, begun, ignored, failed, initialized}
use Rattle.erl_semantics.specs.Starting.{linked_by, started, register_in, register_asked, register_in_mode}
use Rattle.erl_semantics.specs.Evaluation as rule
use Rattle.erl_semantics.specs.Evaluation.{Bound, bound, Eval, Operands, Others, Body, Onward, Decided, Cased, Taken, Applied, Called}
use Rattle.erl_semantics.specs.Evaluation.{BuiltInCalled, Worked, Started}

-- one list is the other, and more behind it
pub record Extends (xs ys : List Tree) : Type 0 where
  pub rest : List Tree
  pub is : ys ≡ xs ++ rest

pub extends_itself : (xs : List Tree) → Extends xs xs
extends_itself xs = record { rest = []; is = sym (append-nil xs) }

pub extends_further : {xs ys zs : List Tree} → Extends xs ys → Extends ys zs → Extends xs zs
extends_further {xs = xs} first second = record {
  rest = first.rest ++ second.rest;
  is = second.is ∙ ap (λ ys. ys ++ second.rest) first.is ∙ append_assoc xs first.rest second.rest;
}

-- a match that takes place binds behind what is bound

abbrev Grows : List Tree → Option (List Tree) → Type 0
Grows env None = Unit {0}
Grows env (Some found) = Extends env found

grows_further : {env found : List Tree} (o : Option (List Tree)) → Extends env found → Grows found o → Grows env o
grows_further None first second = tt
grows_further (Some behind) first second = extends_further first second

then_grows : (env : List Tree) (o : Option (List Tree)) (k : List Tree → Option (List Tree)) → Grows env o →
    ((found : List Tree) → Grows found (k found)) → Grows env (option_and_then k o)
then_grows env None k first second = tt
then_grows env (Some found) k first second = grows_further (k found) first (second found)

if_grows : (b : Bool) (env found : List Tree) → Extends env found → Grows env (if b then Some found else None)
if_grows true env found behind = behind
if_grows false env found behind = tt

variable_grows : (o : Option Tree) (index : ℕ) (t : Tree) (env : List Tree) → Grows env (matched_variable o index t env)
variable_grows (Some u) index t env = if_grows (is_equal (tree_cmp t u)) env env (extends_itself env)
variable_grows None index t env = if_grows (length env == index) env (env ++ t ∷ []) (record { rest = t ∷ []; is = refl })

mutual
  pub match_grows : (p : Pat) (t : Tree) (env : List Tree) → Grows env (matched p t env)
  match_grows (pattern.literal u) t env = if_grows (is_equal (tree_cmp t u)) env env (extends_itself env)
  match_grows (pattern.variable index) t env = variable_grows (slice_get env index) index t env
  match_grows pattern.anything t env = extends_itself env
  match_grows (pattern.tuple ps) (term.tuple ts) env = each_grows ps ts env
  match_grows (pattern.tuple ps) (term.int n) env = tt
  match_grows (pattern.tuple ps) (term.atom cs) env = tt
  match_grows (pattern.tuple ps) (term.pid n) env = tt
  match_grows (pattern.tuple ps) (term.list ts) env = tt
  match_grows (pattern.list ps) (term.list ts) env = each_grows ps ts env
  match_grows (pattern.list ps) (term.int n) env = tt
  match_grows (pattern.list ps) (term.atom cs) env = tt
  match_grows (pattern.list ps) (term.pid n) env = tt
  match_grows (pattern.list ps) (term.tuple ts) env = tt
  match_grows (pattern.cons ps) (term.list ts) env = front_grows ps ts env
  match_grows (pattern.cons ps) (term.int n) env = tt
  match_grows (pattern.cons ps) (term.atom cs) env = tt
  match_grows (pattern.cons ps) (term.pid n) env = tt
  match_grows (pattern.cons ps) (term.tuple ts) env = tt
  match_grows (pattern.alias ps) t env = all_grows ps t env

  pub each_grows : (ps : Pats) (ts : Trees) (env : List Tree) → Grows env (matched_each ps ts env)
  each_grows pattern.none term.none env = extends_itself env
  each_grows pattern.none (term.more t ts) env = tt
  each_grows (pattern.more p ps) term.none env = tt
  each_grows (pattern.more p ps) (term.more t ts) env =
      then_grows env (matched p t env) (λ found. matched_each ps ts found) (match_grows p t env) (λ found. each_grows ps ts found)

  front_grows : (ps : Pats) (ts : Trees) (env : List Tree) → Grows env (matched_front ps ts env)
  front_grows pattern.none ts env = tt
  front_grows (pattern.more p pattern.none) ts env = match_grows p (term.list ts) env
  front_grows (pattern.more p (pattern.more q ps)) term.none env = tt
  front_grows (pattern.more p (pattern.more q ps)) (term.more t ts) env =
      then_grows env (matched p t env) (λ found. matched_front (pattern.more q ps) ts found) (match_grows p t env)
      (λ found. front_grows (pattern.more q ps) ts found)

  all_grows : (ps : Pats) (t : Tree) (env : List Tree) → Grows env (matched_all ps t env)
  all_grows pattern.none t env = extends_itself env
  all_grows (pattern.more p ps) t env =
      then_grows env (matched p t env) (λ found. matched_all ps t found) (match_grows p t env) (λ found. all_grows ps t found)

-- a clause that is selected binds behind what is bound

abbrev pub GrowsTo : List Tree → Option (List Tree × Exprs) → Type 0
GrowsTo env None = Unit {0}
GrowsTo env (Some found) = Extends env found.0

picked_grows : (b : Bool) (n : ℕ) (env found : List Tree) (body : Exprs) (others : ℕ → Selection) → Extends env found →
    ((k : ℕ) → GrowsTo env (others k).0) → GrowsTo env (picked (b, n) found body others).0
picked_grows true n env found body others behind else_grows = behind
picked_grows false n env found body others behind else_grows = else_grows n

where_grows : (self : ℕ) (o : Option (List Tree)) (gs : Guards) (env : List Tree) (body : Exprs) (others : ℕ → Selection) (n : ℕ) →
    Grows env o → ((k : ℕ) → GrowsTo env (others k).0) → GrowsTo env (picked_where self o gs body others n).0
where_grows self None gs env body others n grows else_grows = else_grows n
where_grows self (Some found) gs env body others n grows else_grows =
    picked_grows (guarded self found gs n).0 (guarded self found gs n).1 env found body others grows else_grows

pub selected_grows : (self : ℕ) (env : List Tree) (cs : Clauses) (ts : Trees) (n : ℕ) →
    GrowsTo env (selected self env cs ts n).0
selected_grows self env form.no_clauses ts n = tt
selected_grows self env (form.clause ps gs body cs) ts n =
    where_grows self (matched_each ps ts env) gs env body (selected self env cs ts) n (each_grows ps ts env)
    (λ k. selected_grows self env cs ts k)

-- evaluation

same_grows : {s s' : State} → s' ≡ s → Extends s.bindings s'.bindings
same_grows {s = s} same = record { rest = []; is = ap (λ u. u.bindings) same ∙ sym (append-nil s.bindings) }

bound_grows : (o : Option (List Tree)) (t : Tree) (s : State) → Grows s.bindings o → Extends s.bindings (bound o t s).1.bindings
bound_grows None t s grows = extends_itself s.bindings
bound_grows (Some env) t s grows = grows

moved : {env : List Tree} {s' u : State} → s' ≡ u → Extends env u.bindings → Extends env s'.bindings
moved same behind = record { rest = behind.rest; is = ap (λ v. v.bindings) same ∙ behind.is }

pub match_keeps : {p : Pat} {q : Result} {s : State} {r : Result} {s' : State} → Bound p q s r s' → Extends s.bindings s'.bindings
match_keeps {s = s} (rule.matched_to {p = p} {t = t} (g, h)) =
    moved h (bound_grows (matched p t s.bindings) t s (match_grows p t s.bindings))
match_keeps (rule.right_ended end (g, h)) = same_grows h

act_keeps : (o : Option Act) (s : State) → Extends s.bindings (after o s).bindings
act_keeps None s = extends_itself s.bindings
act_keeps (Some act) s = extends_itself s.bindings

linked_keeps : (w : World) (env : List Tree) (m : List ℕ) (s : State) (i : Initialized) → (linked_by w env m s i).1.bindings ≡ env
linked_keeps w env m s (begun t) = refl
linked_keeps w env m s ignored = refl
linked_keeps w env m s (failed t) = refl

start_keeps : (w : World) (starter : Starter) (env : List Tree) (m : List ℕ) (r : Result) (s : State) →
    (started w starter env m r s).1.bindings ≡ env
start_keeps w spawn env m (state.value t) s = refl
start_keeps w spawn env m (state.rest p) s = refl
start_keeps w spawn env m (state.exit t) s = refl
start_keeps w start_link env m (state.value t) s = linked_keeps w env m s (initialized t)
start_keeps w start_link env m (state.rest p) s = refl
start_keeps w start_link env m (state.exit t) s = refl

-- the bindings and the calls of one state are those of another
abbrev pub Keeps : State → State → Type 0
Keeps s s' = (s'.bindings ≡ s.bindings) × (s'.calls ≡ s.calls)

either_keeps : (b : Bool) (p q : Result × State) (s : State) → Keeps s p.1 → Keeps s q.1 →
    Keeps s (if◌then◌else◌ {A = Result × State} b p q).1
either_keeps true p q s first second = first
either_keeps false p q s first second = second

registered_keeps : (b : Bool) (name : List ℕ) (o : Option Startup) (s : State) →
    Keeps s (register_in name b o s).1
registered_keeps b name None s = (refl, refl)
registered_keeps false name (Some u) s = (refl, refl)
registered_keeps true name (Some u) s = either_keeps (is_some u.registered) _ _ s (refl, refl) (refl, refl)

asked_keeps : (w : World) (ts : Trees) (s : State) → Keeps s (register_asked w ts s).1
asked_keeps w term.none s = (refl, refl)
asked_keeps w (term.more (term.int t) term.none) s = (refl, refl)
asked_keeps w (term.more (term.atom t) term.none) s = (refl, refl)
asked_keeps w (term.more (term.pid t) term.none) s = (refl, refl)
asked_keeps w (term.more (term.tuple t) term.none) s = (refl, refl)
asked_keeps w (term.more (term.list t) term.none) s = (refl, refl)
asked_keeps w (term.more (term.atom name) (term.more (term.pid n) term.none)) s =
    registered_keeps (nat_le n w.pid && nat_le w.pid n) name s.startup s
asked_keeps w (term.more (term.atom name) (term.more (term.int n) term.none)) s = (refl, refl)
asked_keeps w (term.more (term.atom name) (term.more (term.atom n) term.none)) s = (refl, refl)
asked_keeps w (term.more (term.atom name) (term.more (term.tuple n) term.none)) s = (refl, refl)
asked_keeps w (term.more (term.atom name) (term.more (term.list n) term.none)) s = (refl, refl)
asked_keeps w (term.more (term.int name) (term.more u term.none)) s = (refl, refl)
asked_keeps w (term.more (term.pid name) (term.more u term.none)) s = (refl, refl)
asked_keeps w (term.more (term.tuple name) (term.more u term.none)) s = (refl, refl)
asked_keeps w (term.more (term.list name) (term.more u term.none)) s = (refl, refl)
asked_keeps w (term.more (term.int t) (term.more u (term.more v ts))) s = (refl, refl)
asked_keeps w (term.more (term.pid t) (term.more u (term.more v ts))) s = (refl, refl)
asked_keeps w (term.more (term.tuple t) (term.more u (term.more v ts))) s = (refl, refl)
asked_keeps w (term.more (term.list t) (term.more u (term.more v ts))) s = (refl, refl)
asked_keeps w (term.more (term.atom t) (term.more (term.int u) (term.more v ts))) s = (refl, refl)
asked_keeps w (term.more (term.atom t) (term.more (term.atom u) (term.more v ts))) s = (refl, refl)
asked_keeps w (term.more (term.atom t) (term.more (term.pid u) (term.more v ts))) s = (refl, refl)
asked_keeps w (term.more (term.atom t) (term.more (term.tuple u) (term.more v ts))) s = (refl, refl)
asked_keeps w (term.more (term.atom t) (term.more (term.list u) (term.more v ts))) s = (refl, refl)

pub register_keeps : (w : World) (k : Mode) (ts : Trees) (s : State) → Keeps s (register_in_mode w k ts s).1
register_keeps w plain ts s = (refl, refl)
register_keeps w start_mode ts s = asked_keeps w ts s

module _ (w : World) where
  started_keeps : {a : Activation} {starter : Starter} {request : Request} {s s' : State} {r : Result} →
      Started w a starter request s r s' → Extends s.bindings s'.bindings
  started_keeps (rule.refused_start (g, h)) = same_grows h
  started_keeps (rule.started_by {starter = starter} {i = i} {s = s} {s1 = s1} {q = q} d (g, h)) = record {
    rest = [];
    is = ap (λ u. u.bindings) h ∙ start_keeps w starter s.bindings i.name q s1 ∙ sym (append-nil s.bindings);
  }

  worked_keeps : {a : Activation} {way : Way} {f : BuiltIn} {ts : Trees} {s s' : State} {r : Result} →
      Worked w a way f ts s r s' → Extends s.bindings s'.bindings
  worked_keeps (rule.worked_at_once {f = f} {ts = ts} {s = s} (g, h)) = moved h (act_keeps (does f ts) s)
  worked_keeps (rule.named {ts = ts} {s = s} (g, h)) = record {
    rest = [];
    is = ap (λ u. u.bindings) h ∙ (register_keeps w w.mode ts s).0 ∙ sym (append-nil s.bindings);
  }
  worked_keeps (rule.starts d) = started_keeps d

  built_in_keeps : {a : Activation} {within : Bool} {f : BuiltIn} {ts : Trees} {s s' : State} {r : Result} →
      BuiltInCalled w a within f ts s r s' → Extends s.bindings s'.bindings
  built_in_keeps (rule.built_in_too_many (g, h)) = same_grows h
  built_in_keeps (rule.built_in_called d) = worked_keeps d

  restored : {s' : State} (s u : State) → s' ≡ with_bindings s.bindings u → Extends s.bindings s'.bindings
  restored s u same = record { rest = []; is = ap (λ u. u.bindings) same ∙ sym (append-nil s.bindings) }

  call_keeps : {a : Activation} {tail within : Bool} {name : List ℕ} {function : Option (Instance × Function)} {ts : Trees}
      {s s' : State} {r : Result} → Called w a tail within name function ts s r s' → Extends s.bindings s'.bindings
  call_keeps (rule.too_many (g, h)) = same_grows h
  call_keeps (rule.undefined (g, h)) = moved h (extends_itself _)
  call_keeps (rule.called {s = s} {s1 = s1} d same) = restored s s1 same

  applied_keeps : {a : Activation} {tail : Bool} {op : Operation} {v : Values} {s s' : State} {r : Result} →
      Applied w a tail op v s r s' → Extends s.bindings s'.bindings
  applied_keeps (rule.operands_ended (g, h)) = same_grows h
  applied_keeps (rule.tuple (g, h)) = same_grows h
  applied_keeps (rule.list (g, h)) = same_grows h
  applied_keeps (rule.cons (g, h)) = same_grows h
  applied_keeps (rule.operator {o = o} {ts = ts} {s = s} (g, h)) = moved h (act_keeps (sends o ts) s)
  applied_keeps (rule.built_in d) = built_in_keeps d
  applied_keeps (rule.local d) = call_keeps d
  applied_keeps (rule.remote d) = call_keeps d

  decided_keeps : {a : Activation} {tail : Bool} {c : Connective} {right : Exprs} {q : Result} {s s' : State} {r : Result} →
      Decided w a tail c right q s r s' → Extends s.bindings s'.bindings
  decided_keeps (rule.decided is (g, h)) = same_grows h
  decided_keeps (rule.undecided {s = s} {s1 = s1} is other d same) = restored s s1 same
  decided_keeps (rule.no_truth is (g, h)) = same_grows h
  decided_keeps (rule.left_ended end (g, h)) = same_grows h

  taken_keeps : {a : Activation} {tail : Bool} {failure : Result} {found : Option (List Tree × Exprs)} {s s' : State}
      {r : Result} → Taken w a tail failure found s r s' → Extends s.bindings s'.bindings
  taken_keeps (rule.no_clause (g, h)) = same_grows h
  taken_keeps (rule.taken {s = s} {s1 = s1} d same) = restored s s1 same

  cased_keeps : {a : Activation} {tail : Bool} {cs : Clauses} {q : Result} {s s' : State} {r : Result} →
      Cased w a tail cs q s r s' → Extends s.bindings s'.bindings
  cased_keeps (rule.cased d) = taken_keeps d
  cased_keeps (rule.subject_ended end (g, h)) = same_grows h

  mutual
    eval_keeps : {a : Activation} {tail : Bool} {e : Expr} {s s' : State} {r : Result} →
        Eval w a tail e s r s' → Extends s.bindings s'.bindings
    eval_keeps (rule.literal (g, h)) = same_grows h
    eval_keeps (rule.variable (g, h)) = same_grows h
    eval_keeps (rule.apply d f) = extends_further (operands_keeps d) (applied_keeps f)
    eval_keeps (rule.match d f) = extends_further (body_keeps d) (match_keeps f)
    eval_keeps (rule.block d) = body_keeps d
    eval_keeps (rule.case d f) = extends_further (body_keeps d) (cased_keeps f)
    eval_keeps (rule.short_circuit d f) = extends_further (body_keeps d) (decided_keeps f)

    operands_keeps : {a : Activation} {es : Exprs} {v : Values} {s s' : State} →
        Operands w a es s v s' → Extends s.bindings s'.bindings
    operands_keeps (rule.no_operands is same) = same_grows same
    operands_keeps (rule.operand d f) = extends_further (eval_keeps d) (others_keeps f)

    others_keeps : {a : Activation} {es : Exprs} {q : Result} {v : Values} {s s' : State} →
        Others w a es q s v s' → Extends s.bindings s'.bindings
    others_keeps (rule.others d is) = operands_keeps d
    others_keeps (rule.operand_ended end is same) = same_grows same

    pub body_keeps : {a : Activation} {tail : Bool} {es : Exprs} {s s' : State} {r : Result} →
        Body w a tail es s r s' → Extends s.bindings s'.bindings
    body_keeps (rule.empty (g, h)) = same_grows h
    body_keeps (rule.last d) = eval_keeps d
    body_keeps (rule.next d f) = extends_further (eval_keeps d) (onward_keeps f)

    onward_keeps : {a : Activation} {tail : Bool} {es : Exprs} {q : Result} {s s' : State} {r : Result} →
        Onward w a tail es q s r s' → Extends s.bindings s'.bindings
    onward_keeps (rule.onward d) = body_keeps d
    onward_keeps (rule.body_ended end (g, h)) = same_grows h
