-- What comes of what a step leads to, comes of what was before it.
use Rattle.std.specs.Prelude.{◌≡◌, ℕ, Bool, true, false, List, [], ◌∷◌, ◌++◌, length, take, refl, codes, slice_get}
use Rattle.std.specs.Prelude.{Option, None, Some}
use Rattle.std.specs.Option.{option_map_or}
use Rattle.std.proofs.Common.{ap, sym, subst, ◌∙◌}
use Rattle.std.proofs.lemmas.List.{append_assoc}
use Rattle.erl_term.specs.Tree as term
use Rattle.erl_term.specs.Tree.{Tree, Trees, count}
use Rattle.erl_term.specs.Rows.{append_trees}
use Rattle.erl_ir.specs.declared.operation.BuiltIn.{BuiltIn}
use Rattle.erl_ir.specs.declared.operation.Connective.{Connective}
use Rattle.erl_ir.specs.declared.operation.Connective.TheVariants.{AndAlso, OrElse}
use Rattle.erl_ir.specs.declared.operation.Operation.{Operation}
use Rattle.erl_ir.specs.declared.operation.Operation.TheVariants as operation
use Rattle.erl_ir.specs.declared.operation.Operator.{Operator}
use Rattle.erl_ir.specs.declared.function.Function.{Function}
use Rattle.erl_ir.specs.declared.function.Definition.{Definition}
use Rattle.erl_ir.specs.declared.function.Definition.TheVariants as definition
use Rattle.erl_ir.specs.Expression as form
use Rattle.erl_ir.specs.Expression.{Expr, Exprs, Guards, Clauses}
use Rattle.erl_ir.specs.Pattern.{Pats}
use Rattle.erl_semantics.specs.State as state
use Rattle.erl_semantics.specs.State.{Act, Instance, Place, Result, World, Activation, State, exit_by, exit_by_pair, made}
use Rattle.erl_semantics.specs.State.{with_bindings, bound_to, callee, after}
use Rattle.erl_semantics.specs.Operators.{operated, sends, truth_of, consed}
use Rattle.erl_semantics.specs.BuiltIns.{given, does, not_in_profile}
use Rattle.erl_semantics.specs.Matching.{matched}
use Rattle.erl_semantics.specs.Guards.{Values, all, stopped, with_first}
use Rattle.erl_semantics.specs.Starting.{Starter, spawn, start_link, Way, at_once, naming, starting, Request, refused, asked, way_of}
use Rattle.erl_semantics.specs.Starting.{register_in_mode, remote_function}
use Rattle.erl_semantics.specs.Evaluation as rule
use Rattle.erl_semantics.specs.Evaluation.{bound, Eval, Operands, Others, Body, Onward, Decided, Cased, Taken, Applied, Called}
use Rattle.erl_semantics.specs.Evaluation.{Entered, BuiltInCalled, Worked, Started, may_call, counted, may_nest, local_function}
use Rattle.erl_semantics.specs.Evaluation.{rested, head_of, chosen, tried}
use Rattle.erl_steps.specs.Machine as machine
use Rattle.erl_steps.specs.Machine.{Frame, is_tail, Control, Machine, of_result, in_state, scoped_by, scoped, taken, selecting}
use Rattle.erl_steps.specs.Machine.{resting, entering, entered, into_by, into, calling, working, calling_built_in, applying}
use Rattle.erl_semantics.specs.Starting.{begin, started, linked_by, Initialized, begun, ignored, failed, initialized}
use Rattle.erl_steps.specs.Machine.{beginner, starting_by, settled_by, settling_at, settling}
use Rattle.erl_steps.specs.Machine.{going_on, beginning, running, bound_by, decided_by, resuming, giving, stepping}
use Rattle.erl_steps.specs.Leading.{Final, before, Resumes, Comes}
use Rattle.erl_semantics.proofs.Options.{some_none, some_injective}
use Rattle.erl_steps.proofs.Growing.{Extends, extends_itself, GrowsTo, selected_grows, body_keeps}

-- values before others

before_stopped : (ts : Trees) (r : Result) → before ts (stopped r) ≡ stopped r
before_stopped term.none r = refl
before_stopped (term.more t ts) r = ap (with_first t) (before_stopped ts r)

before_all : (ts : Trees) → before ts (all term.none) ≡ all ts
before_all term.none = refl
before_all (term.more t ts) = ap (with_first t) (before_all ts)

before_one : (ts : Trees) (t : Tree) (v : Values) → before (append_trees ts (term.more t term.none)) v ≡ before ts (with_first t v)
before_one term.none t v = refl
before_one (term.more u us) t v = ap (with_first u) (before_one us t v)

-- what gives a value alone, gives it and does nothing
alone_gives : (o : Option Act) (r : Result) (s : State) (t : Tree) → machine.value_alone o r ≡ Some t →
    (state.value t ≡ r) × (s ≡ after o s)
alone_gives None (state.value u) s t gives = (ap state.value (sym (some_injective gives)), refl)
alone_gives None (state.rest p) s t gives = absurd (some_none (sym gives))
alone_gives None (state.exit q) s t gives = absurd (some_none (sym gives))
alone_gives (Some act) r s t gives = absurd (some_none (sym gives))

-- what is bound before more is

front_of : (xs ys zs : List Tree) → ys ≡ xs ++ zs → take (length xs) ys ≡ xs
front_of xs ys zs is = ap (take (length xs)) is ∙ front xs zs
  where
    front : (xs zs : List Tree) → take (length xs) (xs ++ zs) ≡ xs
    front [] zs = refl
    front (x ∷ xs) zs = ap (λ us. x ∷ us) (front xs zs)

-- who started a process doesn't ask what is bound where its function ends

linked_forgets : (w : World) (env : List Tree) (m : List ℕ) (x : List Tree) (s : State) (i : Initialized) →
    linked_by w env m (with_bindings x s) i ≡ linked_by w env m s i
linked_forgets w env m x s (begun t) = refl
linked_forgets w env m x s ignored = refl
linked_forgets w env m x s (failed t) = refl

start_forgets : (w : World) (st : Starter) (env : List Tree) (m : List ℕ) (r : Result) (x : List Tree) (s : State) →
    started w st env m r (with_bindings x s) ≡ started w st env m r s
start_forgets w spawn env m (state.value t) x s = refl
start_forgets w spawn env m (state.rest p) x s = refl
start_forgets w spawn env m (state.exit t) x s = refl
start_forgets w start_link env m (state.value t) x s = linked_forgets w env m x s (initialized t)
start_forgets w start_link env m (state.rest p) x s = refl
start_forgets w start_link env m (state.exit t) x s = refl

-- what a start gives in the call that it went back to
pub settled_again : (w : World) (st : Starter) (env : List Tree) (a : Activation) (name : List ℕ) (r : Result) (m back : Machine) →
    back ≡ record { activation = a; frames = m.frames; state = with_bindings env m.state } →
    settled_by w st back.state.bindings back.activation name r back ≡ settled_by w st env a name r m
settled_again w st env a name r m back is =
    ap (λ x. settled_by w st x.state.bindings x.activation name r x) is ∙
    (λ k. (
      of_result (start_forgets w st env name r env m.state k).0,
      record { activation = a; frames = m.frames; state = (start_forgets w st env name r env m.state k).1 },
    ))

module _ (w : World) where
  -- an exit ends all that is left to be done
  ended : (a : Activation) (fs : List Frame) (t : Tree) (s : State) (f : Final) →
      f ≡ (state.exit t, with_bindings [] s) → Resumes w a fs (state.exit t) s f
  ended a [] t s f is = is
  ended a (machine.operands op ts es ∷ fs) t s f is = (
    stopped (state.exit t),
    s,
    state.exit t,
    s,
    rule.operand_ended tt refl refl,
    subst (λ v. Applied w a (is_tail fs) op v s (state.exit t) s) (sym (before_stopped ts (state.exit t)))
        (rule.operands_ended (refl, refl)),
    ended a fs t s f is,
  )
  ended a (machine.onward es ∷ fs) t s f is = (state.exit t, s, rule.body_ended tt (refl, refl), ended a fs t s f is)
  ended a (machine.binding p ∷ fs) t s f is = (state.exit t, s, rule.right_ended tt (refl, refl), ended a fs t s f is)
  ended a (machine.cases cs ∷ fs) t s f is = (state.exit t, s, rule.subject_ended tt (refl, refl), ended a fs t s f is)
  ended a (machine.deciding c right ∷ fs) t s f is = (state.exit t, s, rule.left_ended tt (refl, refl), ended a fs t s f is)
  ended a (machine.scope n ∷ fs) t s f is = ended a fs t (with_bindings (take n s.bindings) s) f is
  ended a (machine.caller env b ∷ fs) t s f is = ended b fs t (with_bindings env s) f is
  ended a (machine.starter spawn env b m ∷ fs) t s f is = ended b fs t (with_bindings env s) f is
  ended a (machine.starter start_link env b m ∷ fs) t s f is = ended b fs t (with_bindings env s) f is

  given_leads : (r : Result) (m : Machine) (f : Final) → Comes w (of_result r) m f →
      Resumes w m.activation m.frames r m.state f
  given_leads (state.value t) m f c = c
  given_leads (state.rest p) m f c = c
  given_leads (state.exit t) m f c = ended m.activation m.frames t m.state f c

  -- where nothing is left to be done for the call, nobody asks what is bound, nor which call it is
  forgets : (a b : Activation) (fs : List Frame) → is_tail fs ≡ true → (r : Result) (env : List Tree) (s : State) (f : Final) →
      Resumes w a fs r s f → Resumes w b fs r (with_bindings env s) f
  forgets a b [] tail r env s f c = c
  forgets a b (machine.operands op ts es ∷ fs) tail r env s f c = absurd (cc)
  forgets a b (machine.onward es ∷ fs) tail r env s f c = absurd (cc)
  forgets a b (machine.binding p ∷ fs) tail r env s f c = absurd (cc)
  forgets a b (machine.cases cs ∷ fs) tail r env s f c = absurd (cc)
  forgets a b (machine.deciding d right ∷ fs) tail r env s f c = absurd (cc)
  forgets a b (machine.scope n ∷ fs) tail r env s f c = absurd (cc)
  forgets a b (machine.caller x y ∷ fs) tail r env s f c = c
  forgets a b (machine.starter st bs y m ∷ fs) tail r env s f c =
      subst (λ p. Resumes w y fs p.0 p.1 f) (sym (start_forgets w st bs m r env s)) c

  -- a body whose bindings are forgotten behind it
  scope_leads : (a : Activation) (fs : List Frame) (b : Bool) → is_tail fs ≡ b → (s : State) (env : List Tree) →
      Extends s.bindings env → (body : Exprs) (f : Final) →
      Comes w (machine.run body) (record {
        activation = a;
        frames = scoped_by b (length s.bindings) fs;
        state = with_bindings env s;
      }) f →
      (r : Result) × (s1 : State) × Body w a (is_tail fs) body (with_bindings env s) r s1 ×
      Resumes w a fs r (with_bindings s.bindings s1) f
  scope_leads a fs true tail s env grows body f (r, s1, d, c) =
      (r, s1, d, forgets a a fs tail r s.bindings s1 f c)
  scope_leads a fs false tail s env grows body f (r, s1, d, c) = (
    r,
    s1,
    subst (λ b. Body w a b body (with_bindings env s) r s1) (sym tail) d,
    subst (λ bs. Resumes w a fs r (with_bindings bs s1) f) (cut s env s1 grows (body_keeps w d)) c,
  )
    where
      cut : (s : State) (env : List Tree) (s1 : State) → Extends s.bindings env → Extends env s1.bindings →
          take (length s.bindings) s1.bindings ≡ s.bindings
      cut s env s1 first second = front_of s.bindings s1.bindings (first.rest ++ second.rest)
          (second.is ∙ ap (λ ys. ys ++ second.rest) first.is ∙ append_assoc s.bindings first.rest second.rest)

  -- the clause that is selected

  taken_leads : (t : Tree) (found : Option (List Tree × Exprs)) (m : Machine) → GrowsTo m.state.bindings found → (f : Final) →
      Comes w (taken (state.exit t) found m).0 (taken (state.exit t) found m).1 f →
      (r : Result) × (s : State) × Taken w m.activation (is_tail m.frames) (state.exit t) found m.state r s ×
      Resumes w m.activation m.frames r s f
  taken_leads t None m grows f c =
      (state.exit t, m.state, rule.no_clause (refl, refl), ended m.activation m.frames t m.state f c)
  taken_leads t (Some (env, body)) m grows f c =
      let d = scope_leads m.activation m.frames (is_tail m.frames) refl m.state env grows body f c in
      (d.0, with_bindings m.state.bindings d.1, rule.taken d.2 refl, d.3)

  selecting_leads : (t : Tree) (cs : Clauses) (ts : Trees) (m : Machine) (f : Final) →
      Comes w (selecting w (state.exit t) cs ts m).0 (selecting w (state.exit t) cs ts m).1 f →
      (r : Result) × (s : State) ×
      Taken w m.activation (is_tail m.frames) (state.exit t) (chosen w cs ts m.state).0 (tried w cs ts m.state) r s ×
      Resumes w m.activation m.frames r s f
  selecting_leads t cs ts m f c =
      taken_leads t (chosen w cs ts m.state).0 (in_state (tried w cs ts m.state) m)
      (selected_grows w.pid m.state.bindings cs ts m.state.calls) f c

  -- functions

  resting_leads : (may nests : Bool) (name : List ℕ) (ps : Pats) (gs : Guards) (cs : Clauses) (ts : Trees) (m : Machine) →
      m.activation.may_rest ≡ may → (f : Final) →
      Comes w (resting may nests w name ps gs ts m).0 (resting may nests w name ps gs ts m).1 f →
      (r : Result) × (s : State) × Entered w m.activation nests name (definition.Loop ps gs cs) ts m.state r s ×
      Resumes w m.activation m.frames r s f
  resting_leads false nests name ps gs cs ts m may f c =
      (not_in_profile, m.state, rule.loop_elsewhere may (refl, refl), ended m.activation m.frames (term.atom (codes "not_in_profile")) m.state f c)
  resting_leads true false name ps gs cs ts m may f c = (
    exit_by (codes "system_limit"),
    m.state,
    rule.loop_too_deep may (refl, refl),
    ended m.activation m.frames (term.atom (codes "system_limit")) m.state f c,
  )
  resting_leads true true name ps gs cs ts m may f c = (
    rested m.activation name ts (chosen w (head_of ps gs) ts m.state).0,
    tried w (head_of ps gs) ts m.state,
    rule.loop may (refl, refl),
    given_leads (rested m.activation name ts (chosen w (head_of ps gs) ts m.state).0)
        (in_state (tried w (head_of ps gs) ts m.state) m) f c,
  )

  entering_leads : (nests : Bool) (name : List ℕ) (d : Definition) (ts : Trees) (m : Machine) → is_tail m.frames ≡ true →
      (f : Final) → Comes w (entering nests w name d ts m).0 (entering nests w name d ts m).1 f →
      (r : Result) × (s : State) × Entered w m.activation nests name d ts m.state r s ×
      Resumes w m.activation m.frames r s f
  entering_leads nests name (definition.Loop ps gs cs) ts m tail f c =
      resting_leads m.activation.may_rest nests name ps gs cs ts m refl f c
  entering_leads false name (definition.Clauses cs) ts m tail f c = (
    exit_by (codes "system_limit"),
    m.state,
    rule.too_deep (refl, refl),
    ended m.activation m.frames (term.atom (codes "system_limit")) m.state f c,
  )
  entering_leads true name (definition.Clauses cs) ts m tail f c =
      let d = selecting_leads (term.atom (codes "function_clause")) cs ts m f c in (
        d.0,
        d.1,
        rule.clauses (subst (λ b. Taken w m.activation b (exit_by (codes "function_clause")) (chosen w cs ts m.state).0
            (tried w cs ts m.state) d.0 d.1) tail d.2),
        d.3,
      )

  pub entered_leads : (name : List ℕ) (d : Definition) (ts : Trees) (m : Machine) → is_tail m.frames ≡ true →
      (f : Final) → Comes w (entered w name d ts m).0 (entered w name d ts m).1 f →
      (r : Result) × (s : State) × Entered w m.activation (may_nest m.activation) name d ts m.state r s ×
      Resumes w m.activation m.frames r s f
  entered_leads name d ts m tail f c = entering_leads (may_nest m.activation) name d ts m tail f c

  into_leads : (b : Bool) (name : List ℕ) (i : Instance) (fn : Function) (ts : Trees) (m : Machine) → is_tail m.frames ≡ b →
      (f : Final) →
      Comes w (entered w name fn.definition ts (into_by b i m)).0 (entered w name fn.definition ts (into_by b i m)).1 f →
      (r : Result) × (s : State) ×
      Entered w (callee m.activation (is_tail m.frames) i) (may_nest (callee m.activation (is_tail m.frames) i)) name
      fn.definition ts (with_bindings [] m.state) r s ×
      Resumes w m.activation m.frames r (with_bindings m.state.bindings s) f
  into_leads true name i fn ts m tail f c =
      let d = entered_leads name fn.definition ts (into_by true i m) tail f c in (
        d.0,
        d.1,
        subst (λ b. Entered w (callee m.activation b i) (may_nest (callee m.activation b i)) name fn.definition ts
            (with_bindings [] m.state) d.0 d.1) (sym tail) d.2,
        forgets (callee m.activation true i) m.activation m.frames tail d.0 m.state.bindings d.1 f d.3,
      )
  into_leads false name i fn ts m tail f c =
      let d = entered_leads name fn.definition ts (into_by false i m) refl f c in (
        d.0,
        d.1,
        subst (λ b. Entered w (callee m.activation b i) (may_nest (callee m.activation b i)) name fn.definition ts
            (with_bindings [] m.state) d.0 d.1) (sym tail) d.2,
        d.3,
      )

  calling_leads : (within : Bool) (name : List ℕ) (function : Option (Instance × Function)) (ts : Trees) (m : Machine)
      (f : Final) → Comes w (calling within w name function ts m).0 (calling within w name function ts m).1 f →
      (r : Result) × (s : State) × Called w m.activation (is_tail m.frames) within name function ts m.state r s ×
      Resumes w m.activation m.frames r s f
  calling_leads false name function ts m f c = (
    exit_by (codes "system_limit"),
    m.state,
    rule.too_many (refl, refl),
    ended m.activation m.frames (term.atom (codes "system_limit")) m.state f c,
  )
  calling_leads true name None ts m f c = (
    exit_by (codes "undef"),
    counted m.state,
    rule.undefined (refl, refl),
    ended m.activation m.frames (term.atom (codes "undef")) (counted m.state) f c,
  )
  calling_leads true name (Some (i, fn)) ts m f c =
      let d = into_leads (is_tail m.frames) name i fn ts (in_state (counted m.state) m) refl f c in
      (d.0, with_bindings m.state.bindings d.1, rule.called d.2 refl, d.3)

  -- functions that are built in

  start_leads : (st : Starter) (request : Request) (m : Machine) (f : Final) →
      Comes w (starting_by w st request m).0 (starting_by w st request m).1 f →
      (r : Result) × (s : State) × Started w m.activation st request m.state r s × Resumes w m.activation m.frames r s f
  start_leads st (refused q) m f c = (q, m.state, rule.refused_start (refl, refl), given_leads q m f c)
  start_leads st (begin registered i name fn ts) m f c =
      let d = entered_leads name fn.definition ts (beginner st registered i m) refl f c in (
        (started w st m.state.bindings i.name d.0 d.1).0,
        (started w st m.state.bindings i.name d.0 d.1).1,
        rule.started_by d.2 (refl, refl),
        d.3,
      )

  settled_leads : (st : Starter) (env : List Tree) (a : Activation) (name : List ℕ) (r : Result) (m : Machine) (f : Final) →
      Comes w (settled_by w st env a name r m).0 (settled_by w st env a name r m).1 f →
      Resumes w a m.frames (started w st env name r m.state).0 (started w st env name r m.state).1 f
  settled_leads st env a name r m f c = given_leads (started w st env name r m.state).0
      (record { activation = a; frames = m.frames; state = (started w st env name r m.state).1 }) f c

  working_leads : (way : Way) (fn : BuiltIn) (ts : Trees) (m : Machine) (f : Final) →
      Comes w (working w way fn ts m).0 (working w way fn ts m).1 f →
      (r : Result) × (s : State) × Worked w m.activation way fn ts m.state r s × Resumes w m.activation m.frames r s f
  working_leads at_once fn ts m f c = (
    given w.pid fn ts,
    after (does fn ts) m.state,
    rule.worked_at_once (refl, refl),
    given_leads (given w.pid fn ts) (in_state (after (does fn ts) m.state) m) f c,
  )
  working_leads naming fn ts m f c = (
    (register_in_mode w w.mode ts m.state).0,
    (register_in_mode w w.mode ts m.state).1,
    rule.named (refl, refl),
    given_leads (register_in_mode w w.mode ts m.state).0 (in_state (register_in_mode w w.mode ts m.state).1 m) f c,
  )
  working_leads (starting st) fn ts m f c =
      let d = start_leads st (asked w st m.state.startup ts) m f c in (d.0, d.1, rule.starts d.2, d.3)

  built_in_leads : (within : Bool) (fn : BuiltIn) (ts : Trees) (m : Machine) (f : Final) →
      Comes w (calling_built_in within w fn ts m).0 (calling_built_in within w fn ts m).1 f →
      (r : Result) × (s : State) × BuiltInCalled w m.activation within fn ts m.state r s ×
      Resumes w m.activation m.frames r s f
  built_in_leads false fn ts m f c = (
    exit_by (codes "system_limit"),
    m.state,
    rule.built_in_too_many (refl, refl),
    ended m.activation m.frames (term.atom (codes "system_limit")) m.state f c,
  )
  built_in_leads true fn ts m f c =
      let d = working_leads (way_of fn) fn ts (in_state (counted m.state) m) f c in
      (d.0, d.1, rule.built_in_called d.2, d.3)

  -- operations

  applying_leads : (op : Operation) (ts : Trees) (m : Machine) (f : Final) →
      Comes w (applying w op ts m).0 (applying w op ts m).1 f →
      (r : Result) × (s : State) × Applied w m.activation (is_tail m.frames) op (all ts) m.state r s ×
      Resumes w m.activation m.frames r s f
  applying_leads operation.Tuple ts m f c =
      (made (term.tuple ts), m.state, rule.tuple (refl, refl), given_leads (made (term.tuple ts)) m f c)
  applying_leads operation.List ts m f c =
      (made (term.list ts), m.state, rule.list (refl, refl), given_leads (made (term.list ts)) m f c)
  applying_leads operation.Cons ts m f c = (consed ts, m.state, rule.cons (refl, refl), given_leads (consed ts) m f c)
  applying_leads (operation.Operator o) ts m f c = (
    operated o ts,
    after (sends o ts) m.state,
    rule.operator (refl, refl),
    given_leads (operated o ts) (in_state (after (sends o ts) m.state) m) f c,
  )
  applying_leads (operation.BuiltIn fn qualified) ts m f c =
      let d = built_in_leads (may_call m.state) fn ts m f c in (d.0, d.1, rule.built_in d.2, d.3)
  applying_leads (operation.Local name) ts m f c =
      let d = calling_leads (may_call m.state) name (local_function m.activation.instance name (count ts)) ts m f c in
      (d.0, d.1, rule.local d.2, d.3)
  applying_leads (operation.Remote called name) ts m f c =
      let d = calling_leads (may_call m.state) name (remote_function w called name (count ts)) ts m f c in
      (d.0, d.1, rule.remote d.2, d.3)

  -- what operands and the operation behind them lead to
  abbrev Operated : Operation → Trees → Exprs → Machine → Final → Type 0
  Operated op ts es m f =
      (v : Values) × (s1 : State) × (q : Result) × (s2 : State) × Operands w m.activation es m.state v s1 ×
      Applied w m.activation (is_tail m.frames) op (before ts v) s1 q s2 × Resumes w m.activation m.frames q s2 f

  -- an operand that is evaluated
  evaluated_leads : (op : Operation) (ts : Trees) (e : Expr) (es : Exprs) (m : Machine) (f : Final) →
      Comes w (machine.evaluate e) (machine.pushed (machine.operands op ts es) m) f → Operated op ts (form.more e es) m f
  evaluated_leads op ts e es m f (r, s, d, (v, s1, q, s2, o, applied, c)) = (v, s1, q, s2, rule.operand d o, applied, c)

  -- an operand that gives its value at once
  known_leads : (op : Operation) (ts : Trees) (e : Expr) (es : Exprs) (m : Machine) (f : Final) (t : Tree) →
      Eval w m.activation false e m.state (state.value t) m.state → Operated op (append_trees ts (term.more t term.none)) es m f →
      Operated op ts (form.more e es) m f
  known_leads op ts e es m f t gives d = (
    with_first t d.0,
    d.1,
    d.2,
    d.3,
    rule.operand gives (rule.others d.4 refl),
    subst (λ v. Applied w m.activation (is_tail m.frames) op v d.1 d.2 d.3) (before_one ts t d.0) d.5,
    d.6,
  )

  -- What an expression gives at once, it is evaluated to, and nothing is done.

  simple_evals : (a : Activation) (e : Expr) (s : State) (t : Tree) → machine.simple e s ≡ Some t →
      Eval w a false e s (state.value t) s
  simple_evals a (form.literal u) s t gives = rule.literal (ap state.value (sym (some_injective gives)), refl)
  simple_evals a (form.variable index) s t gives = rule.variable (sym (ap bound_to gives), refl)
  simple_evals a (form.apply op es) s t gives = absurd (some_none (sym gives))
  simple_evals a (form.match p body) s t gives = absurd (some_none (sym gives))
  simple_evals a (form.block body) s t gives = absurd (some_none (sym gives))
  simple_evals a (form.case subject cs) s t gives = absurd (some_none (sym gives))
  simple_evals a (form.short_circuit c left right) s t gives = absurd (some_none (sym gives))

  operator_evals : (a : Activation) (o : Operator) (e g : Expr) (s : State) (x y : Option Tree) → machine.simple e s ≡ x →
      machine.simple g s ≡ y → (t : Tree) → machine.worked_out (operation.Operator o) (machine.both x y) ≡ Some t →
      Eval w a false (form.apply (operation.Operator o) (form.more e (form.more g form.none))) s (state.value t) s
  operator_evals a o e g s None y first second t gives = absurd (some_none (sym gives))
  operator_evals a o e g s (Some x) None first second t gives = absurd (some_none (sym gives))
  operator_evals a o e g s (Some x) (Some y) first second t gives = rule.apply
      (rule.operand (simple_evals a e s x first) (rule.others
      (rule.operand (simple_evals a g s y second) (rule.others (rule.no_operands refl refl) refl)) refl))
      (rule.operator (alone_gives (sends o (machine.pair_of (x, y))) (operated o (machine.pair_of (x, y))) s t gives))

  apply_evals : (a : Activation) (op : Operation) (es : Exprs) (s : State) (t : Tree) →
      machine.known (form.apply op es) s ≡ Some t → Eval w a false (form.apply op es) s (state.value t) s
  apply_evals a (operation.Operator o) form.none s t gives = absurd (some_none (sym gives))
  apply_evals a (operation.Operator o) (form.more e form.none) s t gives = absurd (some_none (sym gives))
  apply_evals a (operation.Operator o) (form.more e (form.more g form.none)) s t gives =
      operator_evals a o e g s (machine.simple e s) (machine.simple g s) refl refl t gives
  apply_evals a (operation.Operator o) (form.more e (form.more g (form.more h es))) s t gives = absurd (some_none (sym gives))
  apply_evals a operation.Tuple es s t gives = absurd (some_none (sym gives))
  apply_evals a operation.List es s t gives = absurd (some_none (sym gives))
  apply_evals a operation.Cons es s t gives = absurd (some_none (sym gives))
  apply_evals a (operation.BuiltIn f qualified) es s t gives = absurd (some_none (sym gives))
  apply_evals a (operation.Local name) es s t gives = absurd (some_none (sym gives))
  apply_evals a (operation.Remote called name) es s t gives = absurd (some_none (sym gives))

  -- an operand that may give its value at once
  maybe_leads : (op : Operation) (ts : Trees) (e : Expr) (es : Exprs) (m : Machine) (f : Final) (o : Option Tree) →
      ((t : Tree) → o ≡ Some t → Eval w m.activation false e m.state (state.value t) m.state) →
      ((t : Tree) → Comes w (going_on w op (append_trees ts (term.more t term.none)) es m).0
      (going_on w op (append_trees ts (term.more t term.none)) es m).1 f →
      Operated op (append_trees ts (term.more t term.none)) es m f) →
      Comes w
      (option_map_or (λ t. going_on w op (append_trees ts (term.more t term.none)) es m) o
      (machine.evaluate e, machine.pushed (machine.operands op ts es) m)).0
      (option_map_or (λ t. going_on w op (append_trees ts (term.more t term.none)) es m) o
      (machine.evaluate e, machine.pushed (machine.operands op ts es) m)).1 f →
      Operated op ts (form.more e es) m f
  maybe_leads op ts e es m f None gives go c = evaluated_leads op ts e es m f c
  maybe_leads op ts e es m f (Some t) gives go c = known_leads op ts e es m f t (gives t refl) (go t c)

  going_on_leads : (op : Operation) (ts : Trees) (es : Exprs) (m : Machine) (f : Final) →
      Comes w (going_on w op ts es m).0 (going_on w op ts es m).1 f → Operated op ts es m f
  going_on_leads op ts form.none m f c =
      let d = applying_leads op ts m f c in (
        all term.none,
        m.state,
        d.0,
        d.1,
        rule.no_operands refl refl,
        subst (λ v. Applied w m.activation (is_tail m.frames) op v m.state d.0 d.1) (sym (before_all ts)) d.2,
        d.3,
      )
  going_on_leads op ts (form.more (form.literal t) es) m f c =
      known_leads op ts (form.literal t) es m f t (rule.literal (refl, refl))
      (going_on_leads op (append_trees ts (term.more t term.none)) es m f c)
  going_on_leads op ts (form.more (form.variable index) es) m f c =
      maybe_leads op ts (form.variable index) es m f (slice_get m.state.bindings index)
      (λ t gives. rule.variable (sym (ap bound_to gives), refl))
      (λ t d. going_on_leads op (append_trees ts (term.more t term.none)) es m f d) c
  going_on_leads op ts (form.more (form.apply o args) es) m f c =
      maybe_leads op ts (form.apply o args) es m f (machine.known (form.apply o args) m.state)
      (λ t gives. apply_evals m.activation o args m.state t gives)
      (λ t d. going_on_leads op (append_trees ts (term.more t term.none)) es m f d) c
  going_on_leads op ts (form.more (form.match p body) es) m f c = evaluated_leads op ts (form.match p body) es m f c
  going_on_leads op ts (form.more (form.block body) es) m f c = evaluated_leads op ts (form.block body) es m f c
  going_on_leads op ts (form.more (form.case subject cs) es) m f c = evaluated_leads op ts (form.case subject cs) es m f c
  going_on_leads op ts (form.more (form.short_circuit o left right) es) m f c =
      evaluated_leads op ts (form.short_circuit o left right) es m f c

  -- expressions and bodies

  beginning_leads : (e : Expr) (m : Machine) (f : Final) → Comes w (beginning w e m).0 (beginning w e m).1 f →
      Comes w (machine.evaluate e) m f
  beginning_leads (form.literal t) m f c = (state.value t, m.state, rule.literal (refl, refl), c)
  beginning_leads (form.variable index) m f c = (
    bound_to (slice_get m.state.bindings index),
    m.state,
    rule.variable (refl, refl),
    given_leads (bound_to (slice_get m.state.bindings index)) m f c,
  )
  beginning_leads (form.apply op es) m f c =
      let d = going_on_leads op term.none es m f c in (d.2, d.3, rule.apply d.4 d.5, d.6)
  beginning_leads (form.match p body) m f (r, s, d, (q, s1, b, c)) = (q, s1, rule.match d b, c)
  beginning_leads (form.block body) m f (r, s, d, c) = (r, s, rule.block d, c)
  beginning_leads (form.case subject cs) m f (r, s, d, (q, s1, b, c)) = (q, s1, rule.case d b, c)
  beginning_leads (form.short_circuit o left right) m f (r, s, d, (q, s1, b, c)) = (q, s1, rule.short_circuit d b, c)

  last_leads : (e : Expr) (m : Machine) (f : Final) → Comes w (machine.evaluate e) m f →
      Comes w (machine.run (form.more e form.none)) m f
  last_leads e m f (r, s, d, c) = (r, s, rule.last d, c)

  next_leads : (e g : Expr) (es : Exprs) (m : Machine) (f : Final) →
      Comes w (machine.evaluate e) (machine.pushed (machine.onward (form.more g es)) m) f →
      Comes w (machine.run (form.more e (form.more g es))) m f
  next_leads e g es m f (r, s, d, (q, s1, o, c)) = (q, s1, rule.next d o, c)

  running_leads : (es : Exprs) (m : Machine) (f : Final) → Comes w (running w es m).0 (running w es m).1 f →
      Comes w (machine.run es) m f
  running_leads form.none m f c = (
    exit_by (codes "undef"),
    m.state,
    rule.empty (refl, refl),
    ended m.activation m.frames (term.atom (codes "undef")) m.state f c,
  )
  running_leads (form.more e form.none) m f c = last_leads e m f (beginning_leads e m f c)
  running_leads (form.more e (form.more g es)) m f c =
      next_leads e g es m f (beginning_leads e (machine.pushed (machine.onward (form.more g es)) m) f c)

  -- what waits for a value

  bound_leads : (o : Option (List Tree)) (t : Tree) (m : Machine) (f : Final) →
      Comes w (bound_by o t m).0 (bound_by o t m).1 f →
      Resumes w m.activation m.frames (bound o t m.state).0 (bound o t m.state).1 f
  bound_leads None t m f c = ended m.activation m.frames (state.pair (term.atom (codes "badmatch")) t) m.state f c
  bound_leads (Some env) t m f c = c

  decided_leads : (o : Option Bool) (d : Connective) (right : Exprs) (t : Tree) → truth_of t ≡ o → (m : Machine) (f : Final) →
      Comes w (decided_by o d right t m).0 (decided_by o d right t m).1 f →
      (r : Result) × (s : State) × Decided w m.activation (is_tail m.frames) d right (state.value t) m.state r s ×
      Resumes w m.activation m.frames r s f
  decided_leads None d right t truth m f c = (
    exit_by_pair (codes "badarg") t,
    m.state,
    rule.no_truth truth (refl, refl),
    ended m.activation m.frames (state.pair (term.atom (codes "badarg")) t) m.state f c,
  )
  decided_leads (Some true) AndAlso right t truth m f c =
      let d = scope_leads m.activation m.frames (is_tail m.frames) refl m.state m.state.bindings (extends_itself m.state.bindings)
      right f c in
      (d.0, with_bindings m.state.bindings d.1, rule.undecided truth (λ same. absurd (cc)) d.2 refl, d.3)
  decided_leads (Some true) OrElse right t truth m f c = (state.value t, m.state, rule.decided truth (refl, refl), c)
  decided_leads (Some false) AndAlso right t truth m f c = (state.value t, m.state, rule.decided truth (refl, refl), c)
  decided_leads (Some false) OrElse right t truth m f c =
      let d = scope_leads m.activation m.frames (is_tail m.frames) refl m.state m.state.bindings (extends_itself m.state.bindings)
      right f c in
      (d.0, with_bindings m.state.bindings d.1, rule.undecided truth (λ same. absurd (cc)) d.2 refl, d.3)

  resuming_leads : (frame : Frame) (t : Tree) (m : Machine) (f : Final) →
      Comes w (resuming w frame t m).0 (resuming w frame t m).1 f →
      Resumes w m.activation (frame ∷ m.frames) (state.value t) m.state f
  resuming_leads (machine.operands op ts es) t m f c =
      let d = going_on_leads op (append_trees ts (term.more t term.none)) es m f c in (
        with_first t d.0,
        d.1,
        d.2,
        d.3,
        rule.others d.4 refl,
        subst (λ v. Applied w m.activation (is_tail m.frames) op v d.1 d.2 d.3) (before_one ts t d.0) d.5,
        d.6,
      )
  resuming_leads (machine.onward es) t m f (r, s, d, c) = (r, s, rule.onward d, c)
  resuming_leads (machine.binding p) t m f c = (
    (bound (matched p t m.state.bindings) t m.state).0,
    (bound (matched p t m.state.bindings) t m.state).1,
    rule.matched_to (refl, refl),
    bound_leads (matched p t m.state.bindings) t m f c,
  )
  resuming_leads (machine.cases cs) t m f c =
      let d = selecting_leads (state.pair (term.atom (codes "case_clause")) t) cs (term.more t term.none) m f c in
      (d.0, d.1, rule.cased d.2, d.3)
  resuming_leads (machine.deciding o right) t m f c = decided_leads (truth_of t) o right t refl m f c
  resuming_leads (machine.scope n) t m f c = c
  resuming_leads (machine.caller env b) t m f c = c
  resuming_leads (machine.starter st env b name) t m f c = settled_leads st env b name (state.value t) m f c

  settling_at_leads : (frame : Frame) (p : Place) (m : Machine) (f : Final) →
      Comes w (settling_at w frame p m).0 (settling_at w frame p m).1 f →
      Resumes w m.activation (frame ∷ m.frames) (state.rest p) m.state f
  settling_at_leads (machine.operands op ts es) p m f c = (
    stopped (state.rest p),
    m.state,
    state.rest p,
    m.state,
    rule.operand_ended tt refl refl,
    subst (λ v. Applied w m.activation (is_tail m.frames) op v m.state (state.rest p) m.state)
        (sym (before_stopped ts (state.rest p))) (rule.operands_ended (refl, refl)),
    c,
  )
  settling_at_leads (machine.onward es) p m f c = (state.rest p, m.state, rule.body_ended tt (refl, refl), c)
  settling_at_leads (machine.binding q) p m f c = (state.rest p, m.state, rule.right_ended tt (refl, refl), c)
  settling_at_leads (machine.cases cs) p m f c = (state.rest p, m.state, rule.subject_ended tt (refl, refl), c)
  settling_at_leads (machine.deciding o right) p m f c = (state.rest p, m.state, rule.left_ended tt (refl, refl), c)
  settling_at_leads (machine.scope n) p m f c = c
  settling_at_leads (machine.caller env b) p m f c = c
  settling_at_leads (machine.starter st env b name) p m f c = settled_leads st env b name (state.rest p) m f c

  settling_leads : (p : Place) (a : Activation) (fs : List Frame) (s : State) (f : Final) →
      Comes w (settling w p fs (record { activation = a; frames = fs; state = s })).0
      (settling w p fs (record { activation = a; frames = fs; state = s })).1 f → Resumes w a fs (state.rest p) s f
  settling_leads p a [] s f c = c
  settling_leads p a (frame ∷ fs) s f c = settling_at_leads frame p (record { activation = a; frames = fs; state = s }) f c

  giving_leads : (t : Tree) (a : Activation) (fs : List Frame) (s : State) (f : Final) →
      Comes w (giving w t fs (record { activation = a; frames = fs; state = s })).0
      (giving w t fs (record { activation = a; frames = fs; state = s })).1 f → Resumes w a fs (state.value t) s f
  giving_leads t a [] s f c = c
  giving_leads t a (frame ∷ fs) s f c = resuming_leads frame t (record { activation = a; frames = fs; state = s }) f c

  pub step_leads : (next : Control) (m : Machine) (f : Final) → Comes w (stepping w next m).0 (stepping w next m).1 f →
      Comes w next m f
  step_leads (machine.evaluate e) m f c = beginning_leads e m f c
  step_leads (machine.run es) m f c = running_leads es m f c
  step_leads (machine.give t) m f c = giving_leads t m.activation m.frames m.state f c
  step_leads (machine.settle p) m f c = settling_leads p m.activation m.frames m.state f c
  step_leads (machine.end r) m f c = c
