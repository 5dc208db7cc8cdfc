-- Each step leaves less to do.
use Rattle.std.specs.Prelude.{◌≡◌, ◌≤◌, ◌<◌, ℕ, ◌+◌, ◌-◌, Bool, true, false, List, ◌∷◌, [], length, take, codes, refl}
use Rattle.std.specs.Prelude.{Option, None, Some, slice_get}
use Rattle.std.specs.Option.{option_map_or}
use Rattle.std.proofs.Common.{arith}
use Rattle.std.proofs.lemmas.Nat.{mul-le}
use borrow.Author.Tests.{ltb-true}
use Rattle.erl_term.specs.Tree as term
use Rattle.erl_term.specs.Tree.{Tree, Trees, count}
use Rattle.erl_term.specs.Rows.{append_trees}
use Rattle.erl_ir.specs.declared.operation.BuiltIn.{BuiltIn}
use Rattle.erl_ir.specs.declared.operation.Connective.{Connective}
use Rattle.erl_ir.specs.declared.operation.Connective.TheVariants.{AndAlso, OrElse}
use Rattle.erl_ir.specs.declared.operation.Operation.{Operation}
use Rattle.erl_ir.specs.declared.operation.Operation.TheVariants as operation
use Rattle.erl_ir.specs.declared.function.Function.{Function}
use Rattle.erl_ir.specs.declared.function.Definition.{Definition}
use Rattle.erl_ir.specs.declared.function.Definition.TheVariants as definition
use Rattle.erl_ir.specs.Expression as form
use Rattle.erl_ir.specs.Expression.{Expr, Exprs, Guards, Clauses}
use Rattle.erl_ir.specs.Pattern.{Pats}
use Rattle.erl_semantics.specs.State as state
use Rattle.erl_semantics.specs.State.{Instance, Place, Result, World, Activation, State, made, bound_to, after}
use Rattle.erl_semantics.specs.Operators.{operated, sends, truth_of, consed}
use Rattle.erl_semantics.specs.BuiltIns.{given, does}
use Rattle.erl_semantics.specs.Matching.{matched}
use Rattle.erl_semantics.specs.Starting.{Starter, Way, at_once, naming, starting, way_of, Request, refused, begin, asked, started}
use Rattle.erl_semantics.specs.Starting.{register_in_mode, remote_function}
use Rattle.erl_semantics.specs.Evaluation.{may_call, counted, may_nest, local_function, rested, head_of, chosen, tried}
use Rattle.erl_steps.specs.Machine as machine
use Rattle.erl_steps.specs.Machine.{Frame, is_tail, Control, Machine, Next, of_result, in_state, scoped_by, taken, selecting}
use Rattle.erl_steps.specs.Machine.{resting, entering, entered, into_by, into, calling, beginner, starting_by, settled_by, working}
use Rattle.erl_steps.specs.Machine.{calling_built_in, applying, going_on, beginning, running, bound_by, decided_by, resuming}
use Rattle.erl_steps.specs.Machine.{settling_at, settling, giving, stepping}
use Rattle.erl_steps.specs.Work.{expr_weight, row_weight, clauses_weight, definition_weight, instance_weight, code_weight}
use Rattle.erl_steps.specs.Work.{callers_weight, call_weight, control_weight, frames_weight, work, work_left}
use Rattle.erl_steps.specs.Laws.{HasEnded}
use Rattle.erl_steps.proofs.Calls.{BodyWithin, selected_within, act_counts, start_counts}
use Rattle.erl_steps.proofs.Callees.{LightCallee, local_is_light, remote_is_light, LightRequest, asked_is_light}
use Rattle.erl_steps.proofs.Growing.{register_keeps}

-- numbers

less_besides : (n n' h h' x x' : ℕ) → n ≤ n' → h' ≤ h → x' < x → work n' h' x' < work n h x
unfolding work
less_besides n n' h h' x x' counts le less =
    omega (arith, mul-le (10000 - n') h' (10000 - n) h (omega arith) le, less)

less_by_a_call : (n n' h h' x x' : ℕ) → n < n' → n < 10000 → h' ≤ h → x' < h + x → work n' h' x' < work n h x
unfolding work
less_by_a_call n n' h h' x x' counts within le less =
    omega (
      arith,
      mul-le (10000 - n' + 1) h (10000 - n) h (omega arith) (omega arith),
      mul-le (10000 - n') h' (10000 - n') h (omega arith) le,
      less,
    )

module _ (w : World) where
  -- what comes next weighs so much at most, and the calls are no fewer and no heavier than those of a machine
  record Bounded (m : Machine) (x : ℕ) (next : Next) : Type 0 where
    pub counts : m.state.calls ≤ next.1.state.calls
    pub calls : call_weight w next.1 ≤ call_weight w m
    pub weighs : control_weight next.0 + frames_weight next.1.frames ≤ x

  -- there is less to do behind it than these
  abbrev Falls : ℕ → ℕ → ℕ → Next → Type 0
  Falls n h x next = work_left w next.0 next.1 < work n h x

  falls : (m : Machine) (n h x y : ℕ) (next : Next) → Bounded m y next → n ≤ m.state.calls → call_weight w m ≤ h → y < x →
      Falls n h x next
  falls m n h x y next bounded counts le less =
      less_besides n next.1.state.calls h (call_weight w next.1) x (control_weight next.0 + frames_weight next.1.frames)
      (omega (arith, bounded.counts)) (omega (arith, bounded.calls)) (omega (arith, bounded.weighs))

  falls_by_a_call : (m : Machine) (n h x y : ℕ) (next : Next) → Bounded m y next → n < m.state.calls → n < 10000 →
      call_weight w m ≤ h → y < h + x → Falls n h x next
  falls_by_a_call m n h x y next bounded counts within le less =
      less_by_a_call n next.1.state.calls h (call_weight w next.1) x (control_weight next.0 + frames_weight next.1.frames)
      (omega (arith, bounded.counts)) within (omega (arith, bounded.calls)) (omega (arith, bounded.weighs))

  bounded_by : (m m' : Machine) (x y : ℕ) (next : Next) → Bounded m' y next → m.state.calls ≤ m'.state.calls →
      call_weight w m' ≤ call_weight w m → y ≤ x → Bounded m x next
  bounded_by m m' x y next bounded counts le less = record {
    counts = omega (arith, bounded.counts);
    calls = omega (arith, bounded.calls);
    weighs = omega (arith, bounded.weighs);
  }

  -- what is given at once
  given_bounded : (r : Result) (m : Machine) → Bounded m (1 + frames_weight m.frames) (of_result r, m)
  given_bounded (state.value t) m = record { counts = omega arith; calls = omega arith; weighs = omega arith }
  given_bounded (state.rest p) m = record { counts = omega arith; calls = omega arith; weighs = omega arith }
  given_bounded (state.exit t) m = record { counts = omega arith; calls = omega arith; weighs = omega arith }

  ended_bounded : (r : Result) (m : Machine) → Bounded m (frames_weight m.frames) (machine.end r, m)
  ended_bounded r m = record { counts = omega arith; calls = omega arith; weighs = omega arith }

  -- the clause that is selected

  scope_callers : (b : Bool) (n : ℕ) (fs : List Frame) → callers_weight (scoped_by b n fs) ≡ callers_weight fs
  scope_callers true n fs = refl
  scope_callers false n fs = refl

  scope_weight : (b : Bool) (n : ℕ) (fs : List Frame) → frames_weight (scoped_by b n fs) ≤ 1 + frames_weight fs
  scope_weight true n fs = omega arith
  scope_weight false n fs = omega arith

  scope_bounded : (b : Bool) (n : ℕ) (body : Exprs) (m : Machine) (s : State) → m.state.calls ≤ s.calls →
      Bounded m (row_weight body + 1 + frames_weight m.frames)
      (machine.run body, record { activation = m.activation; frames = scoped_by b n m.frames; state = s })
  scope_bounded true n body m s counts = record { counts = counts; calls = omega arith; weighs = omega arith }
  scope_bounded false n body m s counts = record { counts = counts; calls = omega arith; weighs = omega arith }

  taken_bounded : (t : Tree) (found : Option (List Tree × Exprs)) (m : Machine) (b : ℕ) → BodyWithin b found →
      Bounded m (b + 1 + frames_weight m.frames) (taken (state.exit t) found m)
  taken_bounded t None m b light =
      bounded_by m m (b + 1 + frames_weight m.frames) (frames_weight m.frames) (machine.end (state.exit t), m)
      (ended_bounded (state.exit t) m) (omega arith) (omega arith) (omega arith)
  taken_bounded t (Some (env, body)) m b light =
      bounded_by m m (b + 1 + frames_weight m.frames) (row_weight body + 1 + frames_weight m.frames)
      (taken (state.exit t) (Some (env, body)) m)
      (scope_bounded (is_tail m.frames) (length m.state.bindings) body m (state.with_bindings env m.state) (omega arith))
      (omega arith) (omega arith) (omega (arith, light))

  selecting_bounded : (t : Tree) (cs : Clauses) (ts : Trees) (m : Machine) →
      Bounded m (clauses_weight cs + 1 + frames_weight m.frames) (selecting w (state.exit t) cs ts m)
  selecting_bounded t cs ts m =
      let within = selected_within w.pid m.state.bindings cs ts m.state.calls in
      bounded_by m (in_state (tried w cs ts m.state) m) (clauses_weight cs + 1 + frames_weight m.frames)
      (clauses_weight cs + 1 + frames_weight m.frames) (selecting w (state.exit t) cs ts m)
      (taken_bounded t (chosen w cs ts m.state).0 (in_state (tried w cs ts m.state) m) (clauses_weight cs) within.body)
      within.counts (omega arith) (omega arith)

  -- a function is entered

  resting_bounded : (may nests : Bool) (name : List ℕ) (ps : Pats) (gs : Guards) (ts : Trees) (m : Machine) →
      Bounded m (1 + frames_weight m.frames) (resting may nests w name ps gs ts m)
  resting_bounded false nests name ps gs ts m = record { counts = omega arith; calls = omega arith; weighs = omega arith }
  resting_bounded true false name ps gs ts m = record { counts = omega arith; calls = omega arith; weighs = omega arith }
  resting_bounded true true name ps gs ts m =
      bounded_by m (in_state (tried w (head_of ps gs) ts m.state) m) (1 + frames_weight m.frames) (1 + frames_weight m.frames)
      (resting true true w name ps gs ts m)
      (given_bounded (rested m.activation name ts (chosen w (head_of ps gs) ts m.state).0)
      (in_state (tried w (head_of ps gs) ts m.state) m))
      (selected_within w.pid m.state.bindings (head_of ps gs) ts m.state.calls).counts (omega arith) (omega arith)

  entering_bounded : (nests : Bool) (name : List ℕ) (d : Definition) (ts : Trees) (m : Machine) →
      Bounded m (definition_weight d + 1 + frames_weight m.frames) (entering nests w name d ts m)
  entering_bounded nests name (definition.Loop ps gs cs) ts m =
      bounded_by m m (1 + frames_weight m.frames) (1 + frames_weight m.frames)
      (resting m.activation.may_rest nests w name ps gs ts m)
      (resting_bounded m.activation.may_rest nests name ps gs ts m) (omega arith) (omega arith) (omega arith)
  entering_bounded false name (definition.Clauses cs) ts m =
      record { counts = omega arith; calls = omega arith; weighs = omega arith }
  entering_bounded true name (definition.Clauses cs) ts m = selecting_bounded (term.atom (codes "function_clause")) cs ts m

  -- a function is called

  -- what is the call weighs no more, where the instance is one of those that are known
  into_weighs : (b : Bool) (i : Instance) (m : Machine) → 1 + instance_weight i ≤ call_weight w m →
      call_weight w (into_by b i m) ≤ call_weight w m
  into_weighs true i m known = omega (arith, known)
  into_weighs false i m known = omega (arith, known)

  into_frames : (b : Bool) (i : Instance) (m : Machine) → frames_weight (into_by b i m).frames ≤ 1 + frames_weight m.frames
  into_frames true i m = omega arith
  into_frames false i m = omega arith

  into_counts : (b : Bool) (i : Instance) (m : Machine) → (into_by b i m).state.calls ≡ m.state.calls
  into_counts true i m = refl
  into_counts false i m = refl

  called_falls : (m m' : Machine) (x : ℕ) (name : List ℕ) (d : Definition) (ts : Trees) → m.state.calls < 10000 →
      m'.state.calls ≡ m.state.calls + 1 → call_weight w m' ≤ call_weight w m → 1 + definition_weight d ≤ call_weight w m →
      frames_weight m'.frames ≤ 1 + frames_weight m.frames → 2 + frames_weight m.frames ≤ x →
      Falls m.state.calls (call_weight w m) x (entered w name d ts m')
  called_falls m m' x name d ts within counts calls light frames le =
      falls_by_a_call m' m.state.calls (call_weight w m) x (definition_weight d + 1 + frames_weight m'.frames)
      (entered w name d ts m') (entering_bounded (may_nest m'.activation) name d ts m') (omega (arith, counts)) within calls
      (omega (arith, light, frames, le))

  calling_falls : (within : Bool) (name : List ℕ) (found : Option (Instance × Function)) (ts : Trees) (m : Machine) (x n : ℕ) →
      may_call m.state ≡ within → LightCallee n found → 1 + n ≤ call_weight w m → 2 + frames_weight m.frames ≤ x →
      Falls m.state.calls (call_weight w m) x (calling within w name found ts m)
  calling_falls false name found ts m x n may light known le =
      falls m m.state.calls (call_weight w m) x (frames_weight m.frames) (calling false w name found ts m)
      (ended_bounded (state.exit_by (codes "system_limit")) m) (omega arith) (omega arith) (omega (arith, le))
  calling_falls true name None ts m x n may light known le =
      falls (in_state (counted m.state) m) m.state.calls (call_weight w m) x (frames_weight m.frames)
      (calling true w name None ts m) (ended_bounded (state.exit_by (codes "undef")) (in_state (counted m.state) m))
      (omega arith) (omega arith) (omega (arith, le))
  calling_falls true name (Some (i, f)) ts m x n may light known le =
      let m1 = in_state (counted m.state) m in
      called_falls m (into i m1) x name f.definition ts (ltb-true m.state.calls 10000 may) (into_counts (is_tail m.frames) i m1)
      (into_weighs (is_tail m.frames) i m1 (omega (arith, light.0, known))) (omega (arith, light.1, known))
      (into_frames (is_tail m.frames) i m1) le

  -- a function that is built in is called

  begun_weighs : (st : Starter) (registered : Option (List ℕ)) (i : Instance) (m : Machine) →
      1 + instance_weight i ≤ call_weight w m → call_weight w (beginner st registered i m) ≤ call_weight w m
  begun_weighs st registered i m known = omega (arith, known)

  start_falls : (st : Starter) (request : Request) (m : Machine) (x : ℕ) → m.state.calls < 10000 →
      LightRequest (code_weight w.code) request → 2 + frames_weight m.frames ≤ x →
      Falls m.state.calls (call_weight w m) x (starting_by w st request (in_state (counted m.state) m))
  start_falls st (refused q) m x within light le =
      falls (in_state (counted m.state) m) m.state.calls (call_weight w m) x (1 + frames_weight m.frames)
      (of_result q, in_state (counted m.state) m) (given_bounded q (in_state (counted m.state) m))
      (omega arith) (omega arith) (omega (arith, le))
  start_falls st (begin registered i name f ts) m x within light le =
      called_falls m (beginner st registered i (in_state (counted m.state) m)) x name f.definition ts within refl
      (begun_weighs st registered i (in_state (counted m.state) m) (omega (arith, light.0))) (omega (arith, light.1))
      (omega arith) le

  working_falls : (way : Way) (f : BuiltIn) (ts : Trees) (m : Machine) (x : ℕ) → m.state.calls < 10000 →
      2 + frames_weight m.frames ≤ x →
      Falls m.state.calls (call_weight w m) x (working w way f ts (in_state (counted m.state) m))
  working_falls at_once f ts m x within le =
      let s = after (does f ts) (counted m.state) in
      falls (in_state s m) m.state.calls (call_weight w m) x (1 + frames_weight m.frames)
      (of_result (given w.pid f ts), in_state s m) (given_bounded (given w.pid f ts) (in_state s m))
      (omega (arith, act_counts (does f ts) (counted m.state))) (omega arith) (omega (arith, le))
  working_falls naming f ts m x within le =
      let p = register_in_mode w w.mode ts (counted m.state) in
      falls (in_state p.1 m) m.state.calls (call_weight w m) x (1 + frames_weight m.frames)
      (of_result p.0, in_state p.1 m) (given_bounded p.0 (in_state p.1 m))
      (omega (arith, (register_keeps w w.mode ts (counted m.state)).1)) (omega arith) (omega (arith, le))
  working_falls (starting st) f ts m x within le =
      start_falls st (asked w st m.state.startup ts) m x within (asked_is_light w m.state.startup st ts) le

  built_in_falls : (within : Bool) (f : BuiltIn) (ts : Trees) (m : Machine) (x : ℕ) → may_call m.state ≡ within →
      2 + frames_weight m.frames ≤ x → Falls m.state.calls (call_weight w m) x (calling_built_in within w f ts m)
  built_in_falls false f ts m x may le =
      falls m m.state.calls (call_weight w m) x (frames_weight m.frames) (calling_built_in false w f ts m)
      (ended_bounded (state.exit_by (codes "system_limit")) m) (omega arith) (omega arith) (omega (arith, le))
  built_in_falls true f ts m x may le = working_falls (way_of f) f ts m x (ltb-true m.state.calls 10000 may) le

  -- operations

  at_once_falls : (r : Result) (m : Machine) (s : State) (x : ℕ) → s.calls ≡ m.state.calls → 2 + frames_weight m.frames ≤ x →
      Falls m.state.calls (call_weight w m) x (of_result r, in_state s m)
  at_once_falls r m s x same le =
      falls (in_state s m) m.state.calls (call_weight w m) x (1 + frames_weight m.frames) (of_result r, in_state s m)
      (given_bounded r (in_state s m)) (omega (arith, same)) (omega arith) (omega (arith, le))

  applying_falls : (op : Operation) (ts : Trees) (m : Machine) (x : ℕ) → 2 + frames_weight m.frames ≤ x →
      Falls m.state.calls (call_weight w m) x (applying w op ts m)
  applying_falls operation.Tuple ts m x le = at_once_falls (made (term.tuple ts)) m m.state x refl le
  applying_falls operation.List ts m x le = at_once_falls (made (term.list ts)) m m.state x refl le
  applying_falls operation.Cons ts m x le = at_once_falls (consed ts) m m.state x refl le
  applying_falls (operation.Operator o) ts m x le =
      at_once_falls (operated o ts) m (after (sends o ts) m.state) x (act_counts (sends o ts) m.state) le
  applying_falls (operation.BuiltIn f qualified) ts m x le = built_in_falls (may_call m.state) f ts m x refl le
  applying_falls (operation.Local name) ts m x le =
      let i = m.activation.instance in
      calling_falls (may_call m.state) name (local_function i name (count ts)) ts m x (instance_weight i) refl
      (local_is_light i name (count ts) (instance_weight i) (omega arith)) (omega arith) le
  applying_falls (operation.Remote called name) ts m x le =
      calling_falls (may_call m.state) name (remote_function w called name (count ts)) ts m x (code_weight w.code) refl
      (remote_is_light w called name (count ts)) (omega arith) le

  -- what is no call, and gives what weighs less
  moves : (m m' : Machine) (next : Control) (x : ℕ) → m.state.calls ≤ m'.state.calls → call_weight w m' ≤ call_weight w m →
      control_weight next + frames_weight m'.frames < x → Falls m.state.calls (call_weight w m) x (next, m')
  moves m m' next x counts calls less =
      less_besides m.state.calls m'.state.calls (call_weight w m) (call_weight w m') x
      (control_weight next + frames_weight m'.frames) counts calls less

  operand_falls : (op : Operation) (ts : Trees) (e : Expr) (es : Exprs) (m : Machine) (x : ℕ) →
      1 + row_weight (form.more e es) + frames_weight m.frames ≤ x →
      Falls m.state.calls (call_weight w m) x (machine.evaluate e, machine.pushed (machine.operands op ts es) m)
  operand_falls op ts e es m x le =
      moves m (machine.pushed (machine.operands op ts es) m) (machine.evaluate e) x (omega arith) (omega arith) (omega (arith, le))

  -- an operand that may give its value at once
  known_falls : (op : Operation) (ts : Trees) (e : Expr) (es : Exprs) (m : Machine) (x : ℕ) (o : Option Tree) →
      1 + row_weight (form.more e es) + frames_weight m.frames ≤ x →
      ((t : Tree) → Falls m.state.calls (call_weight w m) x (going_on w op (append_trees ts (term.more t term.none)) es m)) →
      Falls m.state.calls (call_weight w m) x
      (option_map_or (λ t. going_on w op (append_trees ts (term.more t term.none)) es m) o
      (machine.evaluate e, machine.pushed (machine.operands op ts es) m))
  known_falls op ts e es m x None le go = operand_falls op ts e es m x le
  known_falls op ts e es m x (Some t) le go = go t

  going_on_falls : (op : Operation) (ts : Trees) (es : Exprs) (m : Machine) (x : ℕ) → 1 + row_weight es + frames_weight m.frames ≤ x →
      Falls m.state.calls (call_weight w m) x (going_on w op ts es m)
  going_on_falls op ts form.none m x le = applying_falls op ts m x (omega (arith, le))
  going_on_falls op ts (form.more (form.literal t) es) m x le =
      going_on_falls op (append_trees ts (term.more t term.none)) es m x (omega (arith, le))
  going_on_falls op ts (form.more (form.variable index) es) m x le =
      known_falls op ts (form.variable index) es m x (slice_get m.state.bindings index) le
      (λ t. going_on_falls op (append_trees ts (term.more t term.none)) es m x (omega (arith, le)))
  going_on_falls op ts (form.more (form.apply o args) es) m x le =
      known_falls op ts (form.apply o args) es m x (machine.known (form.apply o args) m.state) le
      (λ t. going_on_falls op (append_trees ts (term.more t term.none)) es m x (omega (arith, le)))
  going_on_falls op ts (form.more (form.match p body) es) m x le = operand_falls op ts (form.match p body) es m x le
  going_on_falls op ts (form.more (form.block body) es) m x le = operand_falls op ts (form.block body) es m x le
  going_on_falls op ts (form.more (form.case subject cs) es) m x le = operand_falls op ts (form.case subject cs) es m x le
  going_on_falls op ts (form.more (form.short_circuit c left right) es) m x le =
      operand_falls op ts (form.short_circuit c left right) es m x le

  -- expressions and bodies

  beginning_falls : (e : Expr) (m : Machine) →
      Falls m.state.calls (call_weight w m) (expr_weight e + frames_weight m.frames) (beginning w e m)
  beginning_falls (form.literal t) m =
      moves m m (machine.give t) (2 + frames_weight m.frames) (omega arith) (omega arith) (omega arith)
  beginning_falls (form.variable index) m =
      at_once_falls (bound_to (slice_get m.state.bindings index)) m m.state (2 + frames_weight m.frames) refl (omega arith)
  beginning_falls (form.apply op es) m =
      going_on_falls op term.none es m (1 + row_weight es + frames_weight m.frames) (omega arith)
  beginning_falls (form.match p body) m = moves m (machine.pushed (machine.binding p) m) (machine.run body)
      (2 + row_weight body + frames_weight m.frames) (omega arith) (omega arith) (omega arith)
  beginning_falls (form.block body) m =
      moves m m (machine.run body) (1 + row_weight body + frames_weight m.frames) (omega arith) (omega arith) (omega arith)
  beginning_falls (form.case subject cs) m = moves m (machine.pushed (machine.cases cs) m) (machine.run subject)
      (2 + row_weight subject + clauses_weight cs + frames_weight m.frames) (omega arith) (omega arith) (omega arith)
  beginning_falls (form.short_circuit c left right) m = moves m (machine.pushed (machine.deciding c right) m) (machine.run left)
      (2 + row_weight left + row_weight right + frames_weight m.frames) (omega arith) (omega arith) (omega arith)

  -- what is less than a part is less than the whole
  falls_below : (n h x y : ℕ) (next : Next) → x ≤ y → Falls n h x next → Falls n h y next
  unfolding work
  falls_below n h x y next le less = omega (arith, le, less)

  running_falls : (es : Exprs) (m : Machine) →
      Falls m.state.calls (call_weight w m) (row_weight es + frames_weight m.frames) (running w es m)
  running_falls form.none m = moves m m (machine.end (state.exit_by (codes "undef"))) (1 + frames_weight m.frames)
      (omega arith) (omega arith) (omega arith)
  running_falls (form.more e form.none) m =
      falls_below m.state.calls (call_weight w m) (expr_weight e + frames_weight m.frames)
      (row_weight (form.more e form.none) + frames_weight m.frames) (beginning w e m) (omega arith) (beginning_falls e m)
  running_falls (form.more e (form.more f es)) m =
      let behind = machine.pushed (machine.onward (form.more f es)) m in
      falls_below m.state.calls (call_weight w m) (expr_weight e + frames_weight behind.frames)
      (row_weight (form.more e (form.more f es)) + frames_weight m.frames) (beginning w e behind) (omega arith)
      (beginning_falls e behind)

  -- what waits for a value

  some_row : (es : Exprs) → 1 ≤ row_weight es
  some_row form.none = omega arith
  some_row (form.more e es) = omega arith

  bound_falls : (o : Option (List Tree)) (t : Tree) (m : Machine) (x : ℕ) → 2 + frames_weight m.frames ≤ x →
      Falls m.state.calls (call_weight w m) x (bound_by o t m)
  bound_falls None t m x le =
      moves m m (machine.end (state.exit_by_pair (codes "badmatch") t)) x (omega arith) (omega arith) (omega (arith, le))
  bound_falls (Some env) t m x le =
      moves m (in_state (state.with_bindings env m.state) m) (machine.give t) x (omega arith) (omega arith) (omega (arith, le))

  scope_falls : (right : Exprs) (m : Machine) (x : ℕ) → row_weight right + 2 + frames_weight m.frames ≤ x →
      Falls m.state.calls (call_weight w m) x (machine.run right, machine.scoped m)
  scope_falls right m x le =
      falls m m.state.calls (call_weight w m) x (row_weight right + 1 + frames_weight m.frames)
      (machine.run right, machine.scoped m)
      (scope_bounded (is_tail m.frames) (length m.state.bindings) right m m.state (omega arith))
      (omega arith) (omega arith) (omega (arith, le))

  decided_falls : (o : Option Bool) (c : Connective) (right : Exprs) (t : Tree) (m : Machine) (x : ℕ) →
      row_weight right + 2 + frames_weight m.frames ≤ x → Falls m.state.calls (call_weight w m) x (decided_by o c right t m)
  decided_falls None c right t m x le =
      moves m m (machine.end (state.exit_by_pair (codes "badarg") t)) x (omega arith) (omega arith) (omega (arith, le))
  decided_falls (Some true) AndAlso right t m x le = scope_falls right m x le
  decided_falls (Some true) OrElse right t m x le =
      moves m m (machine.give t) x (omega arith) (omega arith) (omega (arith, le))
  decided_falls (Some false) AndAlso right t m x le =
      moves m m (machine.give t) x (omega arith) (omega arith) (omega (arith, le))
  decided_falls (Some false) OrElse right t m x le = scope_falls right m x le

  cases_falls : (t : Tree) (cs : Clauses) (ts : Trees) (m : Machine) (x : ℕ) → 2 + clauses_weight cs + frames_weight m.frames ≤ x →
      Falls m.state.calls (call_weight w m) x (selecting w (state.exit t) cs ts m)
  cases_falls t cs ts m x le =
      falls m m.state.calls (call_weight w m) x (clauses_weight cs + 1 + frames_weight m.frames)
      (selecting w (state.exit t) cs ts m) (selecting_bounded t cs ts m) (omega arith) (omega arith) (omega (arith, le))

  -- a machine back in the call of a caller
  abbrev back : Activation → List Frame → State → Machine
  back a fs s = record { activation = a; frames = fs; state = s }

  settled_falls : (st : Starter) (env : List Tree) (b : Activation) (name : List ℕ) (r : Result) (a : Activation) (fs : List Frame)
      (s : State) →
      Falls s.calls (call_weight w (back a (machine.starter st env b name ∷ fs) s)) (1 + (1 + frames_weight fs))
      (settled_by w st env b name r (back a fs s))
  settled_falls st env b name r a fs s =
      let p = started w st env name r s in
      falls (back b fs p.1) s.calls (call_weight w (back a (machine.starter st env b name ∷ fs) s)) (1 + (1 + frames_weight fs))
      (1 + frames_weight fs) (of_result p.0, back b fs p.1) (given_bounded p.0 (back b fs p.1))
      (omega (arith, start_counts w st env name r s)) (omega arith) (omega arith)

  resuming_falls : (frame : Frame) (t : Tree) (a : Activation) (fs : List Frame) (s : State) →
      Falls s.calls (call_weight w (back a (frame ∷ fs) s)) (1 + frames_weight (frame ∷ fs)) (resuming w frame t (back a fs s))
  resuming_falls (machine.operands op ts es) t a fs s =
      going_on_falls op (append_trees ts (term.more t term.none)) es (back a fs s) (1 + (row_weight es + frames_weight fs))
      (omega arith)
  resuming_falls (machine.onward es) t a fs s =
      moves (back a fs s) (back a fs s) (machine.run es) (1 + (row_weight es + frames_weight fs)) (omega arith) (omega arith)
      (omega arith)
  resuming_falls (machine.binding p) t a fs s =
      bound_falls (matched p t s.bindings) t (back a fs s) (1 + (1 + frames_weight fs)) (omega arith)
  resuming_falls (machine.cases cs) t a fs s =
      cases_falls (state.pair (term.atom (codes "case_clause")) t) cs (term.more t term.none) (back a fs s)
      (1 + (1 + clauses_weight cs + frames_weight fs)) (omega arith)
  resuming_falls (machine.deciding c right) t a fs s =
      decided_falls (truth_of t) c right t (back a fs s) (1 + (1 + row_weight right + frames_weight fs)) (omega arith)
  resuming_falls (machine.scope n) t a fs s =
      moves (back a fs s) (in_state (state.with_bindings (take n s.bindings) s) (back a fs s)) (machine.give t)
      (1 + (1 + frames_weight fs)) (omega arith) (omega arith) (omega arith)
  resuming_falls (machine.caller env b) t a fs s =
      moves (back a (machine.caller env b ∷ fs) s) (back b fs (state.with_bindings env s)) (machine.give t)
      (1 + (1 + frames_weight fs)) (omega arith) (omega arith) (omega arith)
  resuming_falls (machine.starter st env b name) t a fs s = settled_falls st env b name (state.value t) a fs s

  settling_falls : (frame : Frame) (p : Place) (a : Activation) (fs : List Frame) (s : State) →
      Falls s.calls (call_weight w (back a (frame ∷ fs) s)) (1 + frames_weight (frame ∷ fs))
      (settling_at w frame p (back a fs s))
  settling_falls (machine.operands op ts es) p a fs s =
      moves (back a fs s) (back a fs s) (machine.settle p) (1 + (row_weight es + frames_weight fs)) (omega arith) (omega arith)
      (omega (arith, some_row es))
  settling_falls (machine.onward es) p a fs s =
      moves (back a fs s) (back a fs s) (machine.settle p) (1 + (row_weight es + frames_weight fs)) (omega arith) (omega arith)
      (omega (arith, some_row es))
  settling_falls (machine.binding q) p a fs s =
      moves (back a fs s) (back a fs s) (machine.settle p) (1 + (1 + frames_weight fs)) (omega arith) (omega arith) (omega arith)
  settling_falls (machine.cases cs) p a fs s =
      moves (back a fs s) (back a fs s) (machine.settle p) (1 + (1 + clauses_weight cs + frames_weight fs)) (omega arith)
      (omega arith) (omega arith)
  settling_falls (machine.deciding c right) p a fs s =
      moves (back a fs s) (back a fs s) (machine.settle p) (1 + (1 + row_weight right + frames_weight fs)) (omega arith)
      (omega arith) (omega arith)
  settling_falls (machine.scope n) p a fs s =
      moves (back a fs s) (in_state (state.with_bindings (take n s.bindings) s) (back a fs s)) (machine.settle p)
      (1 + (1 + frames_weight fs)) (omega arith) (omega arith) (omega arith)
  settling_falls (machine.caller env b) p a fs s =
      moves (back a (machine.caller env b ∷ fs) s) (back b fs (state.with_bindings env s)) (machine.settle p)
      (1 + (1 + frames_weight fs)) (omega arith) (omega arith) (omega arith)
  settling_falls (machine.starter st env b name) p a fs s = settled_falls st env b name (state.rest p) a fs s

  given_falls : (t : Tree) (a : Activation) (fs : List Frame) (s : State) →
      Falls s.calls (call_weight w (back a fs s)) (1 + frames_weight fs) (giving w t fs (back a fs s))
  given_falls t a [] s = moves (back a [] s) (back a [] s) (machine.end (state.value t)) 1 (omega arith) (omega arith) (omega arith)
  given_falls t a (frame ∷ fs) s = resuming_falls frame t a fs s

  rested_falls : (p : Place) (a : Activation) (fs : List Frame) (s : State) →
      Falls s.calls (call_weight w (back a fs s)) (1 + frames_weight fs) (settling w p fs (back a fs s))
  rested_falls p a [] s = moves (back a [] s) (back a [] s) (machine.end (state.rest p)) 1 (omega arith) (omega arith) (omega arith)
  rested_falls p a (frame ∷ fs) s = settling_falls frame p a fs s

  pub step_falls : (next : Control) (m : Machine) → ¬ HasEnded next →
      work_left w (stepping w next m).0 (stepping w next m).1 < work_left w next m
  step_falls (machine.evaluate e) m going = beginning_falls e m
  step_falls (machine.run es) m going = running_falls es m
  step_falls (machine.give t) m going = given_falls t m.activation m.frames m.state
  step_falls (machine.settle p) m going = rested_falls p m.activation m.frames m.state
  step_falls (machine.end r) m going = absurd (going tt)
