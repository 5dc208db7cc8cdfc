-- The machine at its end: what comes of it is there.
use Rattle.std.specs.Prelude.{◌≡◌, ◌<◌, ℕ, zero, suc, true, false, List, [], ◌∷◌, ◌++◌, take, drop, min, length, Bool, map, option_map, Option, None, Some, refl}
use Rattle.std.proofs.Common.{arith, ap, sym, subst, ◌∙◌}
use Rattle.std.proofs.lemmas.List.{append-nil, append_assoc}
use Rattle.erl_term.specs.Tree.{Tree, Trees}
use Rattle.erl_ir.specs.Expression.{Exprs}
use Rattle.erl_ir.specs.declared.function.Function.{Function}
use Rattle.erl_semantics.specs.declared.acts.Act.{Act}
use Rattle.erl_semantics.specs.declared.acts.Act.TheVariants as acts_of
use Rattle.erl_semantics.specs.declared.acts.Place.{Place}
use Rattle.erl_semantics.specs.Acts.{act_of, place}
use Rattle.erl_semantics.specs.State as state
use Rattle.erl_semantics.specs.State.{Instance, World, all_acts, with_bindings, with_calls}
use Rattle.erl_semantics.specs.Evaluation.{Body, Entered}
use Rattle.erl_semantics.specs.Jobs.{Outcome, FromOutside, called, undefined, fresh, nowhere, outermost}
use Rattle.erl_steps.specs.Machine as machine
use Rattle.erl_steps.specs.Machine.{entered, stepping}
use Rattle.erl_steps.specs.Leading.{Final, Comes}
use Rattle.callback_lang.specs.Leading.{BodyComes, CallComes, ComesOf}
use Rattle.erl_steps.specs.Views.{control_of, machine_of, startup_of}
use Rattle.erl_semantics.specs.Views.{end_of}
use Rattle.erl_steps.specs.declared.machine.Startup.{Startup}
use Rattle.erl_steps.specs.declared.machine.Control.{Control}
use Rattle.erl_steps.specs.declared.machine.Control.TheVariants as controls
use Rattle.erl_semantics.specs.declared.outcome.End.{End}
use Rattle.erl_steps.specs.declared.machine.Machine.{Machine}
use Rattle.erl_steps.specs.Laws.{HasEnded}
use Rattle.erl_steps.specs.Work.{work_left}
use Rattle.erl_steps.proofs.Falls.{step_falls}
use Rattle.erl_steps.proofs.Leads.{step_leads, entered_leads}

pub one_step : (w : World) → (next : machine.Control) (m : machine.Machine) (next' : machine.Control)
    (m' : machine.Machine) → (next', m') ≡ stepping w next m → (f : Final) → Comes w next' m' f → Comes w next m f
one_step w next m next' m' is f c =
    step_leads w next m f (subst (λ p. Comes w p.0 p.1 f) is c)

-- and leaves less to do, until evaluating has ended

pub one_step_less : (w : World) → (next : machine.Control) (m : machine.Machine) (next' : machine.Control)
    (m' : machine.Machine) → (next', m') ≡ stepping w next m → ¬ HasEnded next → work_left w next' m' < work_left w next m
one_step_less w next m next' m' is going =
    subst (λ p. work_left w p.0 p.1 < work_left w next m) (sym is) (step_falls w next m going)

pub not_ended : (next : Control) → ((end : End) → next ≡ controls.End end → ⊥) → ¬ HasEnded (control_of next)
not_ended (controls.Evaluate e) other = λ h. h
not_ended (controls.Run es) other = λ h. h
not_ended (controls.Give t) other = λ h. h
not_ended (controls.Settle p) other = λ h. h
not_ended (controls.End end) other = λ h. other end refl

-- what the acts and the end are told as
abbrev pub final : ℕ → List Act → Option Startup → End → Final
final calls acts startup end = (
  end_of end,
  record {
    bindings = [];
    calls = calls;
    acts = map act_of acts;
    startup = option_map startup_of startup;
  },
)

pub at_end : (w : World) (first : machine.Control) (begun : machine.Machine) (m : Machine) (next : Control) (end : End) →
    next ≡ controls.End end → ((f : Final) → Comes w (control_of next) (machine_of m) f → Comes w first begun f) →
    (calls : ℕ) × Comes w first begun (final calls m.acts.items m.startup end)
at_end w first begun m next end is leads = (
  m.calls,
  leads (final m.calls m.acts.items m.startup end)
      (subst (λ n. Comes w (control_of n) (machine_of m) (final m.calls m.acts.items m.startup end)) (sym is) refl),
)

-- a function is entered in the outermost call, and what comes of it is what is left behind

of_end : (r : state.Result) (s : state.State) (calls : ℕ) (acts : List Act) (startup : Option Startup) (end : End) →
    final calls acts startup end ≡ (r, state.with_bindings [] s) →
    (r ≡ end_of end) × (s.acts ≡ map act_of acts) × (s.startup ≡ option_map startup_of startup)
of_end r s calls acts startup end same =
    (sym (ap (λ f. f.0) same), sym (ap (λ f. f.1.acts) same), sym (ap (λ f. f.1.startup) same))

pub comes_of : (w : World) (name : List ℕ) (i : Instance) (fn : Function) (ts : Trees)
    (next : machine.Control) (m : machine.Machine) (acts : List Act) (startup : Option Startup) (end : End) →
    (next, m) ≡ entered w name fn.definition ts (record { activation = outermost i false; frames = []; state = fresh }) →
    (calls : ℕ) × Comes w next m (final calls acts startup end) →
    ComesOf w i name fn ts (map act_of acts) (option_map startup_of startup) (end_of end)
comes_of w name i fn ts next m acts startup end is (calls, c) =
    let d = entered_leads w name fn.definition ts (record { activation = outermost i false; frames = []; state = fresh })
    refl (final calls acts startup end) (subst (λ p. Comes w p.0 p.1 (final calls acts startup end)) is c) in
    let e = of_end d.0 d.1 calls acts startup end d.3 in
    (d.1, subst (λ r. Entered w (outermost i false) true name fn.definition ts fresh r d.1) e.0 d.2, e.1, e.2)

pub call_comes : (w : World) (name : List ℕ) (i : Instance) (fn : Function) (ts : Trees) (acts : List state.Act)
    (startup : Option state.Startup) (r : state.Result) (o : Outcome) → ComesOf w i name fn ts acts startup r →
    o ≡ record { acts = all_acts startup acts; ended = r } → CallComes w i name fn ts o
call_comes w name i fn ts acts startup r o (s, d, done, is_started) is = (
  r,
  s,
  d,
  is ∙ (λ k. let p : Outcome = record { acts = all_acts (sym is_started k) (sym done k); ended = r } in p),
)

pub called_outside : (w : World) (name : List ℕ) (i : Instance) (fn : Function) (ts : Trees) (found : Option (Instance × Function))
    (o : Outcome) → found ≡ Some (i, fn) → CallComes w i name fn ts o → FromOutside w name found ts o
called_outside w name i fn ts found o is (r, s, d, same) = subst (λ f. FromOutside w name f ts o) (sym is) (called d same)

-- what isn't exported, or is of no module
pub not_called : (w : World) (name : List ℕ) (ts : Trees) (found : Option (Instance × Function)) (o : Outcome) → found ≡ None →
    o ≡ nowhere → FromOutside w name found ts o
not_called w name ts found o none is = subst (λ f. FromOutside w name f ts o) (sym none) (undefined is)

-- a body is evaluated in the outermost call
pub body_comes_of : (w : World) (i : Instance) (env : List Tree) (calls : ℕ) (body es : Exprs) (m : machine.Machine) (acts : List Act)
    (startup : Option Startup) (end : End) → es ≡ body →
    m ≡ record { activation = outermost i true; frames = []; state = with_calls calls (with_bindings env fresh) } →
    (n : ℕ) × Comes w (machine.run es) m (final n acts startup end) →
    BodyComes w i env calls body (map act_of acts) (end_of end)
body_comes_of w i env calls body es m acts startup end same is (n, c) =
    let d = subst (λ x. Comes w (machine.run es) x (final n acts startup end)) is c in
    let e = of_end d.0 d.1 n acts startup end d.3 in (
      d.1,
      subst (λ r. Body w (outermost i true) true body (with_calls calls (with_bindings env fresh)) r d.1) e.0
          (subst (λ b. Body w (outermost i true) true b (with_calls calls (with_bindings env fresh)) d.0 d.1) same d.2),
      e.1,
    )

-- the start of a process among the acts

take_drop : {A : Type 0} (n : ℕ) (xs : List A) → take n xs ++ drop n xs ≡ xs
take_drop zero xs = refl
take_drop (suc n) [] = refl
take_drop (suc n) (x ∷ xs) = ap (λ ys. x ∷ ys) (take_drop n xs)

pub told_none : (u : state.Startup) (acts : List state.Act) → u.place ≡ None → all_acts (Some u) acts ≡ acts
told_none u acts none =
    ap (λ p. take u.before acts ++ state.started_at p u.registered ++ drop u.before acts) none ∙
    ap (λ xs. xs ++ drop u.before acts) (append-nil (take u.before acts)) ∙ take_drop u.before acts

take_none : {A : Type 0} (n : ℕ) → take n (let xs : List A = [] in xs) ≡ []
take_none zero = refl
take_none (suc n) = refl

drop_none : {A : Type 0} (n : ℕ) → drop n (let xs : List A = [] in xs) ≡ []
drop_none zero = refl
drop_none (suc n) = refl

min_take : {A : Type 0} (xs : List A) (n m : ℕ) → m ≡ min (length xs) n → take m xs ≡ take n xs
min_take [] n m e = take_none m ∙ sym (take_none n)
min_take (x ∷ xs) zero zero e = refl
min_take (x ∷ xs) zero (suc m) e = absurd (omega (arith, e))
min_take (x ∷ xs) (suc n) zero e = absurd (omega (arith, e))
min_take (x ∷ xs) (suc n) (suc m) e = ap (λ ys. x ∷ ys) (min_take xs n m (omega (arith, e)))

min_drop : {A : Type 0} (xs : List A) (n m : ℕ) → m ≡ min (length xs) n → drop m xs ≡ drop n xs
min_drop [] n m e = drop_none m ∙ sym (drop_none n)
min_drop (x ∷ xs) zero zero e = refl
min_drop (x ∷ xs) zero (suc m) e = absurd (omega (arith, e))
min_drop (x ∷ xs) (suc n) zero e = absurd (omega (arith, e))
min_drop (x ∷ xs) (suc n) (suc m) e = min_drop xs n m (omega (arith, e))

cut_map : {A B : Type 0} (h : A → B) (n : ℕ) (xs : List A) → map h (take n xs) ≡ take n (map h xs)
cut_map h zero xs = refl
cut_map h (suc n) [] = refl
cut_map h (suc n) (x ∷ xs) = ap (λ ys. h x ∷ ys) (cut_map h n xs)

rest_map : {A B : Type 0} (h : A → B) (n : ℕ) (xs : List A) → map h (drop n xs) ≡ drop n (map h xs)
rest_map h zero xs = refl
rest_map h (suc n) [] = refl
rest_map h (suc n) (x ∷ xs) = rest_map h n xs

map_both : {A B : Type 0} (h : A → B) (xs ys : List A) → map h (xs ++ ys) ≡ map h xs ++ map h ys
map_both h [] ys = refl
map_both h (x ∷ xs) ys = ap (λ zs. h x ∷ zs) (map_both h xs ys)

-- the acts before a start, the start with its name, and the acts behind it
pub told_start : (acts front back begun named whole : List Act) (n before : ℕ) (p : Place) (registered : Option (List ℕ × Bool)) →
    n ≡ min (length acts) before → front ≡ take n acts → back ≡ drop n acts → begun ≡ front ++ acts_of.Start p ∷ [] →
    map act_of named ≡ map act_of begun ++ state.named_by registered → whole ≡ named ++ back →
    map act_of whole ≡ all_acts (Some (record { before = before; registered = registered; place = Some (place p) })) (map act_of acts)
told_start acts front back begun named whole n before p registered is_n is_front is_back is_begun is_named is_whole =
    ap (map act_of) is_whole ∙ map_both act_of named back ∙
    (λ k. (is_named ∙ ap (λ xs. map act_of xs ++ state.named_by registered) is_begun ∙
    ap (λ xs. xs ++ state.named_by registered) (map_both act_of front (acts_of.Start p ∷ []) ∙
    ap (λ xs. map act_of xs ++ state.start (place p) ∷ []) (is_front ∙ min_take acts before n is_n) ∙
    ap (λ xs. xs ++ state.start (place p) ∷ []) (cut_map act_of before acts))) k ++
    (ap (map act_of) (is_back ∙ min_drop acts before n is_n) ∙ rest_map act_of before acts) k) ∙
    together (take before (map act_of acts)) (state.named_by registered) (drop before (map act_of acts))
  where
    together : (xs ys zs : List state.Act) → ((xs ++ state.start (place p) ∷ []) ++ ys) ++ zs ≡
        xs ++ (state.start (place p) ∷ ys) ++ zs
    together xs ys zs = ap (λ us. us ++ zs) (append_assoc xs (state.start (place p) ∷ []) ys)
