-- One result comes of an expression, and one of each part of its evaluation.
use Rattle.std.specs.Prelude.{◌≡◌, ℕ, Bool, true, false, List, Option}
use Rattle.std.proofs.Common.{ap, sym, ◌∙◌, subst}
use Rattle.erl_term.specs.Tree.{Tree, Trees}
use Rattle.erl_ir.specs.declared.operation.BuiltIn.{BuiltIn}
use Rattle.erl_ir.specs.declared.operation.Connective.{Connective}
use Rattle.erl_ir.specs.declared.operation.Operation.{Operation}
use Rattle.erl_ir.specs.declared.function.Function.{Function}
use Rattle.erl_ir.specs.declared.function.Definition.{Definition}
use Rattle.erl_ir.specs.Pattern.{Pat}
use Rattle.erl_ir.specs.Expression.{Expr, Exprs, Clauses}
use Rattle.erl_semantics.specs.State.{Instance, Result, World, Activation, State, with_bindings}
use Rattle.erl_semantics.specs.Guards.{Values, with_first}
use Rattle.erl_semantics.specs.Starting.{Starter, Way, Request}
use Rattle.erl_semantics.specs.Starting as starting
use Rattle.erl_semantics.specs.Evaluation.{Bound, Eval, Operands, Others, Body, Onward, Decided, Cased, Taken, Applied, Called}
use Rattle.erl_semantics.specs.Evaluation.{Entered, BuiltInCalled, Worked, Started, matched_to, right_ended, literal, variable, apply}
use Rattle.erl_semantics.specs.Evaluation.{match, block, case, short_circuit, no_operands, operand, others, operand_ended, empty}
use Rattle.erl_semantics.specs.Evaluation.{last, next, onward, body_ended, decided, undecided, no_truth, left_ended, cased}
use Rattle.erl_semantics.specs.Evaluation.{subject_ended, no_clause, taken, operands_ended, tuple, list, cons, operator, built_in}
use Rattle.erl_semantics.specs.Evaluation.{local, remote, too_many, undefined, called, loop_elsewhere, loop_too_deep, loop}
use Rattle.erl_semantics.specs.Evaluation.{too_deep, clauses, built_in_too_many, built_in_called, worked_at_once, named, starts}
use Rattle.erl_semantics.specs.Evaluation.{refused_start, started_by}
use Rattle.erl_semantics.proofs.Options.{some_none, some_injective}
use Rattle.erl_semantics.proofs.Moved.{bound_moved, others_moved, applied_moved, onward_moved, cased_moved, decided_moved}

-- two that are the same as a third
both : {A B : Type 0} {x y z : A} {s t u : B} → (x ≡ z) × (s ≡ u) → (y ≡ z) × (t ≡ u) → (x ≡ y) × (s ≡ t)
both a b = (a.0 ∙ sym b.0, a.1 ∙ sym b.1)

-- two that are the same as two that are the same
across : {A B : Type 0} {x y x' y' : A} {s t s' t' : B} → x' ≡ y' → s' ≡ t' →
    (x ≡ x') × (s ≡ s') → (y ≡ y') × (t ≡ t') → (x ≡ y) × (s ≡ t)
across p q a b = (a.0 ∙ p ∙ sym b.0, a.1 ∙ q ∙ sym b.1)

pub ap2 : {A B C : Type 0} (f : A → B → C) {x x' : A} {y y' : B} → x ≡ x' → y ≡ y' → f x y ≡ f x' y'
ap2 f p q = λ i. f (p i) (q i)

abbrev Holds : Bool → Type 0
Holds false = ⊥
Holds true = Unit {0}

true-false : {b : Bool} → b ≡ true → b ≡ false → ⊥
true-false is_true is_false = subst (λ b. Holds b) (sym is_true ∙ is_false) tt

bound-once : {p : Pat} {x : Result} {s : State} {r q : Result} {u v : State} →
    Bound p x s r u → Bound p x s q v → (r ≡ q) × (u ≡ v)
bound-once (matched_to g) (matched_to h) = both g h
bound-once (matched_to g) (right_ended end h) = absurd end
bound-once (right_ended end g) (matched_to h) = absurd end
bound-once (right_ended end g) (right_ended end' h) = both g h

module _ (w : World) where
  mutual
    pub eval-once : {a : Activation} {tail : Bool} {e : Expr} {s : State} {r q : Result} {x y : State} →
        Eval w a tail e s r x → Eval w a tail e s q y → (r ≡ q) × (x ≡ y)
    eval-once (literal g) (literal h) = both g h
    eval-once (variable g) (variable h) = both g h
    eval-once (apply d f) (apply e g) = let same = operands-once d e in applied-once f (applied_moved same.0 same.1 g)
    eval-once (match d f) (match e g) = let same = body-once d e in bound-once f (bound_moved same.0 same.1 g)
    eval-once (block d) (block e) = body-once d e
    eval-once (case d f) (case e g) = let same = body-once d e in cased-once f (cased_moved same.0 same.1 g)
    eval-once (short_circuit d f) (short_circuit e g) =
        let same = body-once d e in decided-once f (decided_moved same.0 same.1 g)

    operands-once : {a : Activation} {es : Exprs} {s : State} {u v : Values} {x y : State} →
        Operands w a es s u x → Operands w a es s v y → (u ≡ v) × (x ≡ y)
    operands-once (no_operands p m) (no_operands q n) = (p ∙ sym q, m ∙ sym n)
    operands-once (operand d f) (operand e g) = let same = eval-once d e in others-once f (others_moved same.0 same.1 g)

    others-once : {a : Activation} {es : Exprs} {r : Result} {s : State} {u v : Values} {x y : State} →
        Others w a es r s u x → Others w a es r s v y → (u ≡ v) × (x ≡ y)
    others-once (others {t = t} d p) (others e q) =
        let same = operands-once d e in (p ∙ ap (λ u. with_first t u) same.0 ∙ sym q, same.1)
    others-once (others d p) (operand_ended end q n) = absurd end
    others-once (operand_ended end p m) (others e q) = absurd end
    others-once (operand_ended end p m) (operand_ended end' q n) = (p ∙ sym q, m ∙ sym n)

    pub body-once : {a : Activation} {tail : Bool} {es : Exprs} {s : State} {r q : Result} {x y : State} →
        Body w a tail es s r x → Body w a tail es s q y → (r ≡ q) × (x ≡ y)
    body-once (empty g) (empty h) = both g h
    body-once (last d) (last e) = eval-once d e
    body-once (next d f) (next e g) = let same = eval-once d e in onward-once f (onward_moved same.0 same.1 g)

    onward-once : {a : Activation} {tail : Bool} {es : Exprs} {u : Result} {s : State} {r q : Result} {x y : State} →
        Onward w a tail es u s r x → Onward w a tail es u s q y → (r ≡ q) × (x ≡ y)
    onward-once (onward d) (onward e) = body-once d e
    onward-once (onward d) (body_ended end h) = absurd end
    onward-once (body_ended end g) (onward e) = absurd end
    onward-once (body_ended end g) (body_ended end' h) = both g h

    decided-once : {a : Activation} {tail : Bool} {c : Connective} {right : Exprs} {u : Result} {s : State} {r q : Result}
        {x y : State} → Decided w a tail c right u s r x → Decided w a tail c right u s q y → (r ≡ q) × (x ≡ y)
    decided-once (decided m g) (decided n h) = both g h
    decided-once (decided m g) (undecided n other e y) = absurd (other (some_injective (sym n ∙ m)))
    decided-once (decided m g) (no_truth n h) = absurd (some_none (sym m ∙ n))
    decided-once (decided m g) (left_ended end h) = absurd end
    decided-once (undecided m other d x) (decided n h) = absurd (other (some_injective (sym m ∙ n)))
    decided-once (undecided {s = s} m other d x) (undecided n other' e y) =
        let same = body-once d e in (same.0, x ∙ ap (λ u. with_bindings s.bindings u) same.1 ∙ sym y)
    decided-once (undecided m other d x) (no_truth n h) = absurd (some_none (sym m ∙ n))
    decided-once (undecided m other d x) (left_ended end h) = absurd end
    decided-once (no_truth m g) (decided n h) = absurd (some_none (sym n ∙ m))
    decided-once (no_truth m g) (undecided n other e y) = absurd (some_none (sym n ∙ m))
    decided-once (no_truth m g) (no_truth n h) = both g h
    decided-once (no_truth m g) (left_ended end h) = absurd end
    decided-once (left_ended end g) (decided n h) = absurd end
    decided-once (left_ended end g) (undecided n other e y) = absurd end
    decided-once (left_ended end g) (no_truth n h) = absurd end
    decided-once (left_ended end g) (left_ended end' h) = both g h

    cased-once : {a : Activation} {tail : Bool} {cs : Clauses} {u : Result} {s : State} {r q : Result} {x y : State} →
        Cased w a tail cs u s r x → Cased w a tail cs u s q y → (r ≡ q) × (x ≡ y)
    cased-once (cased d) (cased e) = taken-once d e
    cased-once (cased d) (subject_ended end h) = absurd end
    cased-once (subject_ended end g) (cased e) = absurd end
    cased-once (subject_ended end g) (subject_ended end' h) = both g h

    pub taken-once : {a : Activation} {tail : Bool} {failure : Result} {found : Option (List Tree × Exprs)} {s : State}
        {r q : Result} {x y : State} →
        Taken w a tail failure found s r x → Taken w a tail failure found s q y → (r ≡ q) × (x ≡ y)
    taken-once (no_clause g) (no_clause h) = both g h
    taken-once (taken {s = s} d x) (taken e y) =
        let same = body-once d e in (same.0, x ∙ ap (λ u. with_bindings s.bindings u) same.1 ∙ sym y)

    applied-once : {a : Activation} {tail : Bool} {op : Operation} {v : Values} {s : State} {r q : Result} {x y : State} →
        Applied w a tail op v s r x → Applied w a tail op v s q y → (r ≡ q) × (x ≡ y)
    applied-once (operands_ended g) (operands_ended h) = both g h
    applied-once (tuple g) (tuple h) = both g h
    applied-once (list g) (list h) = both g h
    applied-once (cons g) (cons h) = both g h
    applied-once (operator g) (operator h) = both g h
    applied-once (built_in d) (built_in e) = built_in_called-once d e
    applied-once (local d) (local e) = called-once d e
    applied-once (remote d) (remote e) = called-once d e

    called-once : {a : Activation} {tail within : Bool} {name : List ℕ} {function : Option (Instance × Function)} {ts : Trees}
        {s : State} {r q : Result} {x y : State} →
        Called w a tail within name function ts s r x → Called w a tail within name function ts s q y → (r ≡ q) × (x ≡ y)
    called-once (too_many g) (too_many h) = both g h
    called-once (undefined g) (undefined h) = both g h
    called-once (called {s = s} d x) (called e y) =
        let same = entered-once d e in (same.0, x ∙ ap (λ u. with_bindings s.bindings u) same.1 ∙ sym y)

    pub entered-once : {a : Activation} {nests : Bool} {name : List ℕ} {f : Definition} {ts : Trees} {s : State} {r q : Result}
        {x y : State} → Entered w a nests name f ts s r x → Entered w a nests name f ts s q y → (r ≡ q) × (x ≡ y)
    entered-once (loop_elsewhere m g) (loop_elsewhere n h) = both g h
    entered-once (loop_elsewhere m g) (loop_too_deep n h) = absurd (true-false n m)
    entered-once (loop_elsewhere m g) (loop n h) = absurd (true-false n m)
    entered-once (loop_too_deep m g) (loop_elsewhere n h) = absurd (true-false m n)
    entered-once (loop_too_deep m g) (loop_too_deep n h) = both g h
    entered-once (loop m g) (loop_elsewhere n h) = absurd (true-false m n)
    entered-once (loop m g) (loop n h) = both g h
    entered-once (too_deep g) (too_deep h) = both g h
    entered-once (clauses d) (clauses e) = taken-once d e

    built_in_called-once : {a : Activation} {within : Bool} {f : BuiltIn} {ts : Trees} {s : State} {r q : Result} {x y : State} →
        BuiltInCalled w a within f ts s r x → BuiltInCalled w a within f ts s q y → (r ≡ q) × (x ≡ y)
    built_in_called-once (built_in_too_many g) (built_in_too_many h) = both g h
    built_in_called-once (built_in_called d) (built_in_called e) = worked-once d e

    worked-once : {a : Activation} {way : Way} {f : BuiltIn} {ts : Trees} {s : State} {r q : Result} {x y : State} →
        Worked w a way f ts s r x → Worked w a way f ts s q y → (r ≡ q) × (x ≡ y)
    worked-once (worked_at_once g) (worked_at_once h) = both g h
    worked-once (named g) (named h) = both g h
    worked-once (starts d) (starts e) = started-once d e

    started-once : {a : Activation} {starter : Starter} {request : Request} {s : State} {r q : Result} {x y : State} →
        Started w a starter request s r x → Started w a starter request s q y → (r ≡ q) × (x ≡ y)
    started-once (refused_start g) (refused_start h) = both g h
    started-once (started_by {starter = starter} {i = i} {s = s} d g) (started_by e h) =
        let same = entered-once d e in
        across (ap2 (λ u v. (starting.started w starter s.bindings i.name u v).0) same.0 same.1)
        (ap2 (λ u v. (starting.started w starter s.bindings i.name u v).1) same.0 same.1) g h
