-- Evaluation that is regular: at each point that it comes to stands what a source can say there.
--
-- The rules of evaluation are total: they say something also of what no source says. Of that are a variable that is not bound
-- (`bound_to` nothing), a body without expressions (`Body.empty`), an operator (`no_operator`), a list with a tail
-- (`consed_row`) and a function that is built in (`no_function`) of another number of operands, what is no test where a guard
-- has one (`no_guard`), and clauses with more or fewer patterns than there are terms; and a call of the same module that is of
-- none of its functions (`Called.undefined`). No regular evaluation comes to one of these.
use Rattle.std.specs.Prelude.{◌≡◌, ◌≤◌, ℕ, List, [], Bool, Option, None, Some, is_some, IsTrue}
use Rattle.erl_term.specs.Tree as term
use Rattle.erl_term.specs.Tree.{Tree, Trees, count}
use Rattle.erl_ir.specs.declared.operation.BuiltIn.{BuiltIn}
use Rattle.erl_ir.specs.declared.operation.Connective.{Connective}
use Rattle.erl_ir.specs.declared.operation.Operation.{Operation}
use Rattle.erl_ir.specs.declared.function.Definition.{Definition}
use Rattle.erl_ir.specs.declared.function.Definition.TheVariants as definition
use Rattle.erl_ir.specs.declared.function.Function.{Function}
use Rattle.erl_ir.specs.Module.{function_of}
use Rattle.erl_ir.specs.Pattern.{Pat}
use Rattle.erl_ir.specs.Expression.{Expr, Exprs, Clauses}
use Rattle.erl_semantics.specs.State.{Instance, Place, server, loop as looping, Result, World, Activation, State}
use Rattle.erl_semantics.specs.Matching.{matched_each}
use Rattle.erl_semantics.specs.Guards.{Values, Selection}
use Rattle.erl_semantics.specs.Starting.{Starter, Way, Request}
use Rattle.erl_semantics.specs.Evaluation.{Bound, Eval, Operands, Others, Body, Onward, Decided, Cased, Taken, Applied, Called, Entered}
use Rattle.erl_semantics.specs.Evaluation.{BuiltInCalled, Worked, Started, matched_to, right_ended, literal, variable, apply, match}
use Rattle.erl_semantics.specs.Evaluation.{block, case, short_circuit, no_operands, operand, others, operand_ended, empty, last, next}
use Rattle.erl_semantics.specs.Evaluation.{onward, body_ended, decided, undecided, no_truth, left_ended, cased, subject_ended}
use Rattle.erl_semantics.specs.Evaluation.{no_clause, taken, operands_ended, tuple, list, cons, operator, built_in, local, remote}
use Rattle.erl_semantics.specs.Evaluation.{too_many, undefined, called, loop_elsewhere, loop_too_deep, loop, too_deep, clauses}
use Rattle.erl_semantics.specs.Evaluation.{built_in_too_many, built_in_called, worked_at_once, named, starts, refused_start}
use Rattle.erl_semantics.specs.Evaluation.{started_by, head_of, local_function}
use Rattle.erl_semantics.specs.Jobs.{FromOutside, Job, world_of, Callback, Handles, not_exported, handled, Receives, unheard, received}
use Rattle.erl_semantics.specs.Jobs.{GivesAt, Outcome}
use Rattle.erl_semantics.specs.Jobs as jobs
use Rattle.source_laws.specs.Formed.{operands_of, takes}
use Rattle.source_laws.specs.Points.{IsBound, MayMatch, MayMatchEach, MayTry}

-- a match, where its right side gives a value
abbrev pub MatchIsRegular : {p : Pat} {q : Result} {s : State} {r : Result} {x : State} → Bound p q s r x → Type 0
MatchIsRegular (matched_to {p = p} {t = t} {s = s} g) = MayMatch p t s.bindings
MatchIsRegular (right_ended end g) = Unit {0}

module _ (w : World) where
  abbrev mutual
    -- An expression: a variable is read where it is bound, and so is each part.
    pub EvalIsRegular : {a : Activation} {tail : Bool} {e : Expr} {s : State} {r : Result} {x : State} →
        Eval w a tail e s r x → Type 0
    EvalIsRegular (literal g) = Unit {0}
    EvalIsRegular (variable {index = index} {s = s} g) = IsBound s.bindings index
    EvalIsRegular (apply d f) = OperandsAreRegular d × ApplicationIsRegular f
    EvalIsRegular (match d f) = BodyIsRegular d × MatchIsRegular f
    EvalIsRegular (block d) = BodyIsRegular d
    EvalIsRegular (case d f) = BodyIsRegular d × CaseIsRegular f
    EvalIsRegular (short_circuit d f) = BodyIsRegular d × DecisionIsRegular f

    pub OperandsAreRegular : {a : Activation} {es : Exprs} {s : State} {v : Values} {x : State} → Operands w a es s v x → Type 0
    OperandsAreRegular (no_operands is state_is) = Unit {0}
    OperandsAreRegular (operand d f) = EvalIsRegular d × OthersAreRegular f

    pub OthersAreRegular : {a : Activation} {es : Exprs} {q : Result} {s : State} {v : Values} {x : State} →
        Others w a es q s v x → Type 0
    OthersAreRegular (others d is) = OperandsAreRegular d
    OthersAreRegular (operand_ended end is state_is) = Unit {0}

    -- A body has an expression.
    pub BodyIsRegular : {a : Activation} {tail : Bool} {es : Exprs} {s : State} {r : Result} {x : State} →
        Body w a tail es s r x → Type 0
    BodyIsRegular (empty g) = ⊥
    BodyIsRegular (last d) = EvalIsRegular d
    BodyIsRegular (next d f) = EvalIsRegular d × RestIsRegular f

    pub RestIsRegular : {a : Activation} {tail : Bool} {es : Exprs} {q : Result} {s : State} {r : Result} {x : State} →
        Onward w a tail es q s r x → Type 0
    RestIsRegular (onward d) = BodyIsRegular d
    RestIsRegular (body_ended end g) = Unit {0}

    pub DecisionIsRegular : {a : Activation} {tail : Bool} {c : Connective} {right : Exprs} {q : Result} {s : State}
        {r : Result}
        {x : State} → Decided w a tail c right q s r x → Type 0
    DecisionIsRegular (decided is g) = Unit {0}
    DecisionIsRegular (undecided is other d state_is) = BodyIsRegular d
    DecisionIsRegular (no_truth is g) = Unit {0}
    DecisionIsRegular (left_ended end g) = Unit {0}

    -- The clauses of a `case` have one pattern each.
    pub CaseIsRegular : {a : Activation} {tail : Bool} {cs : Clauses} {q : Result} {s : State} {r : Result} {x : State} →
        Cased w a tail cs q s r x → Type 0
    CaseIsRegular (cased {cs = cs} {t = t} {s = s} d) = MayTry s.bindings (term.more t term.none) cs × BranchIsRegular d
    CaseIsRegular (subject_ended end g) = Unit {0}

    pub BranchIsRegular : {a : Activation} {tail : Bool} {failure : Result} {found : Option (List Tree × Exprs)} {s : State}
        {r : Result} {x : State} → Taken w a tail failure found s r x → Type 0
    BranchIsRegular (no_clause g) = Unit {0}
    BranchIsRegular (taken d is) = BodyIsRegular d

    -- An operation has as many operands as it is of.
    pub ApplicationIsRegular : {a : Activation} {tail : Bool} {op : Operation} {v : Values} {s : State} {r : Result}
        {x : State} →
        Applied w a tail op v s r x → Type 0
    ApplicationIsRegular (operands_ended g) = Unit {0}
    ApplicationIsRegular (tuple g) = Unit {0}
    ApplicationIsRegular (list g) = Unit {0}
    ApplicationIsRegular (cons {ts = ts} g) = 2 ≤ count ts
    ApplicationIsRegular (operator {o = o} {ts = ts} g) = count ts ≡ operands_of o
    ApplicationIsRegular (built_in {f = f} {ts = ts} d) = IsTrue (takes f (count ts)) × BuiltInIsRegular d
    ApplicationIsRegular (local {a = a} {name = name} {ts = ts} d) =
        IsTrue (is_some (local_function a.instance name (count ts))) × CallIsRegular d
    ApplicationIsRegular (remote d) = CallIsRegular d

    pub CallIsRegular : {a : Activation} {tail may : Bool} {name : List ℕ} {function : Option (Instance × Function)}
        {ts : Trees}
        {s : State} {r : Result} {x : State} → Called w a tail may name function ts s r x → Type 0
    CallIsRegular (too_many g) = Unit {0}
    CallIsRegular (undefined g) = Unit {0}
    CallIsRegular (called d is) = EntryIsRegular d

    -- The clauses of a function have a pattern for each argument.
    pub EntryIsRegular : {a : Activation} {nests : Bool} {name : List ℕ} {f : Definition} {ts : Trees} {s : State} {r : Result}
        {x : State} → Entered w a nests name f ts s r x → Type 0
    EntryIsRegular (loop_elsewhere may_not g) = Unit {0}
    EntryIsRegular (loop_too_deep may g) = Unit {0}
    EntryIsRegular (loop {ps = ps} {gs = gs} {ts = ts} {s = s} may g) = MayTry s.bindings ts (head_of ps gs)
    EntryIsRegular (too_deep g) = Unit {0}
    EntryIsRegular (clauses {cs = cs} {ts = ts} {s = s} d) = MayTry s.bindings ts cs × BranchIsRegular d

    pub BuiltInIsRegular : {a : Activation} {may : Bool} {f : BuiltIn} {ts : Trees} {s : State} {r : Result} {x : State} →
        BuiltInCalled w a may f ts s r x → Type 0
    BuiltInIsRegular (built_in_too_many g) = Unit {0}
    BuiltInIsRegular (built_in_called d) = WorkIsRegular d

    pub WorkIsRegular : {a : Activation} {way : Way} {f : BuiltIn} {ts : Trees} {s : State} {r : Result} {x : State} →
        Worked w a way f ts s r x → Type 0
    WorkIsRegular (worked_at_once g) = Unit {0}
    WorkIsRegular (named g) = Unit {0}
    WorkIsRegular (starts d) = StartIsRegular d

    pub StartIsRegular : {a : Activation} {starter : Starter} {request : Request} {s : State} {r : Result} {x : State} →
        Started w a starter request s r x → Type 0
    StartIsRegular (refused_start g) = Unit {0}
    StartIsRegular (started_by d g) = EntryIsRegular d

-- A call from outside of all modules is regular where the function is that it enters.
abbrev pub OutsideIsRegular : {w : World} {name : List ℕ} {f : Option (Instance × Function)} {args : Trees} {o : Outcome} →
    FromOutside w name f args o → Type 0
OutsideIsRegular (jobs.undefined is) = Unit {0}
OutsideIsRegular (jobs.called {w = w} d is) = EntryIsRegular w d

-- A job is regular where its callback is, or the clause of the `receive`, and where these clauses are tried behind the head.

abbrev pub CallbackIsRegular : {j : Job} {m : List ℕ} {s : Tree} {callback : Callback} {f : Option Function} {i : Instance}
    {o : Outcome} → Handles j m s callback f i o → Type 0
CallbackIsRegular (not_exported is) = Unit {0}
CallbackIsRegular (handled {j = j} d is) = EntryIsRegular (world_of j) d

abbrev pub LoopIsRegular : Tree → Trees → Definition → Type 0
LoopIsRegular message args (definition.Clauses cs) = Unit {0}
LoopIsRegular message args (definition.Loop ps gs cs) =
    MayMatchEach ps args [] × ((env : List Tree) → matched_each ps args [] ≡ Some env →
    MayTry env (term.more message term.none) cs)

abbrev pub ReceivingIsRegular : Tree → Trees → Option Function → Type 0
ReceivingIsRegular message args None = Unit {0}
ReceivingIsRegular message args (Some f) = LoopIsRegular message args f.definition

abbrev pub ReceivedIsRegular : {j : Job} {i : Instance} {found : Selection} {o : Outcome} → Receives j i found o → Type 0
ReceivedIsRegular (unheard is) = Unit {0}
ReceivedIsRegular (received {j = j} d is) = BodyIsRegular (world_of j) d

abbrev pub JobIsRegular : (j : Job) (p : Place) (entered : Option Instance) (o : Outcome) → GivesAt j p entered o → Type 0
JobIsRegular j (server m s) None o d = Unit {0}
JobIsRegular j (server m s) (Some i) o d = CallbackIsRegular d
JobIsRegular j (looping m serial name args) None o d = Unit {0}
JobIsRegular j (looping m serial name args) (Some i) o d =
    ReceivingIsRegular j.message args (function_of name (count args) i.forms) × ReceivedIsRegular d
