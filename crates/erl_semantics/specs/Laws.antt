-- At most one result comes of an expression, and at most one outcome of a call and of a job; and the messages that a place
-- accepts are those that by the rules are taken there.
use Rattle.std.specs.Prelude.{◌≡◌, ◌↔◌, ◌<◌, ℕ, Bool, true, false, List, ◌∷◌, Option, None, Some, IsTrue}
use Rattle.erl_term.specs.Tree.{Tree, Trees, count}
use Rattle.erl_ir.specs.Expression.{Expr, Exprs}
use Rattle.erl_ir.specs.Module.{function_of}
use Rattle.erl_semantics.specs.State.{Instance, Place, server, loop, Result, World, Activation, State, with_bindings, with_calls}
use Rattle.erl_semantics.specs.Guards.{Selection}
use Rattle.erl_semantics.specs.Evaluation.{Eval, Body}
use Rattle.erl_semantics.specs.Jobs.{Outcome, Evaluates, Job, GivesJob, GivesAt, accepts, entered_in, fresh, heard, looped, nowhere}
use Rattle.erl_semantics.specs.Jobs.{outermost, world_of}

-- an expression has one result, and leaves one state behind
abbrev pub OneResult : Type 0
OneResult = (w : World) (a : Activation) (tail : Bool) (e : Expr) (s : State) (r q : Result) (s1 s2 : State) →
    Eval w a tail e s r s1 → Eval w a tail e s q s2 → (r ≡ q) × (s1 ≡ s2)

-- a call from outside has one outcome
abbrev pub OneOutcome : Type 0
OneOutcome = (w : World) (m f : List ℕ) (args : Trees) (one other : Outcome) →
    Evaluates w m f args one → Evaluates w m f args other → one ≡ other

-- a job has one outcome
abbrev pub OneJobOutcome : Type 0
OneJobOutcome = (j : Job) (one other : Outcome) → GivesJob j one → GivesJob j other → one ≡ other

-- A process that rests in a callback module accepts each message.
abbrev pub ServersAcceptEach : Type 0
ServersAcceptEach = (self : ℕ) (m : List ℕ) (s : Tree) (code : List Instance) (message : Tree) →
    accepts self (server m s) code message ≡ true

-- a clause is selected: what is bound in it, its body, and how many calls guards made
abbrev pub SelectsOne : Selection → Type 0
SelectsOne found = (env : List Tree) × (body : Exprs) × (calls : ℕ) × (found ≡ (Some (env, body), calls))

-- A process that rests in a loop function of an instance accepts exactly the messages that select a clause of its `receive`.
abbrev pub LoopsAcceptWhatTheyHear : Type 0
LoopsAcceptWhatTheyHear = (self : ℕ) (m : List ℕ) (serial : ℕ) (name : List ℕ) (args : Trees) (i : Instance) (is : List Instance)
    (message : Tree) →
    IsTrue (accepts self (loop m serial name args) (i ∷ is) message) ↔
    SelectsOne (heard self message args (function_of name (count args) i.forms))

-- what the clause of a `receive` gives that is selected
abbrev pub ClauseGives : Job → Instance → Selection → Outcome → Type 0
ClauseGives j i found o = (env : List Tree) × (body : Exprs) × (calls : ℕ) × (r : Result) × (s : State) ×
    (found ≡ (Some (env, body), calls)) ×
    Body (world_of j) (outermost i true) true body (with_calls calls (with_bindings env fresh)) r s ×
    (o ≡ looped s.acts r)

-- What a job gives by what takes its message: by the callback of a module, or by the clause of a `receive` that is selected.
abbrev pub TakenAt : Job → Place → Option Instance → Outcome → Type 0
TakenAt j (server m s) i o = GivesAt j (server m s) i o
TakenAt j (loop m serial name args) None o = ⊥
TakenAt j (loop m serial name args) (Some i) o =
    ClauseGives j i (heard j.pid j.message args (function_of name (count args) i.forms)) o

-- A job gives what comes of its message by what takes it exactly where the message is accepted.
abbrev pub TakenWhereAccepted : Type 0
TakenWhereAccepted = (j : Job) → 0 < j.entry_serial → (o : Outcome) →
    TakenAt j j.place (entered_in j.entry_serial j.code) o ↔
    (IsTrue (accepts j.pid j.place j.code j.message) × GivesJob j o)

-- A job gives `undef`, with no act, where its message is not accepted, and nothing else.
abbrev pub RefusedGiveUndef : Type 0
RefusedGiveUndef = (j : Job) → 0 < j.entry_serial → accepts j.pid j.place j.code j.message ≡ false → (o : Outcome) →
    GivesJob j o ↔ (o ≡ nowhere)
