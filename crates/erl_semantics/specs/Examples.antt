-- Examples: that the rules give what the Reference Manual says of small modules.
use Rattle.std.specs.Prelude.{ℕ, ◌-◌, ◌^◌, pos, true, false, List, [], ◌∷◌, codes, None}
use Rattle.erl_term.specs.Tree as term
use Rattle.erl_term.specs.Tree.{Tree, int, atom, pid}
use Rattle.erl_term.specs.Conversions.{row}
use Rattle.erl_ir.specs.declared.operation.Connective.TheVariants.{AndAlso}
use Rattle.erl_ir.specs.declared.operation.BuiltIn.{BuiltIn}
use Rattle.erl_ir.specs.declared.operation.Operator.{Operator}
use Rattle.erl_ir.specs.declared.operation.Operator.TheVariants as operator
use Rattle.erl_ir.specs.declared.operation.BuiltIn.TheVariants as built_in
use Rattle.erl_ir.specs.declared.operation.Operation.TheVariants as operation
use Rattle.erl_ir.specs.declared.function.Function.{Function}
use Rattle.erl_ir.specs.declared.function.Definition.TheVariants as definition
use Rattle.erl_ir.specs.Module.{Key, Forms}
use Rattle.erl_ir.specs.Pattern as pattern
use Rattle.erl_ir.specs.Pattern.{Pat, Pats}
use Rattle.erl_ir.specs.Expression as form
use Rattle.erl_ir.specs.Expression.{Expr, Exprs, Guards, Clauses}
use Rattle.erl_semantics.specs.State.{Instance, World, plain, start_mode, value, rest, exit, exit_by, exit_by_pair, server, loop}
use Rattle.erl_semantics.specs.State as state
use Rattle.erl_semantics.specs.State.{named}
use Rattle.erl_semantics.specs.Jobs.{Evaluates, GivesJob}

-- How modules are written here.

abbrev pub n : ℕ → Tree
n k = int (pos k)

abbrev pub a : List ℕ → Tree
a cs = atom cs

-- patterns, expressions and clauses in a row

abbrev pub pats : List Pat → Pats
pats [] = pattern.none
pats (p ∷ ps) = pattern.more p (pats ps)

abbrev pub exprs : List Expr → Exprs
exprs [] = form.none
exprs (e ∷ es) = form.more e (exprs es)

abbrev pub clauses : List (Pats × Exprs) → Clauses
clauses [] = form.no_clauses
clauses (c ∷ cs) = form.clause c.0 form.no_guards c.1 (clauses cs)

-- a clause with a guard sequence of guards of one test, and functions of it
abbrev pub guards : List Expr → Guards
guards [] = form.no_guards
guards (test ∷ tests) = form.guard (form.more test form.none) (guards tests)

abbrev pub call_of : BuiltIn → List Expr → Expr
call_of f es = form.apply (operation.BuiltIn f false) (exprs es)

abbrev pub operation_of : Operator → List Expr → Expr
operation_of o es = form.apply (operation.Operator o) (exprs es)

-- a clause without a guard: its patterns, and its body
abbrev pub clause_of : List Pat → List Expr → Pats × Exprs
clause_of ps body = (pats ps, exprs body)

abbrev pub exported : List ℕ → ℕ → List (Pats × Exprs) → Key × Function
exported name arity cs = ((name, arity), record { exported = true; definition = definition.Clauses (clauses cs) })

abbrev pub literal : Tree → Expr
literal t = form.literal t

abbrev pub var : ℕ → Expr
var index = form.variable index

abbrev pub tuple_of : List Expr → Expr
tuple_of es = form.apply operation.Tuple (exprs es)

-- -module(lim).
-- f(0) -> 0; f(N) -> 1 + f(N-1).
-- p(N) -> N + 1.
-- q(A,B) -> A div B.
-- t() -> 1 andalso true.
-- c(X) -> case X of a -> b end.
abbrev pub lim : Forms
lim = record {
  name = codes "lim";
  vsn = None;
  functions =
      exported (codes "f") 1
      (clause_of (pattern.literal (n 0) ∷ []) (literal (n 0) ∷ []) ∷
      clause_of (pattern.variable 0 ∷ []) (form.apply (operation.Operator operator.Add) (exprs (literal (n 1) ∷
      form.apply (operation.Local (codes "f")) (exprs (form.apply (operation.Operator operator.Subtract)
      (exprs (var 0 ∷ literal (n 1) ∷ [])) ∷ [])) ∷ [])) ∷ []) ∷ []) ∷
      exported (codes "p") 1 (clause_of (pattern.variable 0 ∷ [])
      (form.apply (operation.Operator operator.Add) (exprs (var 0 ∷ literal (n 1) ∷ [])) ∷ []) ∷ []) ∷
      exported (codes "q") 2 (clause_of (pattern.variable 0 ∷ pattern.variable 1 ∷ [])
      (form.apply (operation.Operator operator.Divide) (exprs (var 0 ∷ var 1 ∷ [])) ∷ []) ∷ []) ∷
      exported (codes "t") 0 (clause_of []
      (form.short_circuit AndAlso (exprs (literal (n 1) ∷ [])) (exprs (literal (a (codes "true")) ∷ [])) ∷ []) ∷ []) ∷
      exported (codes "c") 1 (clause_of (pattern.variable 0 ∷ []) (form.case (exprs (var 0 ∷ []))
      (clauses (clause_of (pattern.literal (a (codes "a")) ∷ []) (literal (a (codes "b")) ∷ []) ∷ [])) ∷ []) ∷ []) ∷ [];
}

-- -module(choice).
-- g(X) when X + 1 > 0 -> a; g(X) when hd(X) == 1; is_integer(X) -> b; g(_) -> c.
-- h(X,X,[A|T]) -> {A,T}.
abbrev pub choice : Forms
choice = record {
  name = codes "choice";
  vsn = None;
  functions = (
    (codes "g", 1),
    record {
      exported = true;
      definition = definition.Clauses
          (form.clause (pats (pattern.variable 0 ∷ []))
          (guards (operation_of operator.Greater
          (operation_of operator.Add (var 0 ∷ literal (n 1) ∷ []) ∷ literal (n 0) ∷ []) ∷ []))
          (exprs (literal (a (codes "a")) ∷ []))
          (form.clause (pats (pattern.variable 0 ∷ []))
          (guards (operation_of operator.Equal (call_of built_in.Hd (var 0 ∷ []) ∷ literal (n 1) ∷ []) ∷
          call_of built_in.IsInteger (var 0 ∷ []) ∷ []))
          (exprs (literal (a (codes "b")) ∷ []))
          (form.clause (pats (pattern.anything ∷ [])) form.no_guards (exprs (literal (a (codes "c")) ∷ []))
          form.no_clauses)));
    },
  ) ∷
      exported (codes "h") 3 (clause_of (pattern.variable 0 ∷ pattern.variable 0 ∷
      pattern.cons (pats (pattern.variable 1 ∷ pattern.variable 2 ∷ [])) ∷ [])
      (tuple_of (var 1 ∷ var 2 ∷ []) ∷ []) ∷ []) ∷ [];
}

-- -module(sv).
-- start() -> a ! 1, R = gen_server:start_link({local,n},sv,[],[]), c ! 3, R.
-- init(_) -> b ! 2, {ok,0}.
abbrev pub sv : Forms
sv = record {
  name = codes "sv";
  vsn = None;
  functions =
      exported (codes "start") 0 (clause_of []
      (operation_of operator.Send (literal (a (codes "a")) ∷ literal (n 1) ∷ []) ∷
      form.match (pattern.variable 0) (exprs (form.apply (operation.BuiltIn built_in.StartLink true)
      (exprs (tuple_of (literal (a (codes "local")) ∷ literal (a (codes "n")) ∷ []) ∷ literal (a (codes "sv")) ∷
      literal (term.list term.none) ∷ literal (term.list term.none) ∷ [])) ∷ [])) ∷
      operation_of operator.Send (literal (a (codes "c")) ∷ literal (n 3) ∷ []) ∷ var 0 ∷ []) ∷ []) ∷
      exported (codes "init") 1 (clause_of (pattern.anything ∷ [])
      (operation_of operator.Send (literal (a (codes "b")) ∷ literal (n 2) ∷ []) ∷
      tuple_of (literal (a (codes "ok")) ∷ literal (n 0) ∷ []) ∷ []) ∷ []) ∷ [];
}

-- -module(bell).
-- handle_call(ring,_F,S) -> other ! ding, {reply,ok,S}.
abbrev pub bell : Forms
bell = record {
  name = codes "bell";
  vsn = None;
  functions = exported (codes "handle_call") 3
      (clause_of (pattern.literal (a (codes "ring")) ∷ pattern.anything ∷ pattern.variable 0 ∷ [])
      (form.apply (operation.Operator operator.Send)
      (exprs (literal (a (codes "other")) ∷ literal (a (codes "ding")) ∷ [])) ∷
      tuple_of (literal (a (codes "reply")) ∷ literal (a (codes "ok")) ∷ var 0 ∷ []) ∷ []) ∷ []) ∷ [];
}

-- -module(lp).
-- start() -> P = spawn_link(lp,loop,[0]), register(lp,P), {ok,P}.
-- loop(N) -> receive {set,K} -> loop(K) end.
abbrev pub lp : Forms
lp = record {
  name = codes "lp";
  vsn = None;
  functions =
      exported (codes "start") 0 (clause_of []
      (form.match (pattern.variable 0) (exprs (form.apply (operation.BuiltIn built_in.SpawnLink false)
      (exprs (literal (a (codes "lp")) ∷ literal (a (codes "loop")) ∷ form.apply operation.List
      (exprs (literal (n 0) ∷ [])) ∷ [])) ∷ [])) ∷
      form.apply (operation.BuiltIn built_in.Register false) (exprs (literal (a (codes "lp")) ∷ var 0 ∷ [])) ∷
      tuple_of (literal (a (codes "ok")) ∷ var 0 ∷ []) ∷ []) ∷ []) ∷ (
        (codes "loop", 1),
        record {
          exported = true;
          definition = definition.Loop (pats (pattern.variable 0 ∷ [])) form.no_guards
              (clauses (clause_of (pattern.tuple (pats (pattern.literal (a (codes "set")) ∷ pattern.variable 1 ∷ [])) ∷ [])
              (form.apply (operation.Local (codes "loop")) (exprs (var 1 ∷ [])) ∷ []) ∷ []));
        },
      ) ∷ [];
}

-- -module(ender).
-- handle_call(go,_F,_S) -> {stop,done,bye,0}; handle_call(odd,_F,_S) -> odd.
-- handle_cast(_,S) -> {noreply,S}.
-- handle_info(_,_S) -> {stop,gone,0}.
abbrev pub ender : Forms
ender = record {
  name = codes "ender";
  vsn = None;
  functions =
      exported (codes "handle_call") 3
      (clause_of (pattern.literal (a (codes "go")) ∷ pattern.anything ∷ pattern.anything ∷ [])
      (literal (term.tuple (row (a (codes "stop") ∷ a (codes "done") ∷ a (codes "bye") ∷ n 0 ∷ []))) ∷ []) ∷
      clause_of (pattern.literal (a (codes "odd")) ∷ pattern.anything ∷ pattern.anything ∷ [])
      (literal (a (codes "odd")) ∷ []) ∷ []) ∷
      exported (codes "handle_cast") 2 (clause_of (pattern.anything ∷ pattern.variable 0 ∷ [])
      (tuple_of (literal (a (codes "noreply")) ∷ var 0 ∷ []) ∷ []) ∷ []) ∷
      exported (codes "handle_info") 2 (clause_of (pattern.anything ∷ pattern.anything ∷ [])
      (literal (term.tuple (row (a (codes "stop") ∷ a (codes "gone") ∷ n 0 ∷ []))) ∷ []) ∷ []) ∷ [];
}

-- each loaded once
abbrev pub instance_of : ℕ → Forms → Instance
instance_of serial m = record { name = m.name; serial = serial; forms = m }

abbrev pub loaded : List Instance
loaded = instance_of 1 lim ∷ instance_of 2 bell ∷ instance_of 3 lp ∷ instance_of 4 choice ∷ instance_of 5 sv ∷ []

abbrev pub plain_world : World
plain_world = record { code = loaded; pid = 0; mode = plain }

abbrev pub start_world : World
start_world = record { code = loaded; pid = 7; mode = start_mode }

-- a call of a function of `lim` gives this and does nothing
abbrev pub LimGives : List ℕ → List Tree → state.Result → Type 0
LimGives f args r = Evaluates plain_world (codes "lim") f (row args) (record { acts = []; ended = r })

-- `f(2)` is 2.
abbrev pub CallsAreAdded : Type 0
CallsAreAdded = LimGives (codes "f") (n 2 ∷ []) (value (n 2))

-- `q(7,0)` ends with `badarith`.
abbrev pub ZeroDividesNothing : Type 0
ZeroDividesNothing = LimGives (codes "q") (n 7 ∷ n 0 ∷ []) (exit_by (codes "badarith"))

-- `p(9223372036854775807)` ends with `system_limit`.
abbrev pub IntegersEnd : Type 0
IntegersEnd = LimGives (codes "p") (n (2 ^ 63 - 1) ∷ []) (exit_by (codes "system_limit"))

-- `1 andalso true` ends with `{badarg,1}`.
abbrev pub OneIsNoTruth : Type 0
OneIsNoTruth = LimGives (codes "t") [] (exit_by_pair (codes "badarg") (n 1))

-- `case z of a -> b end` ends with `{case_clause,z}`.
abbrev pub NoClauseFits : Type 0
NoClauseFits = LimGives (codes "c") (a (codes "z") ∷ []) (exit_by_pair (codes "case_clause") (a (codes "z")))

abbrev pub ChoiceGives : List ℕ → List Tree → state.Result → Type 0
ChoiceGives f args r = Evaluates plain_world (codes "choice") f (row args) (record { acts = []; ended = r })

-- a guard that fails is false, whether it breaches a limit or is applied to the wrong term; an alternative may still be true
abbrev pub GuardsThatFailAreFalse : Type 0
GuardsThatFailAreFalse =
    ChoiceGives (codes "g") (n 7 ∷ []) (value (a (codes "a"))) ×
    ChoiceGives (codes "g") (n (2 ^ 63 - 1) ∷ []) (value (a (codes "b"))) ×
    ChoiceGives (codes "g") (a (codes "z") ∷ []) (value (a (codes "c")))

-- a variable that stands twice in the head compares
abbrev pub VariablesCompare : Type 0
VariablesCompare =
    ChoiceGives (codes "h") (n 1 ∷ n 1 ∷ term.list (row (n 2 ∷ [])) ∷ [])
    (value (term.tuple (row (n 2 ∷ term.list term.none ∷ [])))) ×
    ChoiceGives (codes "h") (n 1 ∷ n 2 ∷ term.list (row (n 2 ∷ [])) ∷ []) (exit_by (codes "function_clause"))

-- the start and the name stand before what `init` sends, and behind what was sent before
abbrev pub StartStandsBeforeItsActs : Type 0
StartStandsBeforeItsActs = Evaluates start_world (codes "sv") (codes "start") term.none (record {
  acts = state.send (named (codes "a")) (n 1) ∷ state.start (server (codes "sv") (n 0)) ∷ state.name (codes "n") false ∷
      state.send (named (codes "b")) (n 2) ∷ state.send (named (codes "c")) (n 3) ∷ [];
  ended = value (term.tuple (row (a (codes "ok") ∷ pid 7 ∷ [])));
})

-- `bell` exports no `handle_info/2`
abbrev pub OtherMessagesAreDropped : Type 0
OtherMessagesAreDropped = GivesJob (record {
  pid = 2;
  turn = 0;
  place = server (codes "bell") (n 4);
  entry_serial = 2;
  message = a (codes "tick");
  code = instance_of 2 bell ∷ [];
})
    (record { acts = []; ended = rest (server (codes "bell") (n 4)) })

-- A call of `bell` by client 0 with the number 5: the send comes before the callback's own reply.
abbrev pub SendsBeforeItsReply : Type 0
SendsBeforeItsReply = GivesJob (record {
  pid = 2;
  turn = 0;
  place = server (codes "bell") (n 4);
  entry_serial = 2;
  message = term.tuple (row (a (codes "$gen_call") ∷ term.tuple (row (pid 0 ∷ n 5 ∷ [])) ∷ a (codes "ring") ∷ []));
  code = instance_of 2 bell ∷ [];
})
    (record {
      acts = state.send (named (codes "other")) (a (codes "ding")) ∷ state.reply 5 (a (codes "ok")) ∷ [];
      ended = rest (server (codes "bell") (n 4));
    })

-- `{set,9}` lets `lp:loop(0)` rest in `loop(9)`.
abbrev pub RestsWithItsArguments : Type 0
RestsWithItsArguments = GivesJob (record {
  pid = 7;
  turn = 0;
  place = loop (codes "lp") 3 (codes "loop") (row (n 0 ∷ []));
  entry_serial = 3;
  message = term.tuple (row (a (codes "set") ∷ n 9 ∷ []));
  code = instance_of 3 lp ∷ loaded;
})
    (record { acts = []; ended = rest (loop (codes "lp") 3 (codes "loop") (row (n 9 ∷ []))) })

-- `lp:start()` starts a process that rests in `loop(0)`, and names it.
abbrev pub StartsWithAName : Type 0
StartsWithAName = Evaluates start_world (codes "lp") (codes "start") term.none (record {
  acts = state.start (loop (codes "lp") 3 (codes "loop") (row (n 0 ∷ []))) ∷ state.name (codes "lp") true ∷ [];
  ended = value (term.tuple (row (a (codes "ok") ∷ pid 7 ∷ [])));
})

-- a message to a process that rests in `ender` with the state 4 gives this
abbrev pub EnderGives : Tree → List state.Act → state.Result → Type 0
EnderGives message acts r = GivesJob (record {
  pid = 2;
  turn = 0;
  place = server (codes "ender") (n 4);
  entry_serial = 6;
  message = message;
  code = instance_of 6 ender ∷ [];
})
    (record { acts = acts; ended = r })

-- the call of a request by client 0 with the number 5
abbrev pub call_5 : List ℕ → Tree
call_5 request = term.tuple (row (a (codes "$gen_call") ∷ term.tuple (row (pid 0 ∷ n 5 ∷ [])) ∷ a request ∷ []))

-- `{stop,done,bye,0}` replies, and ends the process.
abbrev pub StopsWithAReply : Type 0
StopsWithAReply = EnderGives (call_5 (codes "go")) (state.reply 5 (a (codes "bye")) ∷ []) (exit (a (codes "done")))

-- `odd` is no value that `handle_call/3` may return.
abbrev pub OddValueIsBad : Type 0
OddValueIsBad = EnderGives (call_5 (codes "odd")) [] (exit_by_pair (codes "bad_return_value") (a (codes "odd")))

-- `{noreply,4}` rests.
abbrev pub RestsWithoutReply : Type 0
RestsWithoutReply = EnderGives (term.tuple (row (a (codes "$gen_cast") ∷ a (codes "go") ∷ []))) []
    (rest (server (codes "ender") (n 4)))

-- `{stop,gone,0}` ends the process.
abbrev pub StopsByItself : Type 0
StopsByItself = EnderGives (a (codes "tick")) [] (exit (a (codes "gone")))
