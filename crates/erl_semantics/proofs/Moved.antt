-- What came of an equal beginning, moved to it.
use Rattle.std.specs.Prelude.{◌≡◌, Bool}
use Rattle.std.proofs.Common.{sym, subst}
use Rattle.erl_ir.specs.declared.operation.Connective.{Connective}
use Rattle.erl_ir.specs.declared.operation.Operation.{Operation}
use Rattle.erl_ir.specs.Pattern.{Pat}
use Rattle.erl_ir.specs.Expression.{Exprs, Clauses}
use Rattle.erl_semantics.specs.State.{Result, World, Activation, State}
use Rattle.erl_semantics.specs.Guards.{Values}
use Rattle.erl_semantics.specs.Evaluation.{Bound, Others, Applied, Onward, Cased, Decided}

pub bound_moved : {p : Pat} {q q' : Result} {s s' : State} {r : Result} {z : State} →
    q ≡ q' → s ≡ s' → Bound p q' s' r z → Bound p q s r z
bound_moved {p = p} {q = q} {q' = q'} {s = s} {s' = s'} {r = r} {z = z}
    q_same s_same m =
    subst (λ x. Bound p q x r z) (sym s_same) (subst (λ x. Bound p x s' r z) (sym q_same) m)

pub others_moved : {w : World} {a : Activation} {es : Exprs} {q q' : Result} {s s' : State} {v : Values} {z : State} →
    q ≡ q' → s ≡ s' → Others w a es q' s' v z → Others w a es q s v z
others_moved {w = w} {a = a} {es = es} {q = q} {q' = q'} {s = s} {s' = s'} {v = v} {z = z}
    q_same s_same m =
    subst (λ x. Others w a es q x v z) (sym s_same) (subst (λ x. Others w a es x s' v z) (sym q_same) m)

pub applied_moved : {w : World} {a : Activation} {tail : Bool} {op : Operation} {v v' : Values} {s s' : State} {r : Result} {z : State} →
    v ≡ v' → s ≡ s' → Applied w a tail op v' s' r z → Applied w a tail op v s r z
applied_moved {w = w} {a = a} {tail = tail} {op = op} {v = v} {v' = v'} {s = s} {s' = s'} {r = r} {z = z}
    v_same s_same m =
    subst (λ x. Applied w a tail op v x r z) (sym s_same) (subst (λ x. Applied w a tail op x s' r z) (sym v_same) m)

pub onward_moved : {w : World} {a : Activation} {tail : Bool} {es : Exprs} {q q' : Result} {s s' : State} {r : Result} {z : State} →
    q ≡ q' → s ≡ s' → Onward w a tail es q' s' r z → Onward w a tail es q s r z
onward_moved {w = w} {a = a} {tail = tail} {es = es} {q = q} {q' = q'} {s = s} {s' = s'} {r = r} {z = z}
    q_same s_same m =
    subst (λ x. Onward w a tail es q x r z) (sym s_same) (subst (λ x. Onward w a tail es x s' r z) (sym q_same) m)

pub cased_moved : {w : World} {a : Activation} {tail : Bool} {cs : Clauses} {q q' : Result} {s s' : State} {r : Result} {z : State} →
    q ≡ q' → s ≡ s' → Cased w a tail cs q' s' r z → Cased w a tail cs q s r z
cased_moved {w = w} {a = a} {tail = tail} {cs = cs} {q = q} {q' = q'} {s = s} {s' = s'} {r = r} {z = z}
    q_same s_same m =
    subst (λ x. Cased w a tail cs q x r z) (sym s_same) (subst (λ x. Cased w a tail cs x s' r z) (sym q_same) m)

pub decided_moved : {w : World} {a : Activation} {tail : Bool} {c : Connective} {es : Exprs} {q q' : Result} {s s' : State} {r : Result} {z : State} →
    q ≡ q' → s ≡ s' → Decided w a tail c es q' s' r z → Decided w a tail c es q s r z
decided_moved {w = w} {a = a} {tail = tail} {c = c} {es = es} {q = q} {q' = q'} {s = s} {s' = s'} {r = r} {z = z}
    q_same s_same m =
    subst (λ x. Decided w a tail c es q x r z) (sym s_same) (subst (λ x. Decided w a tail c es x s' r z) (sym q_same) m)
