-- What may still come of the machine: what the rules say of what is left to be done.
use Rattle.std.specs.Prelude.{◌≡◌, List, [], ◌∷◌, take}
use Rattle.erl_term.specs.Tree.{Trees, none, more}
use Rattle.erl_semantics.specs.State.{Result, World, Activation, State, with_bindings, value, rest}
use Rattle.erl_semantics.specs.Guards.{Values, with_first}
use Rattle.erl_semantics.specs.Evaluation.{Eval, Body, Bound, Others, Applied, Onward, Cased, Decided}
use Rattle.erl_semantics.specs.Starting.{started}
use Rattle.erl_steps.specs.Machine.{Frame, operands, onward, binding, cases, deciding, scope, caller, starter, is_tail}
use Rattle.erl_steps.specs.Machine.{Control, evaluate, run, give, settle, end, Machine}

-- what evaluating ends in: a result, and the state but for its bindings
abbrev pub Final : Type 0
Final = Result × State

-- values, before those of the other operands
abbrev pub before : Trees → Values → Values
before none v = v
before (more t ts) v = with_first t (before ts v)

-- what may come of a result in a state, where this is left to be done
abbrev pub Resumes : World → Activation → List Frame → Result → State → Final → Type 0
Resumes w a [] r s f = f ≡ (r, with_bindings [] s)
Resumes w a (operands op ts es ∷ fs) r s f =
    (v : Values) × (s1 : State) × (q : Result) × (s2 : State) × Others w a es r s v s1 ×
    Applied w a (is_tail fs) op (before ts v) s1 q s2 × Resumes w a fs q s2 f
Resumes w a (onward es ∷ fs) r s f =
    (q : Result) × (s1 : State) × Onward w a (is_tail fs) es r s q s1 × Resumes w a fs q s1 f
Resumes w a (binding p ∷ fs) r s f = (q : Result) × (s1 : State) × Bound p r s q s1 × Resumes w a fs q s1 f
Resumes w a (cases cs ∷ fs) r s f =
    (q : Result) × (s1 : State) × Cased w a (is_tail fs) cs r s q s1 × Resumes w a fs q s1 f
Resumes w a (deciding c right ∷ fs) r s f =
    (q : Result) × (s1 : State) × Decided w a (is_tail fs) c right r s q s1 × Resumes w a fs q s1 f
Resumes w a (scope n ∷ fs) r s f = Resumes w a fs r (with_bindings (take n s.bindings) s) f
Resumes w a (caller env b ∷ fs) r s f = Resumes w b fs r (with_bindings env s) f
Resumes w a (starter st env b m ∷ fs) r s f = Resumes w b fs (started w st env m r s).0 (started w st env m r s).1 f

-- what may come of what comes next
abbrev pub Comes : World → Control → Machine → Final → Type 0
Comes w (evaluate e) m f = (r : Result) × (s : State) ×
    Eval w m.activation (is_tail m.frames) e m.state r s × Resumes w m.activation m.frames r s f
Comes w (run es) m f = (r : Result) × (s : State) ×
    Body w m.activation (is_tail m.frames) es m.state r s × Resumes w m.activation m.frames r s f
Comes w (give t) m f = Resumes w m.activation m.frames (value t) m.state f
Comes w (settle p) m f = Resumes w m.activation m.frames (rest p) m.state f
Comes w (end r) m f = f ≡ (r, with_bindings [] m.state)
