-- How much is left to be done.
--
-- What is to be evaluated weighs more than what its first step leaves of it. The calls that are left weigh as much each as the
-- heaviest body that a call can begin, so that a call may leave such a body behind.
use Rattle.std.specs.Prelude.{ℕ, ◌+◌, ◌-◌, ◌*◌, max, List, [], ◌∷◌}
use Rattle.erl_ir.specs.declared.function.Function.{Function}
use Rattle.erl_ir.specs.declared.function.Definition.{Definition}
use Rattle.erl_ir.specs.declared.function.Definition.TheVariants as definition
use Rattle.erl_ir.specs.Expression as form
use Rattle.erl_ir.specs.Expression.{Expr, Exprs, Clauses}
use Rattle.erl_ir.specs.Module.{Key}
use Rattle.erl_semantics.specs.State.{Instance, World}
use Rattle.erl_steps.specs.Machine.{Frame, operands, onward, binding, cases, deciding, scope, caller, starter}
use Rattle.erl_steps.specs.Machine.{Control, evaluate, run, give, settle, end, Machine}

abbrev mutual
  pub expr_weight : Expr → ℕ
  expr_weight (form.literal t) = 2
  expr_weight (form.variable index) = 2
  expr_weight (form.apply op es) = 1 + row_weight es
  expr_weight (form.match p body) = 2 + row_weight body
  expr_weight (form.block body) = 1 + row_weight body
  expr_weight (form.case subject cs) = 2 + row_weight subject + clauses_weight cs
  expr_weight (form.short_circuit c left right) = 2 + row_weight left + row_weight right

  -- operands, or a body
  pub row_weight : Exprs → ℕ
  row_weight form.none = 1
  row_weight (form.more e es) = 1 + expr_weight e + row_weight es

  -- the heaviest body of clauses
  pub clauses_weight : Clauses → ℕ
  clauses_weight form.no_clauses = 0
  clauses_weight (form.clause ps gs body cs) = max (row_weight body) (clauses_weight cs)

-- The heaviest body that a call can begin, of a function, of functions, and of instances: a call of a loop function begins none.

abbrev pub definition_weight : Definition → ℕ
definition_weight (definition.Loop ps gs cs) = 0
definition_weight (definition.Clauses cs) = clauses_weight cs

abbrev pub functions_weight : List (Key × Function) → ℕ
functions_weight [] = 0
functions_weight (f ∷ fs) = max (definition_weight f.1.definition) (functions_weight fs)

abbrev pub instance_weight : Instance → ℕ
instance_weight i = functions_weight i.forms.functions

abbrev pub code_weight : List Instance → ℕ
code_weight [] = 0
code_weight (i ∷ is) = max (instance_weight i) (code_weight is)

-- of the instances of the calls that wait
abbrev pub callers_weight : List Frame → ℕ
callers_weight [] = 0
callers_weight (operands op ts es ∷ fs) = callers_weight fs
callers_weight (onward es ∷ fs) = callers_weight fs
callers_weight (binding p ∷ fs) = callers_weight fs
callers_weight (cases cs ∷ fs) = callers_weight fs
callers_weight (deciding c right ∷ fs) = callers_weight fs
callers_weight (scope n ∷ fs) = callers_weight fs
callers_weight (caller env a ∷ fs) = max (instance_weight a.instance) (callers_weight fs)
callers_weight (starter st env a m ∷ fs) = max (instance_weight a.instance) (callers_weight fs)

-- what a call weighs: more than each body that it can begin
abbrev pub call_weight : World → Machine → ℕ
call_weight w m = 1 + max (code_weight w.code) (max (instance_weight m.activation.instance) (callers_weight m.frames))

abbrev pub control_weight : Control → ℕ
control_weight (evaluate e) = expr_weight e
control_weight (run es) = row_weight es
control_weight (give t) = 1
control_weight (settle p) = 1
control_weight (end r) = 0

abbrev pub frames_weight : List Frame → ℕ
frames_weight [] = 0
frames_weight (operands op ts es ∷ fs) = row_weight es + frames_weight fs
frames_weight (onward es ∷ fs) = row_weight es + frames_weight fs
frames_weight (binding p ∷ fs) = 1 + frames_weight fs
frames_weight (cases cs ∷ fs) = 1 + clauses_weight cs + frames_weight fs
frames_weight (deciding c right ∷ fs) = 1 + row_weight right + frames_weight fs
frames_weight (scope n ∷ fs) = 1 + frames_weight fs
frames_weight (caller env a ∷ fs) = 1 + frames_weight fs
frames_weight (starter st env a m ∷ fs) = 1 + frames_weight fs

-- so many calls of this weight that were not made yet, of 10,000, and what weighs so much besides
unfoldable pub work : ℕ → ℕ → ℕ → ℕ
work calls each besides = (10000 - calls) * each + besides

-- what is left to be done
abbrev pub work_left : World → Control → Machine → ℕ
work_left w next m = work m.state.calls (call_weight w m) (control_weight next + frames_weight m.frames)
