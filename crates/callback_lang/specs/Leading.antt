-- What comes of functions and bodies in the outermost call.
use Rattle.std.specs.Prelude.{◌≡◌, ℕ, true, false, List, [], Option}
use Rattle.erl_term.specs.Tree.{Tree, Trees}
use Rattle.erl_ir.specs.declared.function.Function.{Function}
use Rattle.erl_ir.specs.Expression.{Exprs}
use Rattle.erl_semantics.specs.State.{Instance, Act, Startup, all_acts, Result, World, State, with_bindings, with_calls}
use Rattle.erl_semantics.specs.Jobs.{Outcome, fresh, looped, outermost}
use Rattle.erl_semantics.specs.Evaluation.{Entered, Body}
use Rattle.erl_steps.specs.Machine.{Machine}

-- a machine that does nothing yet, in the outermost call of an instance
abbrev pub unused : Instance → Machine
unused i = record { activation = outermost i false; frames = []; state = fresh }

-- what comes of a function that is called in the outermost call: the acts, the process that is started, and a result
abbrev pub ComesOf : World → Instance → List ℕ → Function → Trees → List Act → Option Startup → Result → Type 0
ComesOf w i name f ts acts startup r = (s : State) ×
    Entered w (outermost i false) true name f.definition ts fresh r s × (s.acts ≡ acts) × (s.startup ≡ startup)

-- and its outcome
abbrev pub CallComes : World → Instance → List ℕ → Function → Trees → Outcome → Type 0
CallComes w i name f ts o = (r : Result) × (s : State) ×
    Entered w (outermost i false) true name f.definition ts fresh r s ×
    (o ≡ record { acts = all_acts s.startup s.acts; ended = r })

-- what comes of a body in the outermost call, where this is bound and so many calls were made
abbrev pub BodyComes : World → Instance → List Tree → ℕ → Exprs → List Act → Result → Type 0
BodyComes w i env calls body acts r = (s : State) ×
    Body w (outermost i true) true body (with_calls calls (with_bindings env fresh)) r s × (s.acts ≡ acts)

-- what comes of the clause of a `receive`
abbrev pub LoopComes : World → Instance → List Tree → ℕ → Exprs → Outcome → Type 0
LoopComes w i env calls body o = (r : Result) × (s : State) ×
    Body w (outermost i true) true body (with_calls calls (with_bindings env fresh)) r s × (o ≡ looped s.acts r)
