-- What an instruction gives by itself (appup(4), High-Level Instructions; relup(4)), one module to a part.
use Rattle.std.specs.Prelude.{List, [], ◌∷◌, ◌++◌, map, flat_map, ⊤}
use Rattle.std.specs.Option.{option_to_list}
use Rattle.low_instructions.specs.declared.low.Low.{Low}
use Rattle.low_instructions.specs.declared.low.Low.TheVariants as lows
use Rattle.low_instructions.specs.declared.modules.Direction.{Direction}
use Rattle.instructions.specs.declared.instruction.Instruction.{Instruction}
use Rattle.relup_make.specs.Parts.{change_of, suspension_of, work_of}
use Rattle.relup_make.specs.Work.{Way}

-- a part that lists modules, as one part for each of them; one that lists none stays
abbrev pub one_by_one : {A : Type 0} → (List A → Low) → List A → List Low
one_by_one part [] = part [] ∷ []
one_by_one part (x ∷ xs) = map (λ y. part (y ∷ [])) (x ∷ xs)

abbrev pub told_out : Low → List Low
told_out (lows.Suspend ss) = one_by_one lows.Suspend ss
told_out (lows.Resume ms) = one_by_one lows.Resume ms
told_out (lows.CodeChange direction cs) = one_by_one (lows.CodeChange direction) cs
told_out low = low ∷ []

-- an update is suspended and resumed by itself, and if it is advanced its states are changed
abbrev pub suspended_alone : Instruction → List Low
suspended_alone i = map (λ s. lows.Suspend (s ∷ [])) (option_to_list (suspension_of i))

abbrev pub resumed_alone : Instruction → List Low
resumed_alone i = map (λ s. lows.Resume (s.name ∷ [])) (option_to_list (suspension_of i))

abbrev pub changed_alone : Direction → Instruction → List Low
changed_alone direction i = map (λ c. lows.CodeChange direction (c.1 ∷ [])) (option_to_list (change_of i))

-- all that an instruction gives
abbrev pub alone : Direction → Way → Instruction → List Low
alone direction way i =
    suspended_alone i ++ flat_map told_out (work_of way i) ++ changed_alone direction i ++ resumed_alone i

-- what stands before the point of no return, and what stands behind it
abbrev pub IsObjectCode : Low → Type 0
IsObjectCode (lows.LoadObjectCode app vsn ms) = ⊤
IsObjectCode low = ⊥

abbrev pub IsPart : Low → Type 0
IsPart (lows.LoadObjectCode app vsn ms) = ⊥
IsPart lows.PointOfNoReturn = ⊥
IsPart low = ⊤
