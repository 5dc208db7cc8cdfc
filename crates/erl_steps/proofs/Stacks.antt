-- What is pushed last is on top.
use Rattle.std.specs.Prelude.{◌≡◌, ℕ, ◌+◌, Bool, true, List, [], ◌∷◌, ◌++◌, length, refl, Option, None, Some, MatchOption}
use Rattle.std.specs.Option.{option_to_list}
use Rattle.std.proofs.Common.{arith, ap, sym, ◌∙◌}
use Rattle.erl_steps.specs.declared.stack.Frame.{Frame}
use Rattle.erl_steps.specs.Machine as machine
use Rattle.erl_steps.specs.Views.{frame_of, onto}

pub onto_push : (below : List machine.Frame) (fs : List Frame) (f : Frame) → onto below (fs ++ f ∷ []) ≡ frame_of f ∷ onto below fs
onto_push below [] f = refl
onto_push below (g ∷ gs) f = onto_push (frame_of g ∷ below) gs f

pub stack_push : (old new : List Frame) (f : Frame) → new ≡ old ++ f ∷ [] → onto [] new ≡ frame_of f ∷ onto [] old
stack_push old new f is = ap (onto []) is ∙ onto_push [] old f

-- a call ends with the value, or more is to be done
pub tail_of_top : (f : machine.Frame) (fs : List machine.Frame) → machine.is_tail (f ∷ fs) ≡ machine.is_tail (f ∷ [])
tail_of_top (machine.operands op ts es) fs = refl
tail_of_top (machine.onward es) fs = refl
tail_of_top (machine.binding p) fs = refl
tail_of_top (machine.cases cs) fs = refl
tail_of_top (machine.deciding c right) fs = refl
tail_of_top (machine.scope n) fs = refl
tail_of_top (machine.caller env a) fs = refl
tail_of_top (machine.starter st env a m) fs = refl

none_there : {A : Type 0} (xs : List A) → length xs ≡ 0 → xs ≡ []
none_there [] none = refl
none_there (x ∷ xs) none = absurd (omega (arith, none))

pub stack_none : (fs : List Frame) → length fs ≡ 0 → onto [] fs ≡ []
stack_none fs none = ap (onto []) (none_there fs none)

pub stack_pop : (o : Option Frame) (old new : List Frame) (m n : ℕ) → m ≡ length old → n ≡ length new →
    old ≡ new ++ option_to_list o → MatchOption o ((m ≡ 0) × (n ≡ 0)) (λ f. n + 1 ≡ m) →
    MatchOption o ((onto [] old ≡ []) × (onto [] new ≡ [])) (λ f. onto [] old ≡ frame_of f ∷ onto [] new)
stack_pop None old new m n long short is none = (stack_none old (sym long ∙ none.0), stack_none new (sym short ∙ none.1))
stack_pop (Some f) old new m n long short is some = stack_push new old f is

pub tail_at_top : (fs gs all : List Frame) (f : Frame) (b : Bool) → all ≡ fs → fs ≡ gs ++ f ∷ [] → b ≡ machine.is_tail (frame_of f ∷ []) →
    b ≡ machine.is_tail (onto [] all)
tail_at_top fs gs all f b same is tail = tail ∙ sym (ap (λ xs. machine.is_tail (onto [] xs)) same ∙ ap machine.is_tail (stack_push gs fs f is) ∙ tail_of_top (frame_of f) (onto [] gs))

pub tail_of_none : (fs all : List Frame) → all ≡ fs → length fs ≡ 0 → true ≡ machine.is_tail (onto [] all)
tail_of_none fs all same none = sym (ap machine.is_tail (ap (onto []) same ∙ stack_none fs none))
