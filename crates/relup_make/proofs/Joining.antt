-- Parts one behind the other.
use Rattle.std.proofs.Common.{◌≡◌, List, [], ◌∷◌, ◌++◌, map, Option, Some, None, ap, ◌∙◌, refl, append_assoc, Bool, true, false}
use Rattle.std.specs.Prelude.{if◌then◌else◌, option_and_then}
use Rattle.std.specs.List.{cons_option, filter, filter_map}
use Rattle.low_instructions.specs.declared.modules.ModuleChange.{ModuleChange}
use Rattle.high_instructions.specs.declared.words.ModuleType.{ModuleType}
use Rattle.instructions.specs.declared.instruction.Instruction.{Instruction}
use Rattle.relup_make.specs.Chosen.{change_for, is_wanted}
use Rattle.relup_make.specs.Parts.{change_of, changes, changes_of_kind, is_kind}

pub four : {A : Type 0} (p0 p1 p2 p3 p4 a b c d : List A) → p1 ≡ p0 ++ a → p2 ≡ p1 ++ b → p3 ≡ p2 ++ c → p4 ≡ p3 ++ d → p4 ≡ p0 ++ (a ++ b ++ c ++ d)
four p0 p1 p2 p3 p4 a b c d e1 e2 e3 e4 =
    e4 ∙ ap (λ p. p ++ d) (e3 ∙ ap (λ p. p ++ c) (e2 ∙ ap (λ p. p ++ b) e1)) ∙ simp append_assoc

pub five : {A : Type 0} (p0 p1 p2 p3 p4 p5 a b c d e : List A) → p1 ≡ p0 ++ a → p2 ≡ p1 ++ b → p3 ≡ p2 ++ c → p4 ≡ p3 ++ d → p5 ≡ p4 ++ e → p5 ≡ p0 ++ (a ++ b ++ c ++ d ++ e)
five p0 p1 p2 p3 p4 p5 a b c d e e1 e2 e3 e4 e5 =
    e5 ∙ ap (λ p. p ++ e) (e4 ∙ ap (λ p. p ++ d) (e3 ∙ ap (λ p. p ++ c) (e2 ∙ ap (λ p. p ++ b) e1))) ∙ simp append_assoc

-- The changes of both kinds, and of one

pub changes_of_both : (is : List Instruction) → filter_map (change_for None) is ≡ changes is
changes_of_both [] = refl
changes_of_both (i ∷ others) = one (change_of i) (filter_map (change_for None) others) (filter_map change_of others) (changes_of_both others)
  where
    one : (o : Option (ModuleType × ModuleChange)) (ys : List ModuleChange) (zs : List (ModuleType × ModuleChange)) → ys ≡ map (λ c. c.1) zs → cons_option (option_and_then (λ c. if is_wanted None c.0 then Some c.1 else None) o) ys ≡ map (λ c. c.1) (cons_option o zs)
    one None ys zs e = e
    one (Some c) ys zs e = ap (λ us. c.1 ∷ us) e

pub changes_of_one : (kind : ModuleType) (is : List Instruction) → filter_map (change_for (Some kind)) is ≡ changes_of_kind kind is
changes_of_one kind [] = refl
changes_of_one kind (i ∷ others) = one (change_of i) (filter_map (change_for (Some kind)) others) (filter_map change_of others) (changes_of_one kind others)
  where
    test : (b : Bool) (c : ModuleChange) (t : ModuleType) (ys : List ModuleChange) (zs : List (ModuleType × ModuleChange)) → ys ≡ map (λ d. d.1) zs → cons_option (if b then Some c else None) ys ≡ map (λ d. d.1) (if b then (t, c) ∷ zs else zs)
    test true c t ys zs e = ap (λ us. c ∷ us) e
    test false c t ys zs e = e

    one : (o : Option (ModuleType × ModuleChange)) (ys : List ModuleChange) (zs : List (ModuleType × ModuleChange)) → ys ≡ map (λ c. c.1) (filter (λ c. is_kind c.0 kind) zs) → cons_option (option_and_then (λ c. if is_wanted (Some kind) c.0 then Some c.1 else None) o) ys ≡ map (λ c. c.1) (filter (λ c. is_kind c.0 kind) (cons_option o zs))
    one None ys zs e = e
    one (Some c) ys zs e = test (is_kind c.0 kind) c.1 c.0 ys (filter (λ d. is_kind d.0 kind) zs) e
