-- The base applications, looked at one after the other.
use Rattle.std.proofs.Common.{◌≡◌, Bool, true, false, not, if◌then◌else◌, [], ◌∷◌, map, Option, None, Some, sym, ap, ◌∙◌, refl}
use Rattle.std.specs.Prelude.{Result, Ok, Err, IfOk, filter}
use Rattle.std.proofs.lemmas.Option.{none-some, same_Some}
use Rattle.high_instructions.specs.Forms.{Name, Names}
use Rattle.relup_make.specs.declared.error.MakeError.{MakeError}
use Rattle.relup_make.specs.declared.error.MakeError.TheVariants.{BaseChanged}
use Rattle.relup_make.specs.Refusals.{first_of}

-- what one look tells

pub is_kept : (b : Bool) (e : MakeError) (found : Option MakeError) → found ≡ (if b then None else Some e) → found ≡ None → b ≡ true
is_kept true e found told none = refl
is_kept false e found told none = absurd (none-some e (sym none ∙ told))

pub is_changed : (b : Bool) (e d : MakeError) (found : Option MakeError) → found ≡ (if b then None else Some e) → found ≡ Some d →
    (b ≡ false) × (d ≡ e)
is_changed true e d found told some = absurd (none-some d (sym told ∙ some))
is_changed false e d found told some = (refl, same_Some d e (sym some ∙ told))

-- what all looks tell

pub passed : (is_base_kept : Name → Bool) (n : Name) (ns : Names) → is_base_kept n ≡ true →
    first_of (map BaseChanged (filter (λ m. not (is_base_kept m)) (n ∷ ns))) ≡ first_of (map BaseChanged (filter (λ m. not (is_base_kept m)) ns))
passed is_base_kept n ns kept =
    let others = filter (λ m. not (is_base_kept m)) ns in
    ap (λ b. first_of (map BaseChanged (if not b then n ∷ others else others))) kept

pub told : (is_base_kept : Name → Bool) (n : Name) (ns : Names) → is_base_kept n ≡ false →
    first_of (map BaseChanged (filter (λ m. not (is_base_kept m)) (n ∷ ns))) ≡ Some (BaseChanged n)
told is_base_kept n ns changed =
    let others = filter (λ m. not (is_base_kept m)) ns in
    ap (λ b. first_of (map BaseChanged (if not b then n ∷ others else others))) changed

by_last : (b : Bool) (n : Name) → (if b then None else Some (BaseChanged n)) ≡ first_of (map BaseChanged (if not b then n ∷ [] else []))
by_last true n = refl
by_last false n = refl

pub last : (is_base_kept : Name → Bool) (n : Name) →
    (if is_base_kept n then None else Some (BaseChanged n)) ≡ first_of (map BaseChanged (filter (λ m. not (is_base_kept m)) (n ∷ [])))
last is_base_kept n = by_last (is_base_kept n) n

pub if_found : {E : Type 0} (x y : Option MakeError) (r : Result (Option MakeError) E) → x ≡ y → IfOk r (λ found. found ≡ x) → IfOk r (λ found. found ≡ y)
if_found x y (Ok found) same is = is ∙ same
if_found x y (Err e) same is = is
