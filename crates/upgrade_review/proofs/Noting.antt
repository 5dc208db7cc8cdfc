-- What a step notes, if no allocation fails.
use Rattle.std.proofs.Common.{◌≡◌, ℕ, Bool, true, false, not, List, Option, None, Some, Result, Ok, Err, IsTrue, OnOk, ◌↔◌, ◌⊎◌}
use Rattle.std.proofs.Common.{is_some, refl, sym, ap, subst, codes, ◌∙◌}
use Rattle.erl_ir.specs.Module.{Forms, exported_of}
use Rattle.upgrade_review.proofs.Adding.{adds_alike, adds_both, adds_nothing}
use Rattle.upgrade_review.specs.Gathering.{Adds, LacksCodeChange, OfApp}
use Rattle.upgrade_review.specs.declared.finding.Finding.{Finding}

pub on_ok : {T E : Type 0} (r : Result T E) (P Q : Type 0) → (P → Q) → OnOk r P → OnOk r Q
on_ok (Ok x) P Q then p = then p
on_ok (Err e) P Q then p = tt

-- one finding is noted, which is the only one of a kind
pub noted : {T E : Type 0} (r : Result T E) (Q : Finding → Type 0) (finding : Finding) (old new : List Finding) → Q finding →
    ((f : Finding) → Q f → f ≡ finding) → OnOk r (Adds (λ f. f ≡ finding) old new) → OnOk r (Adds Q old new)
noted r Q finding old new is only on = on_ok r (Adds (λ f. f ≡ finding) old new) (Adds Q old new)
    (λ adds. adds_alike (λ f. f ≡ finding) Q old new (λ f same. subst Q (sym same) is) only adds) on

-- what is noted of an application, if there is one
pub noted_of : {T E : Type 0} (r : Result T E) (R : List ℕ → Finding → Type 0) (app : Option (List ℕ)) (name : List ℕ)
    (old new : List Finding) → app ≡ Some name → OnOk r (Adds (R name) old new) → OnOk r (Adds (OfApp R app) old new)
noted_of r R app name old new is on = on_ok r (Adds (R name) old new) (Adds (OfApp R app) old new)
    (λ adds. adds_alike (R name) (OfApp R app) old new (λ f w. (name, is, w))
    (λ f w. let same : w.0 ≡ name = let both : Some w.0 ≡ Some name = sym w.1 ∙ is in cc in subst (λ n. R n f) same w.2) adds) on

-- one kind has been noted, and then another is
pub noted_both : {T E F : Type 0} (r : Result T E) (P Q : F → Type 0) (old between new : List F) → Adds P old between →
    OnOk r (Adds Q between new) → OnOk r (Adds (λ f. P f ⊎ Q f) old new)
noted_both r P Q old between new first on = on_ok r (Adds Q between new) (Adds (λ f. P f ⊎ Q f) old new)
    (λ second. adds_both P Q old between new first second) on

none_if : {A : Type 0} (o : Option A) (r : Bool) → r ≡ is_some o → IsTrue (not r) → o ≡ None
none_if None r is lacks = refl
none_if (Some x) r is lacks = let clash : false ≡ true = subst (λ b. not b ≡ true) is lacks in cc

some_unless : {A : Type 0} (o : Option A) (r : Bool) → r ≡ is_some o → o ≡ None → IsTrue (not r)
some_unless o r is none = subst (λ b. not b ≡ true) (sym (is ∙ ap is_some none)) refl

-- code lacks the function if it doesn't export it
pub lacks_is : (code : Option Forms) (c : Forms) (name : List ℕ) (r : Bool) → code ≡ Some c → name ≡ codes "code_change" →
    r ≡ is_some (exported_of name 3 c) → IsTrue (not r) ↔ LacksCodeChange code
lacks_is code c name r is word exports =
    let Missing : Forms → Type 0 = λ d. exported_of (codes "code_change") 3 d ≡ None in
    let there = exported_of (codes "code_change") 3 c in
    let told : r ≡ is_some there = subst (λ n. r ≡ is_some (exported_of n 3 c)) word exports in (
      (λ lacks. (c, is, none_if there r told lacks)),
      (λ w. let same : w.0 ≡ c = let both : Some w.0 ≡ Some c = sym w.1 ∙ is in cc in
          some_unless there r told (subst Missing same w.2)),
    )

-- one is noted if something holds, and nothing if it doesn't

pub noted_where : {T E F : Type 0} (r : Result T E) (H : Type 0) (one : F) (old new : List F) → H →
    OnOk r (Adds (λ f. f ≡ one) old new) → OnOk r (Adds (λ f. H × (f ≡ one)) old new)
noted_where r H one old new holds on = on_ok r (Adds (λ f. f ≡ one) old new) (Adds (λ f. H × (f ≡ one)) old new)
    (λ adds. adds_alike (λ f. f ≡ one) (λ f. H × (f ≡ one)) old new (λ f same. (holds, same)) (λ f w. w.1) adds) on

pub nothing_noted : {F : Type 0} (H : Type 0) (P : F → Type 0) (found : List F) → (H → ⊥) → Adds (λ f. H × P f) found found
nothing_noted H P found fails = adds_nothing (λ f. H × P f) found (λ f w. fails w.0)

-- what holds as well is known
pub noted_besides : {T E F : Type 0} (r : Result T E) (H : Type 0) (P : F → Type 0) (old new : List F) → H →
    OnOk r (Adds P old new) → OnOk r (Adds (λ f. H × P f) old new)
noted_besides r H P old new holds on = on_ok r (Adds P old new) (Adds (λ f. H × P f) old new)
    (λ adds. adds_alike P (λ f. H × P f) old new (λ f p. (holds, p)) (λ f w. w.1) adds) on
