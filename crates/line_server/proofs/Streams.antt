-- Lemmas on what calls did to a reader's and a writer's bytes.
use Rattle.std.proofs.Common.{◌≡◌, ℕ, ◌-◌, List, ◌++◌, length, take, drop, Option, None, Some, Result, Ok, Err, IsErr, sym, ap, ◌∙◌, append_assoc, take-append-drop}
use Rattle.std.specs.Io.KnownBytes.{Keeps, Appends, WriteAppends}
use Rattle.std.proofs.KnownBytes.{Appends-trans, Keeps-trans}
use Rattle.std.proofs.lemmas.List.{take_rest}

pub Appends-after : (a b c : Option (List ℕ)) (bs : List ℕ) → Keeps a b → Appends b c bs → Appends a c bs
Appends-after None b c bs p q = tt
Appends-after (Some x) None c bs p q = absurd p
Appends-after (Some x) (Some y) None bs p q = absurd q
Appends-after (Some x) (Some y) (Some z) bs p q = q ∙ ap (λ l. l ++ bs) p

-- a call that was interrupted did nothing
pub WriteAppends-interrupted : {E : Type 0} (a b c : Option (List ℕ)) (r s : Result ℕ E) (buf : List ℕ) → IsErr r → WriteAppends a b r buf → WriteAppends b c s buf → WriteAppends a c s buf
WriteAppends-interrupted a b c (Ok n) s buf interrupted p q = absurd (let no : ⊥ = cc in no)
WriteAppends-interrupted a b c (Err e) (Ok n) buf interrupted p q = Appends-after a b c (take n buf) p q
WriteAppends-interrupted a b c (Err e) (Err f) buf interrupted p q = Keeps-trans a b c p q

-- a front of what is left was written too
pub Appends-more : (a b c : Option (List ℕ)) (text taken left : List ℕ) (n : ℕ) → text ≡ taken ++ left → Appends a b taken → Appends b c (take n left) → (more : List ℕ) × (text ≡ more ++ take (length left - n) (drop n left)) × Appends a c more
Appends-more a b c text taken left n is before written = (
  taken ++ take n left,
  is ∙ ap (λ l. taken ++ l) (sym (take-append-drop n left) ∙ ap (λ l. take n left ++ l) (sym (take_rest left n))) ∙ sym (append_assoc taken (take n left) (take (length left - n) (drop n left))),
  Appends-trans a b c taken (take n left) before written,
)
