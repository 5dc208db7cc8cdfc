-- What is found in two lists, one after the other.
use Rattle.std.proofs.Common.{◌≡◌, ◌↔◌, ◌⊎◌, ◌++◌, List, Contains, inl, inr, subst, sym}
use Rattle.std.proofs.lemmas.List.Elements.{Contains-append_cases, Contains-append_left, Contains-append_right}

pub found_in_both : {F : Type 0} (xs ys all : List F) (P Q : F → Type 0) → all ≡ xs ++ ys →
    ((f : F) → Contains xs f ↔ P f) → ((f : F) → Contains ys f ↔ Q f) → (f : F) → Contains all f ↔ (P f ⊎ Q f)
found_in_both xs ys all P Q is of_xs of_ys f = (
  (λ there. elim (Contains-append_cases xs ys f (subst (λ zs. Contains zs f) is there)) [
    | inl first ↦ inl ((of_xs f).0 first)
    | inr second ↦ inr ((of_ys f).0 second)
  ]),
  (λ either. subst (λ zs. Contains zs f) (sym is) (elim either [
    | inl first ↦ Contains-append_left xs ys f ((of_xs f).1 first)
    | inr second ↦ Contains-append_right xs ys f ((of_ys f).1 second)
  ])),
)
