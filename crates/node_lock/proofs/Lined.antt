-- Lines of a seat, compared with a history entry by entry.
use Rattle.std.proofs.Common.{◌≡◌, ◌↔◌, ℕ, Bool, true, false, if◌then◌else◌, IsTrue, List, [], ◌∷◌, ◌++◌, filter, map, nat_eq, refl, sym, ap, ◌∙◌}
use Rattle.std.proofs.lemmas.List.{append_cancel_left}
use Rattle.node_history.specs.Lists.{line_of, lines_of}
use Rattle.node_history.specs.declared.entry.Entry.{Entry}
use Rattle.node_history.specs.declared.entry.Line.{Line}

kept-cons : (b : Bool) (e : Entry) (rest : List Entry) → map line_of (if b then e ∷ rest else rest) ≡ map line_of (if b then e ∷ [] else []) ++ map line_of rest
kept-cons true e rest = refl
kept-cons false e rest = refl

lines_of-cons : (number : ℕ) (e : Entry) (more : List Entry) → lines_of number (e ∷ more) ≡ lines_of number (e ∷ []) ++ lines_of number more
lines_of-cons number e more = kept-cons (nat_eq e.seat number) e (filter (λ x. nat_eq x.seat number) more)

module _ (number : ℕ) (e : Entry) (entries more : List Entry) (left : List Line) (W : Type 0) (are : entries ≡ e ∷ more) (so-far : (left ≡ lines_of number entries) ↔ W) where
  all : lines_of number entries ≡ lines_of number (e ∷ []) ++ lines_of number more
  all = ap (λ es. lines_of number es) are ∙ lines_of-cons number e more

  pub gone_by : (rest : List Line) → left ≡ lines_of number (e ∷ []) ++ rest → (rest ≡ lines_of number more) ↔ W
  gone_by rest is = (
    (λ same. so-far.0 (is ∙ ap (λ ls. lines_of number (e ∷ []) ++ ls) same ∙ sym all)),
    (λ w. append_cancel_left (lines_of number (e ∷ [])) rest (lines_of number more) (sym is ∙ so-far.1 w ∙ all)),
  )

  pub foreign : ((rest : List Line) → left ≡ lines_of number (e ∷ []) ++ rest → ⊥) → W → ⊥
  foreign none w = none (lines_of number more) (so-far.1 w ∙ all)

pub ended : (number : ℕ) (entries : List Entry) (left : List Line) (W : Type 0) (b : Bool) → entries ≡ [] → (left ≡ lines_of number entries) ↔ W → IsTrue b ↔ (left ≡ []) → IsTrue b ↔ W
ended number entries left W b none so-far at-end =
    let no-line : lines_of number entries ≡ [] = ap (λ es. lines_of number es) none in
    ((λ yes. so-far.0 (at-end.0 yes ∙ sym no-line)), (λ w. at-end.1 (so-far.1 w ∙ no-line)))
