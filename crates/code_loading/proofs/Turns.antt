-- A name's turn comes in a list of names.
use Rattle.std.proofs.Common.{◌≡◌, ℕ, ◌+◌, ◌<◌, List, ◌∷◌, drop, get_or, length, sym, ap, ◌∙◌}
use Rattle.std.proofs.lemmas.List.{drop_more}

pub turn_at : (names : List (List ℕ)) (index : ℕ) (name : List ℕ) → index < length names → name ≡ get_or names index name → drop index names ≡ name ∷ drop (index + 1) names
turn_at names index name within is =
    drop_more names index name within ∙ ap (λ x. x ∷ drop (index + 1) names) (sym is)
