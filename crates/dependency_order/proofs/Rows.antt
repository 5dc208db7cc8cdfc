-- Lists of numbers as vectors hold them.
use Rattle.std.proofs.Common.{◌≡◌, ◌<◌, ◌+◌, ℕ, List, [], ◌∷◌, ◌++◌, Global, Vec, length, map, replicate, set, get_or, vec_items, sym, ap, ◌∙◌, arith, take, drop, take_at}
use Rattle.std.proofs.lemmas.List.{get_or-map, map-append, map-set, replicate_more}
use Rattle.dependency_order.specs.Lists.{row}

abbrev Items : Type 0
Items = Vec ℕ Global

abbrev items_of : Items → List ℕ
items_of v = v.items

pub more_empty : (vs ws : List (Vec ℕ Global)) (v : Vec ℕ Global) (n : ℕ) → ws ≡ vs ++ v ∷ [] → v.items ≡ [] → map vec_items vs ≡ replicate {A = List ℕ} n [] → map vec_items ws ≡ replicate {A = List ℕ} (n + 1) []
more_empty vs ws v n is empty before =
    let one : List ℕ → List (List ℕ) = λ xs. xs ∷ [] in
    ap (map items_of) is ∙ map-append items_of vs (v ∷ []) ∙ ap (λ xs. map items_of vs ++ one xs) empty ∙ ap (λ xss. xss ++ one []) before ∙ replicate_more {X = List ℕ} n []

pub pushed_row : (vs : List (Vec ℕ Global)) (k : ℕ) (d w : Vec ℕ Global) (x : ℕ) → k < length vs → d ≡ get_or vs k d → w.items ≡ d.items ++ x ∷ [] →
    map vec_items (set vs k w) ≡ set (map vec_items vs) k (row (map vec_items vs) k ++ x ∷ [])
pushed_row vs k d w x below here is =
    map-set items_of vs k w ∙ ap (set (map items_of vs) k) (is ∙ ap (λ xs. xs ++ x ∷ []) (ap items_of here ∙ sym (get_or-map items_of vs k d [] below)))

-- a vector whose slice was changed
pub changed : (len : ℕ) (ps qs new : List ℕ) → qs ≡ ps → length new ≡ length qs → len ≡ length ps → new ≡ take len (new ++ drop (length new) ps)
changed len ps qs new same many long =
    let short = ap length same in
    let all : length new ≡ len = omega (arith, many, long, short) in
    sym (take_at new (drop (length new) ps) len all)
