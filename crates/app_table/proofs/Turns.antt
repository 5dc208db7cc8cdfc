-- An entry that moves, and those between by one.
use Rattle.std.proofs.Common.{◌≡◌, ◌<◌, ◌+◌, ℕ, zero, suc, List, [], ◌∷◌, ◌++◌, refl, sym, ap, ◌∙◌, arith, append_assoc, drop, get_or, length, take, zero-add}
use Rattle.std.specs.List.{insert, remove}
use Rattle.std.proofs.lemmas.List.{take-take}

-- towards the end
pub turned_up : (xs : List ℕ) (a j : ℕ) → a + j < length xs → take a xs ++ ((drop 1 (take (suc j) (drop a xs)) ++ take 1 (take (suc j) (drop a xs))) ++ drop (suc j) (drop a xs)) ≡ insert (remove xs a) (a + j) (get_or xs a 0)
turned_up [] a j within = absurd (omega (arith, within))
turned_up (x ∷ xs) zero j within =
    append_assoc (take j xs) (x ∷ []) (drop j xs) ∙ ap (λ n. insert xs n x) (sym (zero-add j))
turned_up (x ∷ xs) (suc a) j within =
    ap (λ ys. x ∷ ys) (turned_up xs a j (omega (arith, within))) ∙ ap (λ n. insert (x ∷ remove xs a) n (get_or xs a 0)) (let e : suc (a + j) ≡ suc a + j = omega arith in e)

-- towards the front
last_of : (xs : List ℕ) (n : ℕ) → n < length xs → drop n (take (suc n) xs) ≡ get_or xs n 0 ∷ []
last_of [] n within = absurd (omega (arith, within))
last_of (x ∷ xs) zero within = refl
last_of (x ∷ xs) (suc n) within = last_of xs n (omega (arith, within))

last_first : (xs : List ℕ) (n : ℕ) → n < length xs → (drop n (take (suc n) xs) ++ take n (take (suc n) xs)) ++ drop (suc n) xs ≡ get_or xs n 0 ∷ remove xs n
last_first xs n within =
    ap (λ ys. (ys ++ take n (take (suc n) xs)) ++ drop (suc n) xs) (last_of xs n within) ∙ ap (λ ys. (get_or xs n 0 ∷ ys) ++ drop (suc n) xs) (take-take n (suc n) xs (omega arith))

pub turned_down : (xs : List ℕ) (a j : ℕ) → a + j < length xs → take a xs ++ ((drop j (take (suc j) (drop a xs)) ++ take j (take (suc j) (drop a xs))) ++ drop (suc j) (drop a xs)) ≡ insert (remove xs (a + j)) a (get_or xs (a + j) 0)
turned_down [] a j within = absurd (omega (arith, within))
turned_down (x ∷ xs) zero j within =
    last_first (x ∷ xs) j (let below : j < length (x ∷ xs) = omega (arith, within) in below) ∙ ap (λ n. get_or (x ∷ xs) n 0 ∷ remove (x ∷ xs) n) (sym (zero-add j))
turned_down (x ∷ xs) (suc a) j within =
    let next : suc (a + j) ≡ suc a + j = omega arith in
    ap (λ ys. x ∷ ys) (turned_down xs a j (omega (arith, within))) ∙ ap (λ n. insert (remove (x ∷ xs) n) (suc a) (get_or (x ∷ xs) n 0)) next
