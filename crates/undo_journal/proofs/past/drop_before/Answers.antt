-- Turned by `count`, the entries end with the first ones, of which the last is handed out.
use Rattle.std.proofs.Common.{◌≡◌, ℕ, ◌+◌, ◌-◌, ◌<◌, ◌≤◌, List, [], ◌∷◌, ◌++◌, length, get_or, take, drop, sym, ap, ◌∙◌, refl, arith}
use Rattle.std.proofs.lemmas.List.{append_assoc, take-append-drop, take_more, length-drop, length-take-le}
use Rattle.std.proofs.Math.Seq.{take-append_seam}
use Rattle.undo_journal.proofs.past.drop_before.Goals as goal

-- two lists that end with an element each
last_apart : {X : Type 0} (xs ys : List X) (x y : X) → xs ++ x ∷ [] ≡ ys ++ y ∷ [] → (xs ≡ ys) × (x ≡ y)
last_apart [] [] x y is = (refl, cc)
last_apart [] (v ∷ []) x y is = absurd (let no : ⊥ = cc in no)
last_apart [] (v ∷ w ∷ ys) x y is = absurd (let no : ⊥ = cc in no)
last_apart (u ∷ []) [] x y is = absurd (let no : ⊥ = cc in no)
last_apart (u ∷ w ∷ xs) [] x y is = absurd (let no : ⊥ = cc in no)
last_apart (u ∷ xs) (v ∷ ys) x y is =
    let first : u ≡ v = cc in
    let rest = last_apart xs ys x y cc in
    (rw (first, rest.0) refl, rest.1)

turned : {X : Type 0} (xs popped : List X) (entry : X) (count : ℕ) → 0 < count → count ≤ length xs → drop count xs ++ take count xs ≡ popped ++ entry ∷ [] → (xs ≡ take (count - 1) xs ++ entry ∷ take (length xs - count) popped) × (length (take (count - 1) xs) + 1 ≡ count)
turned xs popped entry count some within is =
    let k = count - 1 in
    let count_is : k + 1 ≡ count = omega (arith, some) in
    let x = get_or xs k entry in
    let front : take count xs ≡ take k xs ++ x ∷ [] = ap (λ n. take n xs) (sym count_is) ∙ take_more xs k entry (omega (arith, some, within)) in
    let ends = last_apart (drop count xs ++ take k xs) popped x entry (append_assoc (drop count xs) (take k xs) (x ∷ []) ∙ ap (λ ys. drop count xs ++ ys) (sym front) ∙ is) in
    let many : length xs - count ≡ length (drop count xs) = sym (length-drop count xs) in
    let behind : take (length xs - count) popped ≡ drop count xs = ap (λ ys. take (length xs - count) ys) (sym ends.0) ∙ ap (λ n. take n (drop count xs ++ take k xs)) many ∙ take-append_seam (drop count xs) (take k xs) in (
      sym (take-append-drop count xs) ∙ ap (λ ys. ys ++ drop count xs) front ∙ append_assoc (take k xs) (x ∷ []) (drop count xs) ∙ ap (λ y. take k xs ++ y ∷ drop count xs) ends.1 ∙ ap (λ ys. take k xs ++ entry ∷ ys) (sym behind),
      ap (λ n. n + 1) (length-take-le k xs (omega (arith, some, within))) ∙ count_is,
    )

pub returns : goal.returns
returns g c =
    let xs = c.args.past.now.items in
    let popped = c.pop.new.self.items in
    let parts = turned xs popped c.in-Some.entry c.args.count c.requires.nonempty (omega (arith, c.requires.within, c.args.past.now.ok.0)) (sym c.rotate_left.ensures.items ∙ c.in-Some.ensures.items) in
    let left : c.len.result - (c.args.count - 1) ≡ length xs - c.args.count = omega (arith, c.len.ensures, c.in-Some.ensures.len, c.rotate_left.ensures.len, c.requires.nonempty, c.args.past.now.ok.0) in
    let rest = c.truncate.ensures.items ∙ ap (λ n. take n popped) left in
    (take (c.args.count - 1) xs, parts.0 ∙ ap (λ ys. take (c.args.count - 1) xs ++ c.in-Some.entry ∷ ys) (sym rest), parts.1)
